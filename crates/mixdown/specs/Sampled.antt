-- Document 01: pulses added onto rows one after another, up to the first that is refused: "a refused pulse writes no sample, pulses before it
-- in the same call stay added"; the answer's place and count are pulses added. Definitions only.
use Rattle.quant.specs.Refusal.{Answer, refuse}
use Rattle.std.specs.Prelude.{ℕ, suc, ◌-◌, Bool, true, ◌&&◌, cond, List, [], ◌∷◌, leb, eqb, Float, length, take, Result, Ok, Err}
use Rattle.quant.specs.declared.refusal.Refusal.{Refusal}
use Rattle.shape.specs.declared.parts.Parts.{Parts}
use Rattle.quant.specs.declared.refusal.Refusal.TheVariants.{WrongSize}
use Rattle.quant.specs.declared.settings.Settings.{Settings}
use Rattle.rows.specs.Rows.{rows_fit}
use Rattle.tables.specs.declared.Tables.{Tables}
use Rattle.merge.specs.declared.taking.Taking.{Taking}
use Rattle.merge.specs.declared.work.Ends.{Ends}
use Rattle.merge.specs.Taking.{parts_in}
use Rattle.shape.specs.Parts.{parted_of}
use Rattle.shape.specs.Envelope.{least, scratch_after}
use Rattle.mix.specs.Part.{first_row, second_row}
use Rattle.mix.specs.Plateau.{real, imaginary, carried}
use Rattle.mix.specs.Envelope.{shaped_by}
use Rattle.pulse.specs.declared.bin.Bin.{Bin}
use Rattle.pulse.specs.declared.list.Pulse.{Pulse}
use Rattle.pulse.specs.Bin.{bin_of, numbers_of}
use Rattle.placing.specs.declared.Flat.{Flat}
use Rattle.placing.specs.declared.Curved.{Curved}
use Rattle.placing.specs.declared.Judged.{Judged}
use Rattle.placing.specs.declared.Judged.TheVariants.{Plateau, Shaped}
use Rattle.placing.specs.Judged.{judged}
use Rattle.mixdown.specs.Bins.{all_rows, firsts_after}
use Rattle.mixdown.specs.Starts.{merged_in}

-- ---- the rows of a call, and its scratch
pub record Rowed : Type 0 where
  pub i : List Float
  pub q : List Float
  pub scratch : List Float

abbrev pub rowed : List Float → List Float → List Float → Rowed
rowed i q scratch = record { i = i; q = q; scratch = scratch }

-- how a call goes so far: done with so many pulses added, or refused behind them
pub record Out : Type 0 where
  pub answer : Answer
  pub left : Rowed

abbrev pub out : Answer → Rowed → Out
out a st = record { answer = a; left = st }

-- ---- one pulse, by what it was judged to be; `rows` is 1 or 2

-- no shape: the carrier from its start on
abbrev pub with_plateau : ℕ → Flat → Rowed → Rowed
with_plateau rows f st =
    rowed
    (first_row rows f.start f.count st.i st.q (carried real f.carrier f.rotation))
    (second_row rows f.start f.count st.i st.q (carried imaginary f.carrier f.rotation))
    st.scratch

-- the parts of its envelope in what is left of a row
abbrev pub parts_at : Settings → Bin → Float → ℕ → Result Parts Refusal
parts_at s b offset room = parted_of b.envelope.width.0 b.envelope.plateau.0 offset s.rate.0 s.dt.0 (least room 65536)

-- with the envelope's points in the scratch
abbrev pub with_points : ℕ → Curved → List Float → List Float → List Float → Rowed
with_points rows c i q scratch =
    rowed
    (first_row rows c.start c.points i q (shaped_by real c.amp c.drag c.rotation (take c.points scratch) c.carrier))
    (second_row rows c.start c.points i q (shaped_by imaginary c.amp c.drag c.rotation (take c.points scratch) c.carrier))
    scratch

-- a shape: its envelope goes to the scratch, and the carrier times the envelope and its slope onto the rows
abbrev pub with_shape : Settings → Bin → List Float → ℕ → Curved → Rowed → Rowed
with_shape s b numbers rows c st =
    with_points rows c st.i st.q (scratch_after b.envelope.shape numbers (parts_at s b c.offset (length st.i - c.start)) st.scratch)

abbrev pub added_to : Settings → Bin → List Float → ℕ → Result Judged Refusal → Rowed → Rowed
added_to s b numbers rows (Ok (Plateau f)) st = with_plateau rows f st
added_to s b numbers rows (Ok (Shaped c)) st = with_shape s b numbers rows c st
added_to s b numbers rows (Err r) st = st

-- ---- one after another

-- a refusal ends the call, with k pulses added before; else it goes on
abbrev pub unless_refused : Result Judged Refusal → ℕ → Rowed → Out → Out
unless_refused (Err r) k st next = out (refuse r k) st
unless_refused (Ok (Plateau f)) k st next = next
unless_refused (Ok (Shaped c)) k st next = next

-- the pulses of a bin
unfoldable pub ran_pulses : Settings → Bin → List Float → ℕ → List Pulse → ℕ → Rowed → Out
ran_pulses s b numbers rows [] k st = out (Ok k) st
ran_pulses s b numbers rows (p ∷ ps) k st =
    let j = judged s b numbers p (length st.i) in
    unless_refused j k st (ran_pulses s b numbers rows ps (suc k) (added_to s b numbers rows j st))

-- what comes behind a call's first part, unless that was refused
abbrev pub and_then : Out → (ℕ → Rowed → Out) → Out
and_then o next = go o.answer
  where
    go : Answer → Out
    go (Ok k) = next k o.left
    go (Err e) = o

-- the bins in order, each with its pulses
unfoldable pub ran_bins : Settings → ℕ → (List Float → List Pulse) → List (List Float) → ℕ → Rowed → Out
ran_bins s rows merged [] k st = out (Ok k) st
ran_bins s rows merged (r ∷ rs) k st = and_then (ran_pulses s (bin_of r) (numbers_of r) rows (merged r) k st) (ran_bins s rows merged rs)

-- ---- the whole of it, for anything that is lent

-- no list ends past the work rows
unfoldable pub ends_fit : List ℕ → Bool
ends_fit [] = true
ends_fit (e ∷ es) = leb e 8192 && ends_fit es

-- 64 bins for each of eight channels, 1,024 work rows and marks for each of eight lists, rows of a size that rows have, and a scratch no shorter
abbrev pub mix_fits : Taking → Ends → ℕ → ℕ → ℕ → ℕ → ℕ → ℕ → ℕ → Bool
mix_fits taking ends bins work marks rows i q scratch =
    eqb bins 512 && eqb work 8192 && eqb marks 8192 && (leb taking.count 8 && ends_fit ends.ends) && (rows_fit rows i q && leb i scratch)

-- the bins by first appearance, each with its pulses as the work rows hold them; 13 for other sizes
unfoldable pub mixed_down : Settings → Tables → Taking → Ends → List (List Float) → List (List Float) → List ℕ → ℕ → Rowed → Out
mixed_down s t taking ends bins work marks rows st =
    cond (mix_fits taking ends (length bins) (length work) (length marks) rows (length st.i) (length st.q) (length st.scratch))
    (ran_bins s rows (merged_in t bins work marks (parts_in taking) ends.ends) (firsts_after [] (all_rows t bins (parts_in taking))) 0 st)
    (out (refuse WrongSize 0) st)
