-- How the code lays a list down: one pulse after the other, each added to the last row or given one of its own; where a list's records lie;
-- and an end noted. Definitions only; that the rows are those of `summed`, and the records those of `records_of`, are laws (`kept-summed` in
-- `proofs/Kept.antt`, `spans` in `proofs/Spans.antt`).
use Rattle.std.specs.Prelude.{ℕ, ◌+◌, ◌-◌, ◌*◌, ◌&&◌, cond, List, [], ◌∷◌, ltb, Float, get_or, set}
use Rattle.std.specs.Float.{nan}
use Rattle.pulse.specs.declared.list.Pulse.{Pulse}
use Rattle.tables.specs.declared.Tables.{Tables}
use Rattle.tables.specs.Tables.{channel_at}
use Rattle.merge.specs.declared.taking.Taking.{Taking}
use Rattle.merge.specs.declared.work.Ends.{Ends}
use Rattle.merge.specs.declared.work.Span.{Span}
use Rattle.merge.specs.Sum.{plus_p, together_in_bin}
use Rattle.merge.specs.Work.{row_of_pulse, mark_of, Laid, laid}

-- the pulse that a row and its mark stand for
abbrev pub pulse_in : List Float → ℕ → Pulse
pulse_in row mark =
    record {
      bin = mark;
      time = record { 0 = get_or row 0 nan };
      amp = record { re = get_or row 1 nan; im = get_or row 2 nan };
      drag = record { re = get_or row 3 nan; im = get_or row 4 nan };
    }

abbrev pub last_in : Laid → Pulse
last_in w = pulse_in (get_or w.rows (w.at - 1) []) (get_or w.marks (w.at - 1) 0)

-- one pulse more, where the list's rows begin at `from`
unfoldable pub kept_in : ℕ → Float → Pulse → Laid → Laid
kept_in from tolerance p w =
    cond (ltb from w.at && together_in_bin tolerance (last_in w) p)
    (laid (set w.rows (w.at - 1) (row_of_pulse (plus_p (last_in w) p))) w.marks w.at)
    (laid (set w.rows w.at (row_of_pulse p)) (set w.marks w.at (mark_of p)) (w.at + 1))

-- some pulses more
unfoldable pub kept_all : ℕ → Float → List Pulse → Laid → Laid
kept_all from tolerance [] w = w
kept_all from tolerance (p ∷ ps) w = kept_all from tolerance ps (kept_in from tolerance p w)

-- at most eight lists
abbrev pub lists_in : Taking → ℕ
lists_in t = cond (ltb t.count 8) t.count 8

-- where channel i's records lie
abbrev pub span : ℕ → ℕ → Span
span from count = record { from = from; count = count }

abbrev pub span_of : Tables → ℕ → Span
span_of t i = cond (ltb i 8) (span (1024 * i) (cond (ltb (channel_at t i).pulses 1024) (channel_at t i).pulses 1024)) (span 0 0)

-- with list k's end noted
abbrev pub with_end : Ends → ℕ → ℕ → Ends
with_end e k at = record { ends = set e.ends k at }
