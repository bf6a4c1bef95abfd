-- Document 01, "What each number means", of a call's outcome: "A refusal returns its number and a place: commands run, pulses added in this call
-- (after merging) ..; elsewhere 0. Acceptance returns the count of commands run or pulses added, .. 0 elsewhere. Only earlier commands or pulses of
-- the same call remain." Definitions only.
use Rattle.std.specs.Prelude.{ℕ, suc, ◌*◌, ◌<◌, ◌≡◌, true, false, List, [], ◌∷◌, Float, length, take, drop, Some, Ok, Err}
use Rattle.exact.specs.Among.{among}
use Rattle.quant.specs.declared.refusal.Refusal.{Refusal}
use Rattle.quant.specs.declared.settings.Settings.{Settings}
use Rattle.quant.specs.Refusal.{number_of, Answer, refuse}
use Rattle.quant.specs.Settings.{fitting_of}
use Rattle.iir.specs.A0.{AtSection}
use Rattle.commands.specs.declared.command.Arranged.{Arranged}
use Rattle.commands.specs.Run.{sizes_fit}
use Rattle.commands_laws.specs.Sound.{Sound}
use Rattle.merge.specs.Taking.{Part, parts_in}
use Rattle.merge.specs.Work.{gathered_of}
use Rattle.crosstalk.specs.declared.names.Crosstalk.{Crosstalk}
use Rattle.crosstalk.specs.Crosstalk.{names_in, cross_fits, cross_fine, planned, taking_of}
use Rattle.crosstalk.specs.Faults.{FirstAtFault}
use Rattle.placing.specs.Judged.{judged, judged_answer}
use Rattle.mixdown.specs.Bins.{bins_by, merged_of}
use Rattle.sampler.specs.declared.Request.{Request}
use Rattle.sampler.specs.Prepared.{settings_of}
use Rattle.sampler.specs.Sizes as lent
use Rattle.sampler_laws.specs.Added.{Due, all_dues, with_all}
use Rattle.system.specs.System.{State, Call, make, add-channel, add-shape, add-spline, execute, sample, mixer, iir, fir, Event, calls, lends, Outcome, told, with_lent, Promised, outcome}

-- "Order for a command: 2, 4, 5, 6, 7, 8, 3"
abbrev pub command_numbers : List ℕ
command_numbers = 2 ∷ 4 ∷ 5 ∷ 6 ∷ 7 ∷ 8 ∷ 3 ∷ []

-- "then each pulse: 8 for its index, 9, 10, 11, 12, 8 for the rest"
abbrev pub pulse_numbers : List ℕ
pulse_numbers = 8 ∷ 9 ∷ 10 ∷ 11 ∷ 12 ∷ []

-- ---- refused before anything changed: with one of these numbers, at this place, and all is as it came
pub record AsItCame (numbers : List ℕ) (at : ℕ) (came : State) (why : Refusal) (k : ℕ) (u : State) : Type 0 where
  pub number : among numbers (number_of why) ≡ true
  pub place : k ≡ at
  pub left : u ≡ came

-- "Tables are made with both tolerances and the oversize choice: 1"
abbrev pub MakeSaid : State → Answer → State → Type 0
MakeSaid s (Ok k) u = k ≡ 0
MakeSaid s (Err e) u = AsItCame (1 ∷ []) 0 s e.why e.place u

-- "Adding a channel or shape: 2, 3"; of a shape 13 first, where its lent rows are not eight; of a spline "a new 16 for falling knots or wrong counts, after
-- 2 and before 3"
abbrev pub channel_numbers : List ℕ
channel_numbers = 2 ∷ 3 ∷ []

abbrev pub shape_numbers : List ℕ
shape_numbers = 13 ∷ 2 ∷ 3 ∷ []

abbrev pub spline_numbers : List ℕ
spline_numbers = 13 ∷ 2 ∷ 16 ∷ 3 ∷ []

abbrev pub AddSaid : List ℕ → State → Answer → State → Type 0
AddSaid numbers s (Ok k) u = k ≡ 0
AddSaid numbers s (Err e) u = AsItCame numbers 0 s e.why e.place u

-- "Order for the filter, matrix and offset steps: 13, 2; these refuse before any sample changes", and so for the one step of matrix and offset
abbrev pub StepSaid : State → Answer → State → Type 0
StepSaid s (Ok k) u = k ≡ 0
StepSaid s (Err e) u = AsItCame (13 ∷ 2 ∷ []) 0 s e.why e.place u

-- of sections, by document 02, "a new 22, after 13 and 2 .., with the section from 0 as place; rows stay": nothing judged before refuses, and section k
-- is the first whose a0 does not equal 1
pub data IirRefused (s : State) (n : ℕ) (sections : List Float) (why : Refusal) (k : ℕ) (u : State) : Type 0 where
  as_a-step : AsItCame (13 ∷ 2 ∷ []) 0 s why k u → IirRefused s n sections why k u
  at-section : AtSection n s.rows.i s.rows.q sections k → AsItCame (22 ∷ []) k s why k u → IirRefused s n sections why k u

abbrev pub IirSaid : State → ℕ → List Float → Answer → State → Type 0
IirSaid s n sections (Ok k) u = k ≡ 0
IirSaid s n sections (Err e) u = IirRefused s n sections e.why e.place u

-- ---- a list of commands

-- refused with k commands run: they alone are accepted and leave just this; the next is the refused one, and, asked again, it is refused again
pub record CommandsRemain (s : State) (commands : List Arranged) (why : Refusal) (k : ℕ) (u : State) : Type 0 where
  pub number : among command_numbers (number_of why) ≡ true
  pub place : k < length commands
  pub earlier : outcome s (execute (take k commands)) ≡ told (Ok k) u
  pub next : outcome u (execute (drop k commands)) ≡ told (refuse why 0) u

-- "A list over 1,024 commands: 13 before any"; so too shapes' rows, bins or pulses of a wrong size
pub data CommandsRefused (s : State) (commands : List Arranged) (why : Refusal) (k : ℕ) (u : State) : Type 0 where
  before-any : sizes_fit (length commands) (length s.splines) (length s.bins) (length s.pulses) ≡ false → AsItCame (13 ∷ []) 0 s why k u → CommandsRefused s commands why k u
  at_one : CommandsRemain s commands why k u → CommandsRefused s commands why k u

abbrev pub CommandsSaid : State → List Arranged → Answer → State → Type 0
CommandsSaid s commands (Ok k) u = k ≡ length commands
CommandsSaid s commands (Err e) u = CommandsRefused s commands e.why e.place u

-- ---- a sampling call

-- its lists, and its pulses in the order in which they are added: merged, bin by bin
abbrev pub parts_of : State → Request → Crosstalk → List Float → List Part
parts_of s r c factors = parts_in (taking_of (planned s.tables r.channel c factors))

abbrev pub pulses_of : State → Request → Crosstalk → List Float → List Due
pulses_of s r c factors =
    let parts = parts_of s r c factors in
    all_dues (merged_of s.tables s.bins s.pulses parts) (bins_by s.tables s.bins parts)

-- the state with the first k of them added onto the rows, one after another; the work rows and marks hold the lists, summed
abbrev pub with_pulses : State → Request → Crosstalk → List Float → ℕ → State
with_pulses s r c factors k =
    let g = gathered_of s.tables (parts_of s r c factors) s.pulses s.work s.marks in
    with_lent s (with_all (settings_of r) r.rows (take k (pulses_of s r c factors)) s.rows) g.rows g.marks

-- what is answered of pulses judged one after another, in a row of so many samples, where k are added already
abbrev pub unless : Answer → ℕ → Answer → Answer
unless (Err e) k next = refuse e.why k
unless (Ok count) k next = next

unfoldable pub verdict : Settings → ℕ → List Due → ℕ → Answer
verdict s len [] k = Ok k
verdict s len (d ∷ ds) k = unless (judged_answer (judged s d.bin d.numbers d.pulse len)) k (verdict s len ds (suc k))

-- no pulse is refused, and each is added and counted
pub record AllAdded (s : State) (r : Request) (c : Crosstalk) (factors : List Float) (k : ℕ) (u : State) : Type 0 where
  pub count : k ≡ length (pulses_of s r c factors)
  pub left : u ≡ with_pulses s r c factors k
  pub none : verdict (settings_of r) (length s.rows.i) (pulses_of s r c factors) 0 ≡ Ok k

-- refused with k pulses added: these remain, and the next is the first that is refused
pub record PulsesRemain (s : State) (r : Request) (c : Crosstalk) (factors : List Float) (why : Refusal) (k : ℕ) (u : State) : Type 0 where
  pub number : among pulse_numbers (number_of why) ≡ true
  pub place : k < length (pulses_of s r c factors)
  pub remain : u ≡ with_pulses s r c factors k
  pub first : verdict (settings_of r) (length s.rows.i) (pulses_of s r c factors) 0 ≡ refuse why k

-- 17 or 18 at position k: nothing judged before the names refuses, and of the names the one at k is the first at fault
pub record AtName (s : State) (r : Request) (c : Crosstalk) (factors : List Float) (why : Refusal) (k : ℕ) : Type 0 where
  pub fit : fitting_of r.rate r.delay r.level ≡ Some (settings_of r)
  pub sizes : lent.sizes_fit r.rows (length s.rows.i) (length s.rows.q) (length s.rows.scratch) (length s.bins) (length s.pulses) (length s.work) (length s.marks) ≡ true
  pub each-factor : cross_fits c.count (length factors) ≡ true
  pub fine : cross_fine r.channel c (take (c.count * c.count) factors) ≡ true
  pub first : FirstAtFault s.tables (names_in c) why k

-- "Its order: 1, 13, 2, 14, 7, then each pulse", and in place of 14, by document 02, 17 and 18 with the name's "position in its list, from 1"
pub data SampleRefused (s : State) (r : Request) (c : Crosstalk) (factors : List Float) (why : Refusal) (k : ℕ) (u : State) : Type 0 where
  before-any : AsItCame (1 ∷ 13 ∷ 2 ∷ 7 ∷ []) 0 s why k u → SampleRefused s r c factors why k u
  at_name : AtName s r c factors why k → AsItCame (17 ∷ 18 ∷ []) k s why k u → SampleRefused s r c factors why k u
  at_one : PulsesRemain s r c factors why k u → SampleRefused s r c factors why k u

abbrev pub SampleSaid : State → Request → Crosstalk → List Float → Answer → State → Type 0
SampleSaid s r c factors (Ok k) u = AllAdded s r c factors k u
SampleSaid s r c factors (Err e) u = SampleRefused s r c factors e.why e.place u

-- ---- any call
unfoldable pub AsSaid : State → Call → Outcome → Type 0
AsSaid s (make amp time oversize) o = MakeSaid s o.answer o.after
AsSaid s (add-channel n osc) o = AddSaid channel_numbers s o.answer o.after
AsSaid s (add-shape n) o = AddSaid shape_numbers s o.answer o.after
AsSaid s (add-spline n p c t) o = AddSaid spline_numbers s o.answer o.after
AsSaid s (execute commands) o = CommandsSaid s commands o.answer o.after
AsSaid s (sample r c factors) o = SampleSaid s r c factors o.answer o.after
AsSaid s (mixer n m offsets) o = StepSaid s o.answer o.after
AsSaid s (iir n sections) o = IirSaid s n sections o.answer o.after
AsSaid s (fir n taps) o = StepSaid s o.answer o.after

-- its promise allows one outcome, and no other; and that is as document 01 says
pub record Holds (s : State) (c : Call) : Type 0 where
  pub answered : Promised s c (outcome s c)
  pub only : (o : Outcome) → Promised s c o → o ≡ outcome s c
  pub said : AsSaid s c (outcome s c)

-- ---- any run: each call holds, and after it every list stands by bin and time, every count is right and every bin is as plays leave it
unfoldable pub EveryCall : State → List Event → Type 0
EveryCall s [] = Unit {0}
EveryCall s (calls c ∷ more) = let u = (outcome s c).after in Holds s c × Sound u.tables u.bins u.pulses × EveryCall u more
EveryCall s (lends rows work marks ∷ more) = EveryCall (with_lent s rows work marks) more
