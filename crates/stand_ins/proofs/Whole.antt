-- No program for the ten calls of `system` that keeps their promises is a stand-in: each promise allows one outcome (`only`, of `system`), and at the calls that
-- are tried it is another than the stand-in's. Assumes nothing.
use Rattle.quant.specs.Refusal.{Answer}
use Prim.Native.Nat.{ℕ, ◌+◌, ◌*◌}
use mathlib.Core.Path.{◌≡◌, refl, ap, ◌∙◌}
use mathlib.Core.Bool.{Bool, true, false, cond}
use mathlib.Core.List.{[], ◌∷◌}
use lib.Dec.{eqb}
use lib.Ieee.{eq, round}
use Rattle.mixdown.specs.Sampled.{Rowed}
use Rattle.sampler_laws.specs.Added.{count_in}
use Rattle.bench_table.specs.Numbers.{whole}
use Rattle.system.specs.System.{Outcome, outcome}
use Rattle.system.proofs.Promised as promised
use Rattle.stand_ins.specs.StandIns.{NotAllRefused, NotAlways, NotFixed, Row, I, Q, RowsMove}
use Rattle.stand_ins.specs.Whole.{Asking, is_done, whole_system, row_left, answer_of, row_came, anything, sampling_call, rows_left, first_pulse, first_bin, Sampling, asking_of, OnRows, plateau, sort, on, execute, no-command, no-pulse, two-pulses, two-bins, else, sampling_of, Trial, ones, noughts, also, try_of}
use Rattle.stand_ins.specs.Table.{TenCalls}
use Rattle.stand_ins.proofs.StandIns.{Only, not-all-refused, not-always, not-fixed, is_two, one-is-not, rows-move}
use Rattle.stand_ins.proofs.Tried.{tried}

abbrev comes_to : Asking → Outcome
comes_to a = outcome a.state a.call

only : (a : Asking) → Only whole_system a (comes_to a)
only a o p = promised.only a.state a.call o p

takes : (t : Trial) → is_done (comes_to (try_of t).asking).answer ≡ true
takes t = ap is_done (tried.each t).answer

row_is : (t : Trial) (x : Row) → row_left x (comes_to (try_of t).asking) ≡ whole (try_of t).sample ∷ []
row_is t I = (tried.each t).i
row_is t Q = (tried.each t).q

-- rows of 1 hold 2 then, and rows of 0 do not
two-of-ones : (adds : Bool) → is_two (whole (cond adds (1 + 1) (2 * 1)) ∷ []) ≡ true
unfolding is_two eq round
two-of-ones true = refl
two-of-ones false = refl

not-of_noughts : (adds : Bool) → is_two (whole (cond adds (0 + 1) (2 * 0)) ∷ []) ≡ false
unfolding is_two eq round
not-of_noughts true = refl
not-of_noughts false = refl

came : (n : ℕ) (k : OnRows) (x : Row) → row_came x (on n k).asking ≡ whole n ∷ []
came n k I = refl
came n k Q = refl

-- ---- each kind of call that is tried accepts something

all-refused : (t : Trial) → NotAllRefused whole_system (try_of t).asking
all-refused t = not-all-refused whole_system (try_of t).asking (comes_to (try_of t).asking) (only (try_of t).asking) (takes t)

-- ---- of the calls on rows, a sampling of a plateau, one of Hann's shape, one of a spline and the four steps, in I and in Q

moves : (k : OnRows) → RowsMove whole_system row_left row_came (on 1 k).asking (on 0 k).asking
moves k =
    let a = (on 1 k).asking in
    let b = (on 0 k).asking in
    rows-move whole_system row_left row_came a b (comes_to a) (comes_to b) (only a) (only b) (takes (ones k)) (takes (noughts k)) (came 1 k) (came 0 k)
    (λ x. ap is_two (row_is (ones k) x) ∙ two-of-ones (sort k).adds)
    (λ x. ap is_two (row_is (noughts k) x) ∙ not-of_noughts (sort k).adds)

-- ---- of the sampling call: both pulses, and both bins, are on the rows, which hold 2

only-sampled : (x : Sampling) → Only sampling_call x (comes_to (asking_of x))
only-sampled x = only (asking_of x)

first_alone : (x : Sampling) (would : Sampling → Rowed) → is_done (comes_to (asking_of x)).answer ≡ true → (comes_to (asking_of x)).after.rows.i ≡ whole 2 ∷ [] → (would x).i ≡ whole 1 ∷ []
    → NotAlways sampling_call rows_left would x
first_alone x would done both one =
    not-always sampling_call rows_left would (λ (rows : Rowed). is_two rows.i) x (comes_to (asking_of x)) (only-sampled x) done (ap is_two both ∙ two-of-ones true) (ap is_two one ∙ one-is-not)

first-pulse : NotAlways sampling_call rows_left first_pulse (sampling_of two-pulses)
first-pulse = first_alone (sampling_of two-pulses) first_pulse (takes (also two-pulses)) (row_is (also two-pulses) I) tried.first.pulse

first-bin : NotAlways sampling_call rows_left first_bin (sampling_of two-bins)
first-bin = first_alone (sampling_of two-bins) first_bin (takes (also two-bins)) (row_is (also two-bins) I) tried.first.bin

-- ---- a list of one is counted 1, and one of none 0

counted : (s t : Trial) → eqb (try_of s).count 1 ≡ true → eqb (try_of t).count 1 ≡ false → NotFixed whole_system answer_of anything (try_of s).asking (try_of t).asking
counted s t one none =
    let a = (try_of s).asking in
    let b = (try_of t).asking in
    not-fixed whole_system answer_of anything (λ (r : Answer). eqb (count_in r) 1) a b (comes_to a) (comes_to b) (only a) (only b) (takes s) (takes t) refl
    (ap (λ (r : Answer). eqb (count_in r) 1) (tried.each s).answer ∙ one)
    (ap (λ (r : Answer). eqb (count_in r) 1) (tried.each t).answer ∙ none)

commands-counted : NotFixed whole_system answer_of anything (else execute).asking (else no-command).asking
commands-counted = counted (also execute) (also no-command) refl refl

pulses-counted : NotFixed whole_system answer_of anything (on 0 plateau).asking (else no-pulse).asking
pulses-counted = counted (noughts plateau) (also no-pulse) refl refl

pub ten_calls : TenCalls
ten_calls =
    record {
      all-refused = all-refused;
      rows-move = moves;
      first-pulse = first-pulse;
      first-bin = first-bin;
      commands-counted = commands-counted;
      pulses-counted = pulses-counted;
    }
