-- A pulse picked from runs, and the runs behind it: their pulses joined are that pulse and the rest. Assumes nothing.
use Rattle.std.specs.Prelude.{Some, None}
use Prim.Native.Nat.{ℕ, ◌<◌, ◌≤◌}
use native.Mathlib.Omega.{arith}
use mathlib.Core.Path.{◌≡◌, sym, ◌∙◌}
use mathlib.Core.List.{List, [], ◌∷◌}
use lib.Ieee.{Float}
use lib.ListN.{length, get_or, length-set}
use Rattle.pulse.specs.declared.list.Pulse.{Pulse}
use Rattle.merge.specs.Sum.{scaled_p}
use Rattle.merge.specs.Join.{joined}
use Rattle.mixdown.specs.declared.runs.Runs.{Runs}
use Rattle.mixdown.specs.declared.runs.Picked.{Picked}
use Rattle.mixdown.specs.Runs.{Within, no_run, pulse_at, pulses_in, runs_in, picked_in, moved_on}
use Rattle.mixdown.proofs.Joining.{none_left, in_lists, in_rows, next-left, within-moved}

-- what the runs have left, joined
abbrev pub left : List (List Float) → List ℕ → Runs → List Pulse
left work marks r = joined (runs_in (pulses_in work marks) r)

-- the pulse that p stands for
abbrev pub pulse_of : List (List Float) → List ℕ → Runs → Picked → Pulse
pulse_of work marks r p = scaled_p (get_or r.runs p.list no_run).factor (pulse_at work marks p.at)

-- runs that a pulse can be picked from
pub record Ready (work : List (List Float)) (marks : List ℕ) (r : Runs) : Type 0 where
  pub rows-full : length work ≡ 8192
  pub marks-full : length marks ≡ 8192
  pub most : r.count ≤ 8
  pub long : length r.runs ≡ 8
  pub within : Within r.runs

module _ {work : List (List Float)} {marks : List ℕ} {r : Runs} (k : Ready work marks r) where
  same_full : length work ≡ length marks
  same_full = k.rows-full ∙ sym k.marks-full

  count-in : r.count ≤ length r.runs
  count-in = omega (arith, k.most, k.long)

  pub picked_none : picked_in work marks r ≡ None → left work marks r ≡ []
  picked_none e = none_left work marks same_full k.marks-full r count-in k.within e

  -- p is picked, and the runs behind it
  module _ (p : Picked) (e : picked_in work marks r ≡ Some p) where
    pub picked-list : p.list < 8
    picked-list = let under = in_lists work marks same_full k.marks-full r count-in k.within p e in omega (arith, under, k.most)

    pub picked-row : p.at < 8192
    picked-row = in_rows work marks same_full k.marks-full r count-in k.within p e

    pub picked_next : left work marks r ≡ pulse_of work marks r p ∷ left work marks (moved_on marks r p)
    picked_next = next-left work marks same_full k.marks-full r count-in k.within p e

    pub ready-next : (r' : Runs) → r' ≡ moved_on marks r p → Ready work marks r'
    ready-next r' is =
        record {
          rows-full = k.rows-full;
          marks-full = k.marks-full;
          most = rw is k.most;
          long = rw is (length-set r.runs p.list _ ∙ k.long);
          within = rw is (within-moved work marks same_full k.marks-full r count-in k.within p);
        }
