-- The loop of `sum_list`: what is left after record k is `kept_all` of the records from k on, so that a turn is one `kept_in`. Assumes nothing.
use Prim.Native.Nat.{ℕ, ◌+◌, ◌-◌, ◌<◌, ◌≤◌}
use native.Mathlib.Numerals.{add-one}
use native.Mathlib.Omega.{arith}
use mathlib.Core.Path.{◌≡◌, ap}
use mathlib.Core.Bool.{Bool, true, false, cond, ◌&&◌}
use mathlib.Core.List.{List}
use lib.Dec.{ltb}
use lib.Ieee.{Float}
use lib.ListN.{length, get_or, drop, drop_of_length-le}
use lib.Seq.{drop-cons}
use Rattle.pulse.specs.declared.list.Pulse.{Pulse}
use Rattle.pulse.proofs.Placed.{none}
use Rattle.merge.specs.Sum.{together_in_bin, summed}
use Rattle.merge.specs.Work.{Laid, laid, laid_on}
use Rattle.merge.specs.Keep.{last_in, kept_in, kept_all}
use Rattle.merge.proofs.Over.{Rows}
use Rattle.merge.proofs.Kept.{kept-summed}

-- one pulse takes at most one row more
pub record Grown (n r : ℕ) : Type 0 where
  pub least : n ≤ r
  pub most : r ≤ n + 1

pub grown : (from : ℕ) (t : Float) (p : Pulse) (ys : Rows) (ms : List ℕ) (n r : ℕ) (zs : Rows) (us : List ℕ) → laid zs us r ≡ kept_in from t p (laid ys ms n) → Grown n r
unfolding kept_in
grown from t p ys ms n r zs us e = either (ltb from n && together_in_bin t (last_in (laid ys ms n)) p) _ _ _ _ (ap (λ (w : Laid). w.at) e)
  where
    either : (b : Bool) (x y : Rows) (u v : List ℕ) → r ≡ (cond b (laid x u n) (laid y v (n + 1))).at → Grown n r
    either true x y u v h = record { least = omega arith; most = omega arith }
    either false x y u v h = record { least = omega arith; most = omega arith }

-- of a list that is laid from `at` on
module _ (ps : List Pulse) (t : Float) (ws : Rows) (marks : List ℕ) (at : ℕ) where
  -- before record k: where the rows end, and that there is room for what is left
  pub record Upto (k used : ℕ) (ys : Rows) (ms : List ℕ) : Type 0 where
    pub begun : at ≤ used
    pub room-w : used + (length ps - k) ≤ length ws
    pub room-m : used + (length ps - k) ≤ length marks
    pub left : kept_all at t (drop k ps) (laid ys ms used) ≡ laid_on (summed t ps) at ws marks

  pub begin : at + length ps ≤ length ws → at + length ps ≤ length marks → Upto 0 at ws marks
  begin hw hm = record { begun = omega arith; room-w = omega arith; room-m = omega arith; left = kept-summed at t ps ws marks hw hm }

  pub next : (k used r : ℕ) (ys zs : Rows) (ms us : List ℕ) → k < length ps → Upto k used ys ms → laid zs us r ≡ kept_in at t (get_or ps k none) (laid ys ms used)
      → Upto (k + 1) r zs us
  unfolding kept_all
  next k used r ys zs ms us less u e =
      let grow = grown at t (get_or ps k none) ys ms used r zs us e in
      record {
        begun = omega (arith, grow.least, u.begun);
        room-w = omega (arith, grow.most, u.room-w);
        room-m = omega (arith, grow.most, u.room-m);
        left = rw (e, add-one k) (rw (drop-cons ps k none less) at u.left);
      }

  pub at-end : (k used : ℕ) (ys : Rows) (ms : List ℕ) → length ps ≤ k → Upto k used ys ms → laid ys ms used ≡ laid_on (summed t ps) at ws marks
  unfolding kept_all
  at-end k used ys ms h u = rw (drop_of_length-le ps h) at u.left
