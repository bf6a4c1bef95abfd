-- A part of a list, from one place up to another, taken one element at a time. Assumes nothing.
use Prim.Native.Nat.{ℕ, suc, ◌+◌, ◌-◌, ◌<◌, ◌≤◌}
use native.Mathlib.Omega.{arith}
use native.Mathlib.Numerals.{add-one}
use mathlib.Core.Path.{◌≡◌, refl}
use mathlib.Core.Bool.{true, false}
use mathlib.Core.List.{List, [], ◌∷◌}
use lib.Dec.{eqb}
use lib.ListN.{length, take, drop, get_or}
use lib.Seq.{drop-cons}
use Rattle.mixdown.specs.Runs.{passed, advanced}

module _ {A : Type 0} (l : List A) (at end : ℕ) where
  pub span-cons : (d : A) → at < end → end ≤ length l → take (end - at) (drop at l) ≡ get_or l at d ∷ take (end - suc at) (drop (suc at) l)
  span-cons d h k =
      let more : end - at ≡ suc (end - suc at) = omega arith in
      rw (more, drop-cons l at d (omega arith)) refl

  pub span_none : end ≤ at → take (end - at) (drop at l) ≡ []
  span_none h = let none : end - at ≡ 0 = omega arith in rw none refl

module _ (marks : List ℕ) (at end mark : ℕ) where
  pub advanced-here : at < end → end ≤ length marks → eqb (get_or marks at 0) mark ≡ true → advanced marks at end mark ≡ at
  unfolding passed
  advanced-here h k e = rw (span-cons marks at end 0 h k, e) (omega arith)

  pub advanced-later : at < end → end ≤ length marks → eqb (get_or marks at 0) mark ≡ false → advanced marks (at + 1) end mark ≡ advanced marks at end mark
  unfolding passed
  advanced-later h k e = rw (span-cons marks at end 0 h k, e, add-one at) (omega arith)

  pub advanced-over : end ≤ at → advanced marks at end mark ≡ at
  unfolding passed
  advanced-over h = rw (span_none marks at end h) (omega arith)
