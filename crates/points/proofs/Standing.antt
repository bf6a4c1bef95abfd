-- The sums may start at what stands for the start. Point i is i dx + x, rounded once. In steps of 2 ^ -87 the way i dx is an even number, of at least 2 ^ 57; so what
-- stands for x, added to the way or taken off it, stands for the sum, which keeps at least 2 ^ 55 steps and rounds to one double with it. Assumes nothing.
use Rattle.std.proofs.Common.{◌≡◌, ℕ, ◌+◌, ◌-◌, ◌*◌, ◌%◌, ◌^◌, ◌<◌, ◌≤◌, Bool, true, false, sym, refl, ap, ◌∙◌, subst, inl, inr, le_trans, le_of_lt, mul_assoc, mul_comm, add-mul, mul-le-mul, mul-lt-mul_of_pos_right, mul_left_comm, arith, lit≤, pow_pos}
use native.Mathlib.Nat.{mul-mod_left}
use lib.Ieee.{Float, binary64, add, sum, round}
use Rattle.exact.specs.Doubles.{nought}
use Rattle.exact.specs.Value.{Units, sign_of}
use Rattle.exact.proofs.Naturals.{sub-mul}
use Rattle.exact.proofs.Sum.{sum_like, sum_first}
use Rattle.fma.specs.Sticky.{Sticky}
use Rattle.fma.proofs.StickyBit.{sticky-add, sticky-sub, sticky-below}
use Rattle.fma.proofs.Standing.{sticky-same}
use Rattle.points.specs.Points.{point_at, points}
use Rattle.points.specs.Grid.{OnGrid, StandsFor, headed}
use Rattle.points.proofs.Fused.{point-sum}
use Rattle.points.proofs.First.{put_right}

-- ---- m steps up, and what stands for n units up or down
module _ (m w j n : ℕ) (even : m % 2 ≡ 0) (far : 2 ^ 57 ≤ m) (small : w ≤ 2 ^ 52) (v : Sticky w j n) where
  abbrev c : ℕ
  c = 2 ^ 1074

  sums : (s : Bool) → sum binary64 false (m * 2 ^ j) s (w * 2 ^ j) c ≡ sum binary64 false (m * 2 ^ j) s n c
  sums false =
      let p = 2 ^ j in
      sum_like binary64 false false (m * p) (w * p) c refl
      ∙ ap (λ (x : ℕ). round binary64 false x c) (sym (add-mul m w p))
      ∙ sym (sticky-same false (m + w) j (m * p + n) (omega arith) (sticky-add m w n j even v))
      ∙ sym (sum_like binary64 false false (m * p) n c refl)
  sums true =
      let p = 2 ^ j in
      let l : w < m = omega arith in
      sum_first binary64 false true (m * p) (w * p) c refl (mul-lt-mul_of_pos_right l (pow_pos j))
      ∙ ap (λ (x : ℕ). round binary64 false x c) (sym (sub-mul m w p))
      ∙ sym (sticky-same false (m - w) j (m * p - n) (omega arith) (sticky-sub m w n j even v l))
      ∙ sym (sum_first binary64 false true (m * p) n c refl (sticky-below m w n j v l))

-- ---- point i of a start of n units and a step of h steps
point-is : (x dx : Float) (s : Bool) (n h i : ℕ) → i ≤ 65536 → Units x s n → Units dx false (h * 2 ^ 988) → point_at x dx i ≡ sum binary64 false (i * h * 2 * 2 ^ 987) s n (2 ^ 1074)
point-is x dx s n h i l v w =
    point-sum x dx s false n (h * 2 ^ 988) i (le_trans l (lit≤ tt)) v w ∙ ap (λ (m : ℕ). sum binary64 false m s n (2 ^ 1074)) (regroup i h (2 ^ 987))
  where
    regroup : (i h u : ℕ) → i * (h * (2 * u)) ≡ i * h * 2 * u
    regroup i h u = simp (mul_assoc, mul_comm, mul_left_comm)

stands-for : (n : ℕ) (x t dx : Float) → StandsFor x t → OnGrid n t dx → (i : ℕ) → 0 < i → i ≤ 65536 → point_at t dx i ≡ point_at x dx i
stands-for n x t dx (inl e) o i I l = ap (λ (y : Float). point_at y dx i) e
stands-for n x t dx (inr k) o i I l =
    let h = o.step.steps in
    point-is t dx k.sign (k.steps * 2 ^ 987) h i l k.of-t o.step.value
    ∙ sums (i * h * 2) k.steps 987 k.units (mul-mod_left (i * h) 2) (far i h I o.step.least) k.small k.sticky k.sign
    ∙ sym (point-is x dx k.sign k.units h i l k.of-x o.step.value)
  where
    far : (i h : ℕ) → 0 < i → 2 ^ 56 ≤ h → 2 ^ 57 ≤ i * h * 2
    far i h I H = let p : 1 * 2 ^ 56 ≤ i * h = mul-le-mul I H in omega arith

-- x is a finite double
of-start : (n : ℕ) (x t dx : Float) → StandsFor x t → OnGrid n t dx → (s : Bool) × (a : ℕ) × Units x s a
of-start n x t dx (inl e) o = (sign_of t, o.start.steps * 2 ^ 986, subst (λ (y : Float). Units y (sign_of t) (o.start.steps * 2 ^ 986)) e o.start.value)
of-start n x t dx (inr k) o = (k.sign, k.units, k.of-x)

-- and only the first point has to be put right
pub first-put : (n : ℕ) (x t dx : Float) → StandsFor x t → OnGrid n t dx → headed (add binary64 x nought) (points n 0 t dx) ≡ points n 0 x dx
first-put n x t dx s o =
    let v = of-start n x t dx s o in
    put_right n x t dx v.0 v.1 (o.step.steps * 2 ^ 988) v.2 o.step.value
    (λ i h l. stands-for n x t dx s o i h (le_trans (le_of_lt l) o.few))
