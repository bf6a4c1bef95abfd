-- Figures on both sides of a point: the code's two parts are those of the definition, and together they stand for it. Assumes nothing.
use mathlib.Core.Path.{◌≡◌, refl, sym, ap, ◌∙◌, subst}
use mathlib.Core.Bool.{Bool}
use mathlib.Core.List.{List}
use mathlib.Core.Logic.{inl, inr}
use Prim.Native.Nat.{ℕ, zero, suc, ◌+◌, ◌-◌, ◌*◌, ◌%◌, ◌^◌, ◌≤◌, ◌<◌, min}
use native.Mathlib.Nat.{le_trans, le_of_eq, mul_comm, one-mul, mul-le-mul_right}
use native.Mathlib.Omega.{arith}
use lib.Dec.{lit≤}
use lib.ListN.{length, take, drop, drop_of_length-le}
use lib.Pow.{pow-add}
use lib.Seq.{take_all}
use lib.Ieee.{inf}
use Rattle.exact.proofs.Naturals.{below_or}
use Rattle.wide_decimal.specs.Figures.{worth}
use Rattle.wide_decimal.specs.Limbs.{weight}
use Rattle.wide_decimal.specs.Near.{Near}
use Rattle.wide_decimal.specs.Placed.{before, parts, nearest_of}
use Rattle.wide_decimal.proofs.Edges.{round-over}
use Rattle.wide_decimal.proofs.Nears.{near-via}
use Rattle.wide_decimal.proofs.Powers.{ten_pos, ten_even, even-times}
use Rattle.wide_decimal.proofs.Zeros.{near_add}

-- ---- as many figures before the point as there are
module _ (fs : List ℕ) (whole first : ℕ) (m : first ≡ min whole (length fs)) where
  pub same-take : take first fs ≡ take whole fs
  same-take = elim (below_or (length fs) whole) [
    | inl h ↦ (let all : first ≡ length fs = omega arith in ap (λ (x : ℕ). take x fs) all ∙ take_all (length fs) fs (le_of_eq refl) ∙ sym (take_all whole fs (omega arith)))
    | inr h ↦ (let all : first ≡ whole = omega arith in rw all)
  ]

  pub same_drop : drop first fs ≡ drop whole fs
  same_drop = elim (below_or (length fs) whole) [
    | inl h ↦ (
        let here : length fs ≤ first = omega arith in
        let past : length fs ≤ whole = omega arith in
        drop_of_length-le fs here ∙ sym (drop_of_length-le fs past)
        )
    | inr h ↦ (let all : first ≡ whole = omega arith in rw all)
  ]

  pub same-behind : length fs - first ≡ length fs - whole
  same-behind = omega arith

  pub same_more : whole - first ≡ whole - length fs
  same_more = omega arith

-- ---- too large
pub too_large : (minus : Bool) (fs : List ℕ) (whole zeros : ℕ) → weight 33 ≤ before fs whole → inf minus ≡ nearest_of minus fs whole zeros
unfolding nearest_of
too_large minus fs whole zeros h =
    sym (round-over minus (before fs whole * parts fs whole zeros + worth (drop whole fs)) (parts fs whole zeros) (ten_pos (length fs - whole + zeros))
    (le_trans (mul-le-mul_right (parts fs whole zeros) (le_trans (lit≤ tt) h)) (more (before fs whole * parts fs whole zeros) (worth (drop whole fs)))))
  where
    more : (a b : ℕ) → a ≤ a + b
    more a b = omega arith

pub grown : (v k w : ℕ) → w ≤ v → w ≤ v * 10 ^ k
grown v k w h = le_trans h (le_trans (le_of_eq (one v)) (le_trans (mul-le-mul_right v (ten_pos k)) (le_of_eq (mul_comm (10 ^ k) v))))
  where
    one : (v : ℕ) → v ≡ 1 * v
    one v = omega arith

-- ---- both parts
once : (v w : ℕ) → Near v 1 w → v ≡ w
once v w (inl e) = omega arith
once v w (inr e) = omega arith

-- a second division by a power of ten, which may be 1
twice : (v w s j b : ℕ) → 0 < b → Near v (10 ^ j) w → Near w b s → Near v (10 ^ j * b) s
twice v w s zero b B x y = subst (λ (z : ℕ). Near z (1 * b) s) (sym (once v w x)) (subst (λ (z : ℕ). Near w z s) (sym (one-mul b)) y)
twice v w s (suc j) b B x y = near-via v w s (10 ^ suc j) b (ten_even (suc j) (omega arith)) B x y

pub together : (h low cut d k zeros w : ℕ) → w % 2 ≡ 0 → Near cut (10 ^ k) (d * w) → Near low (10 ^ zeros) cut → Near (h * w + low) (10 ^ (k + zeros)) ((h * 10 ^ (k + zeros) + d) * w)
together h low cut d k zeros w even x y =
    let all : 10 ^ zeros * 10 ^ k ≡ 10 ^ (k + zeros) = mul_comm (10 ^ zeros) (10 ^ k) ∙ sym (pow-add 10 k zeros) in
    let both : Near low (10 ^ (k + zeros)) (d * w) = subst (λ (z : ℕ). Near low z (d * w)) all (twice low cut (d * w) zeros (10 ^ k) (ten_pos k) y x) in
    subst (λ (z : ℕ). Near (h * w + low) (10 ^ (k + zeros)) z) (regroup h w (10 ^ (k + zeros)) d) (near_add (h * w) low (10 ^ (k + zeros)) (d * w) (even-times h w even) both)
  where
    regroup : (h w b d : ℕ) → h * w * b + d * w ≡ (h * b + d) * w
    regroup h w b d = omega arith
