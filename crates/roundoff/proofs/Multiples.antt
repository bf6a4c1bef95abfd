-- Signed numbers that are multiples of a power of two: sums, products and roundings of them are, and one of at most 2 ^ 53 steps is a double's value. Assumes
-- nothing.
use mathlib.Core.Path.{◌≡◌, sym, ap, ◌∙◌, subst}
use mathlib.Core.Logic.{inl, inr}
use mathlib.Core.Bool.{Bool, true, false}
use Prim.Native.Nat.{ℕ, ◌+◌, ◌-◌, ◌*◌, ◌^◌, ◌≤◌}
use native.Mathlib.Nat.{le_of_mul-le-mul_right, le_of_eq, le_of_lt, le_trans, lt_of_le_of_lt, mul_assoc, mul_comm}
use native.Mathlib.Omega.{arith}
use lib.Pow.{pow-add, pow_pos}
use Rattle.exact.specs.Signed.{Signed, Same, signed, times, plus_s, less_s, times_s, mag}
use Rattle.exact.specs.Rounds.{Rounds}
use Rattle.exact.proofs.Naturals.{below_or}
use Rattle.exact.proofs.Value.{pow-split}
use Rattle.exact.proofs.Few.{Few}
use Rattle.exact.proofs.Sizes.{mag_same, mag-by, signed_is, same-via, same-product, factors-out}
use Rattle.exact.proofs.Nearest.{few-most, rnd-multiple, rnd-large}
use Rattle.exact.proofs.Rounds.{Double, rounds-mag}

pub record Multiple (x : Signed) (k : ℕ) : Type 0 where
  pub part : Signed
  pub is : Same x (times (2 ^ k) part)

-- ---- of the size alone
pub multiple-mag : (x : Signed) (k : ℕ) → Multiple x k → (r : ℕ) × (mag x ≡ r * 2 ^ k)
multiple-mag x k m = (mag m.part, mag_same x (times (2 ^ k) m.part) m.is ∙ mag-by (2 ^ k) m.part ∙ mul_comm (2 ^ k) (mag m.part))

pub multiple-of : (x : Signed) (k r : ℕ) → mag x ≡ r * 2 ^ k → Multiple x k
multiple-of x k r e = let s = signed_is x in record { part = signed s.0 r; is = by s.0 (mag x) s.1 e }
  where
    by : (s : Bool) (n : ℕ) → Same x (signed s n) → n ≡ r * 2 ^ k → Same x (times (2 ^ k) (signed s r))
    by true n h e = omega arith
    by false n h e = omega arith

-- ---- sums, differences and products
pub multiple-plus : (x y : Signed) (k : ℕ) → Multiple x k → Multiple y k → Multiple (plus_s x y) k
multiple-plus x y k m n =
    record { part = plus_s m.part n.part; is = by x.plus x.less y.plus y.less m.part.plus m.part.less n.part.plus n.part.less (2 ^ k) m.is n.is }
  where
    by : (a b c d p q r s u : ℕ) → a + u * q ≡ u * p + b → c + u * s ≡ u * r + d → a + c + u * (q + s) ≡ u * (p + r) + (b + d)
    by a b c d p q r s u h k = omega arith

pub multiple-less : (x y : Signed) (k : ℕ) → Multiple x k → Multiple y k → Multiple (less_s x y) k
multiple-less x y k m n =
    record { part = less_s m.part n.part; is = by x.plus x.less y.plus y.less m.part.plus m.part.less n.part.plus n.part.less (2 ^ k) m.is n.is }
  where
    by : (a b c d p q r s u : ℕ) → a + u * q ≡ u * p + b → c + u * s ≡ u * r + d → a + d + u * (q + r) ≡ u * (p + s) + (b + c)
    by a b c d p q r s u h k = omega arith

pub multiple-none : (x : Signed) → Multiple x 0
multiple-none x = record { part = x; is = omega arith }

pub multiple-lower : (x : Signed) (m n : ℕ) → m ≤ n → Multiple x n → Multiple x m
multiple-lower x m n l f =
    let r = multiple-mag x n f in
    multiple-of x m (r.0 * 2 ^ (n - m)) (r.1 ∙ ap (λ (z : ℕ). r.0 * z) (sym (pow-split m n l)) ∙ sym (mul_assoc r.0 (2 ^ (n - m)) (2 ^ m)))

pub multiple-product : (x y : Signed) (m n : ℕ) → Multiple x m → Multiple y n → Multiple (times_s x y) (m + n)
multiple-product x y m n f g =
    let p = f.part in
    let q = g.part in
    record {
      part = times_s p q;
      is =
          subst (λ (z : ℕ). Same (times_s x y) (times z (times_s p q))) (sym (pow-add 2 m n))
          (same-via (times_s x y) (times_s (times (2 ^ m) p) (times (2 ^ n) q)) (times (2 ^ m * 2 ^ n) (times_s p q))
          (same-product x y (times (2 ^ m) p) (times (2 ^ n) q) f.is g.is) (factors-out (2 ^ m) (2 ^ n) p q));
    }

pub multiple-times : (x : Signed) (k m : ℕ) → Multiple x m → Multiple (times (2 ^ k) x) (k + m)
multiple-times x k m f =
    let r = multiple-mag x m f in
    multiple-of (times (2 ^ k) x) (k + m) r.0 (mag-by (2 ^ k) x ∙ ap (λ (z : ℕ). 2 ^ k * z) r.1 ∙ by (2 ^ k) r.0 (2 ^ m) ∙ ap (λ (z : ℕ). r.0 * z) (sym (pow-add 2 k m)))
  where
    by : (a b c : ℕ) → a * (b * c) ≡ b * (a * c)
    by a b c = omega arith

-- ---- of at most 2 ^ 53 steps
pub double-multiple : (x : Signed) (k : ℕ) → Multiple x k → mag x ≤ 2 ^ 53 * 2 ^ k → Double x
double-multiple x k m l =
    let r = multiple-mag x k m in
    subst Few (sym r.1) (few-most r.0 k (le_of_mul-le-mul_right {k = 2 ^ k} (le_trans (le_of_eq (sym r.1)) l) (pow_pos k)))

-- what is no larger than either of two doubles, and a multiple of whatever both are, is a double
pub double-below : (a b x : Signed) → Double a → Double b → mag x ≤ mag a → mag x ≤ mag b → ((k : ℕ) → Multiple a k → Multiple b k → Multiple x k) → Double x
double-below a b x f g l m h = elim (below_or f.shift g.shift) [ inl i ↦ finer a b f g (le_of_lt i) l h | inr i ↦ finer b a g f i m (λ k p q. h k q p) ]
  where
    finer : (a b : Signed) (f : Double a) (g : Double b) → f.shift ≤ g.shift → mag x ≤ mag a → ((k : ℕ) → Multiple a k → Multiple b k → Multiple x k) → Double x
    finer a b f g i l h =
        let k = f.shift in
        let r = multiple-mag x k (h k (multiple-of a k f.digits f.is) (multiple-lower b k g.shift i (multiple-of b g.shift g.digits g.is))) in
        record {
          digits = r.0;
          shift = k;
          few = lt_of_le_of_lt (le_of_mul-le-mul_right {k = 2 ^ k} (le_trans (le_of_eq (sym r.1)) (le_trans l (le_of_eq f.is))) (pow_pos k)) f.few;
          is = r.1;
        }

-- ---- rounded
pub rounds-multiple : (x y : Signed) (k : ℕ) → Rounds x y → Multiple x k → Multiple y k
rounds-multiple x y k r m =
    let e = multiple-mag x k m in
    let t = rnd-multiple (mag x) e.0 k e.1 in
    multiple-of y k t.0 (rounds-mag x y r ∙ t.1)

-- a large number rounds to a multiple of a known power of two
pub rounds-large : (x y : Signed) (m : ℕ) → Rounds x y → 2 ^ (52 + m) ≤ mag x → Multiple y m
rounds-large x y m r h = let t = rnd-large (mag x) m h in multiple-of y m t.0 (rounds-mag x y r ∙ t.1)
