-- The error of a sum of two doubles is a double: it is no larger than either term, and a multiple of whatever power of two both are. A sum less its larger
-- term is a double too, and so is a difference of two that is at most half of the first. Assumes nothing.
use mathlib.Core.Path.{◌≡◌, refl, sym, ap, ◌∙◌, subst}
use mathlib.Core.Logic.{◌⊎◌, inl, inr}
use mathlib.Core.Bool.{Bool, true, false}
use Prim.Native.Nat.{ℕ, zero, suc, ◌+◌, ◌-◌, ◌*◌, ◌^◌, ◌≤◌, ◌<◌}
use native.Mathlib.Nat.{le_trans, le_of_eq, le_of_lt, lt_of_le_of_lt, mul_assoc, mul-one, pow-suc}
use native.Mathlib.Omega.{arith}
use lib.Pow.{pow-add}
use Rattle.exact.specs.Signed.{Signed, Same, Apart, signed, plus_s, less_s, dist, mag}
use Rattle.exact.specs.Rounds.{rnd, Rounds}
use Rattle.exact.proofs.Naturals.{below_or}
use Rattle.exact.proofs.Few.{Few, few-sub}
use Rattle.exact.proofs.Sizes.{mag_same, mag-signed, signed_is, apart-mag}
use Rattle.exact.proofs.Nearest.{few-none, few-short, rnd-exact, rnd-few, rnd-mono}
use Rattle.exact.proofs.Rounds.{Double, rounds-at, rounds-near}
use Rattle.roundoff.proofs.Multiples.{multiple-plus, multiple-less, double-below, rounds-multiple}

-- THE ERROR OF A SUM IS A DOUBLE
pub error-double : (a b y : Signed) → Double a → Double b → Rounds (plus_s a b) y → Double (less_s y (plus_s a b))
error-double a b y f g r =
    let x = plus_s a b in
    double-below a b (less_s y x) f g
    (apart-mag y x (mag a) (rounds-near x y b (mag a) r g (second a.plus a.less b.plus b.less)))
    (apart-mag y x (mag b) (rounds-near x y a (mag b) r f (first a.plus a.less b.plus b.less)))
    (λ k m n. multiple-less y x k (rounds-multiple x y k r (multiple-plus a b k m n)) (multiple-plus a b k m n))
  where
    first : (p q r s : ℕ) → Apart (record { plus = p; less = q }) (record { plus = p + r; less = q + s }) (dist r s)
    first p q r s = record { over = omega arith; under = omega arith }

    second : (p q r s : ℕ) → Apart (record { plus = r; less = s }) (record { plus = p + r; less = q + s }) (dist p q)
    second p q r s = record { over = omega arith; under = omega arith }

-- ---- two numbers with one sign are as far apart as their sizes
one-sign : (x y : Signed) (s : Bool) (m p : ℕ) → Same x (signed s m) → Same y (signed s p) → mag (less_s y x) ≡ dist p m
one-sign x y s m p h k = by x.plus x.less y.plus y.less s h k
  where
    by : (a b c d : ℕ) (s : Bool) → a + (signed s m).less ≡ (signed s m).plus + b → c + (signed s p).less ≡ (signed s p).plus + d → dist (c + b) (d + a) ≡ dist p m
    by a b c d true h k = omega arith
    by a b c d false h k = omega arith

above : (p m : ℕ) → m ≤ p → dist p m ≡ p - m
above p m h = omega arith

beneath : (p m : ℕ) → p ≤ m → dist p m ≡ m - p
beneath p m h = omega arith

-- ---- Sterbenz: a difference of two doubles that is at most half of the first is a double
pub sterbenz : (b v : Signed) → Double b → Double v → mag (less_s b v) * 2 ≤ mag b → Double (less_s b v)
sterbenz b v f g h =
    let s = signed_is b in
    let t = signed_is v in
    by s.0 t.0 (mag b) (mag v) s.1 t.1 f g h
  where
    near : (s : Bool) (m n : ℕ) → Same b (signed s m) → Same v (signed s n) → Few m → Few n → mag (less_s b v) * 2 ≤ m → Double (less_s b v)
    near s m n h k f g l =
        let e = one-sign v b s n m k h in
        subst Few (sym e) (few (subst (λ (z : ℕ). z * 2 ≤ m) e l))
      where
        few : dist m n * 2 ≤ m → Few (dist m n)
        few l = elim (below_or n m) [ inl c ↦ subst Few (sym (above m n (le_of_lt c))) (few-sub n m g f (omega arith)) | inr c ↦ subst Few (sym (beneath m n c)) (few-sub m n f g (omega arith)) ]

    none : (m n k : ℕ) → k ≡ m + n → k * 2 ≤ m → Few k
    none m n k e l = subst Few (zero e) few-none
      where
        zero : k ≡ m + n → 0 ≡ k
        zero e = omega arith

    by : (s t : Bool) (m n : ℕ) → Same b (signed s m) → Same v (signed t n) → Few m → Few n → mag (less_s b v) * 2 ≤ m → Double (less_s b v)
    by false false m n h k f g l = near false m n h k f g l
    by true true m n h k f g l = near true m n h k f g l
    by false true m n h k f g l = none m n (mag (less_s b v)) (apart b.plus b.less v.plus v.less h k) l
      where
        apart : (a b c d : ℕ) → a + 0 ≡ m + b → c + n ≡ 0 + d → dist (a + d) (b + c) ≡ m + n
        apart a b c d h k = omega arith
    by true false m n h k f g l = none m n (mag (less_s b v)) (apart b.plus b.less v.plus v.less h k) l
      where
        apart : (a b c d : ℕ) → a + m ≡ 0 + b → c + 0 ≡ n + d → dist (a + d) (b + c) ≡ m + n
        apart a b c d h k = omega arith

-- ---- sizes a and b, b the smaller
-- twice a double is one; and of a double either the half is one, or all numbers up to it are
few-twice : (a : ℕ) → Few a → Few (a * 2)
few-twice a f =
    record { digits = f.digits; shift = f.shift + 1; few = f.few; is = ap (λ (z : ℕ). z * 2) f.is ∙ mul_assoc f.digits (2 ^ f.shift) 2 ∙ ap (λ (z : ℕ). f.digits * z) (sym (pow-add 2 f.shift 1)) }

halved : (a : ℕ) → Few a → (a < 2 ^ 53) ⊎ ((h : ℕ) × Few h × (a ≡ h * 2))
halved a f = by f.shift f.digits f.few f.is
  where
    by : (j d : ℕ) → d < 2 ^ 53 → a ≡ d * 2 ^ j → (a < 2 ^ 53) ⊎ ((h : ℕ) × Few h × (a ≡ h * 2))
    by zero d l e = inl (lt_of_le_of_lt (le_of_eq (e ∙ mul-one d)) l)
    by (suc j) d l e = inr (d * 2 ^ j, record { digits = d; shift = j; few = l; is = refl }, e ∙ ap (λ (z : ℕ). d * z) (pow-suc 2 j) ∙ sym (mul_assoc d (2 ^ j) 2))

like-low : (a b : ℕ) → Few a → a ≤ rnd (a + b)
like-low a b f = le_trans (le_of_eq (sym (rnd-exact a f))) (rnd-mono a (a + b) (omega arith))

like-few : (a b : ℕ) → Few a → b ≤ a → Few (dist (rnd (a + b)) a)
like-few a b f l =
    subst Few (sym (above (rnd (a + b)) a (like-low a b f)))
    (few-sub a (rnd (a + b)) f (rnd-few (a + b)) (le_trans (rnd-mono (a + b) (a * 2) (omega arith)) (le_of_eq (rnd-exact (a * 2) (few-twice a f)))))

unlike-few : (a b : ℕ) → Few a → Few b → b ≤ a → Few (dist (rnd (a - b)) a)
unlike-few a b f g l =
    subst Few (sym (beneath (rnd (a - b)) a (le_trans (rnd-mono (a - b) a (omega arith)) (le_of_eq (rnd-exact a f)))))
    (elim (below_or a (b * 2)) [
      | inl c ↦ exactly (few-sub b a g f (le_of_lt c))
      | inr c ↦ elim (halved a f) [ inl s ↦ exactly (few-short (a - b) (small s)) | inr h ↦ far c h.0 h.1 h.2 ]
    ])
  where
    small : a < 2 ^ 53 → a - b < 2 ^ 53
    small s = omega arith

    exactly : Few (a - b) → Few (a - rnd (a - b))
    exactly h = subst Few (sym (ap (λ (z : ℕ). a - z) (rnd-exact (a - b) h) ∙ back)) g
      where
        back : a - (a - b) ≡ b
        back = omega arith

    far : b * 2 ≤ a → (h : ℕ) → Few h → a ≡ h * 2 → Few (a - rnd (a - b))
    far c h i e = few-sub (rnd (a - b)) a (rnd-few (a - b)) f (half (rnd (a - b)) (le_trans (le_of_eq (sym (rnd-exact h i))) (rnd-mono h (a - b) (omega arith))))
      where
        half : (x : ℕ) → h ≤ x → a ≤ x * 2
        half x k = omega arith

-- ---- a sum, with the larger term's sign
sums : (a b z : Signed) (s t : Bool) (m n : ℕ) → Same a (signed s m) → Same b (signed t n) → Same (plus_s (signed s m) (signed t n)) z → Same (plus_s a b) z
sums a b z s t m n h k e = omega arith

-- a + b rounded, less the larger term a
pub fast : (a b y : Signed) → Double a → Double b → mag b ≤ mag a → Rounds (plus_s a b) y → Double (less_s y a)
fast a b y f g l r =
    let s = signed_is a in
    let t = signed_is b in
    by s.0 t.0 (mag a) (mag b) s.1 t.1 f g l
  where
    less : (s : Bool) (m o : ℕ) → Same a (signed s m) → Same (plus_s a b) (signed s o) → Few (dist (rnd o) m) → Double (less_s y a)
    less s m o h e f = subst Few (sym (one-sign a y s m (rnd o) h (rounds-at (plus_s a b) y s o r e))) f

    by : (s t : Bool) (m n : ℕ) → Same a (signed s m) → Same b (signed t n) → Few m → Few n → n ≤ m → Double (less_s y a)
    by false false m n h k f g l = less false m (m + n) h (sums a b (signed false (m + n)) false false m n h k (omega arith)) (like-few m n f l)
    by true true m n h k f g l = less true m (m + n) h (sums a b (signed true (m + n)) true true m n h k (omega arith)) (like-few m n f l)
    by false true m n h k f g l = less false m (m - n) h (sums a b (signed false (m - n)) false true m n h k (omega arith)) (unlike-few m n f g l)
    by true false m n h k f g l = less true m (m - n) h (sums a b (signed true (m - n)) true false m n h k (omega arith)) (unlike-few m n f g l)

-- where a is the smaller term: the sum is exact, or no smaller than a
pub no-smaller : (a b y : Signed) → Double a → Double b → mag a ≤ mag b → Rounds (plus_s a b) y → Double (plus_s a b) ⊎ (mag a ≤ mag y)
no-smaller a b y f g l r =
    let s = signed_is a in
    let t = signed_is b in
    by s.0 t.0 (mag a) (mag b) s.1 t.1 f g l
  where
    size : (s : Bool) (p : ℕ) → Same (plus_s a b) (signed s p) → mag y ≡ rnd p
    size s p h = mag_same y (signed s (rnd p)) (rounds-at (plus_s a b) y s p r h) ∙ mag-signed s (rnd p)

    like : (s : Bool) (m n : ℕ) → Same (plus_s a b) (signed s (n + m)) → Few n → m ≤ n → m ≤ mag y
    like s m n h f l = le_trans l (le_trans (like-low n m f) (le_of_eq (sym (size s (n + m) h))))

    unlike : (s : Bool) (m n : ℕ) → Same (plus_s a b) (signed s (n - m)) → Few m → Few n → Double (plus_s a b) ⊎ (m ≤ mag y)
    unlike s m n h f g = elim (below_or n (m * 2)) [
      | inl c ↦ inl (subst Few (sym (mag_same (plus_s a b) (signed s (n - m)) h ∙ mag-signed s (n - m))) (few-sub m n f g (le_of_lt c)))
      | inr c ↦ inr (le_trans (le_of_eq (sym (rnd-exact m f))) (le_trans (rnd-mono m (n - m) (room m n c)) (le_of_eq (sym (size s (n - m) h)))))
    ]
      where
        room : (m n : ℕ) → m * 2 ≤ n → m ≤ n - m
        room m n c = omega arith

    by : (s t : Bool) (m n : ℕ) → Same a (signed s m) → Same b (signed t n) → Few m → Few n → m ≤ n → Double (plus_s a b) ⊎ (m ≤ mag y)
    by false false m n h k f g l = inr (like false m n (sums a b (signed false (n + m)) false false m n h k (omega arith)) g l)
    by true true m n h k f g l = inr (like true m n (sums a b (signed true (n + m)) true true m n h k (omega arith)) g l)
    by false true m n h k f g l = unlike true m n (sums a b (signed true (n - m)) false true m n h k (omega arith)) f g
    by true false m n h k f g l = unlike false m n (sums a b (signed false (n - m)) true false m n h k (omega arith)) f g
