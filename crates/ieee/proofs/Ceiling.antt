-- Laws of `ceiling`, each from the fraction a / d that a number equals. The whole number n that the definition rounds is never rounded: it is below 2 ^ 53, or x is whole itself
-- (`value`). So the ceiling is n exactly, and what is the least whole number among fractions is so among the values. Assumes nothing.
use Rattle.std.proofs.Common.{◌≡◌, ℕ, suc, ◌+◌, ◌*◌, ◌/◌, ◌%◌, ◌^◌, ◌<◌, ◌≤◌, Bool, true, false, T, ℤ, pos, negsuc, sym, refl, ap, ◌∙◌, subst, le_trans, le_of_eq, lt_of_lt_of_le, lt_of_le_of_lt, le_of_lt, mul-le-mul_right, mul_assoc, mul-lt-mul_of_pos_right, pow-suc, mul-one, le-mul_of_pos_right, arith, lit≤, eqb→eq, pow_pos, pow-add}
use native.Mathlib.Nat.{mod-one, mul-mod_left}
use lib.Ieee.{Float, nan, inf, fin, binary64, up, down, round, fits}
use lib.Ieee.Fits.{down_pos, eq→eqb, nan-fits, inf-fits, round-fits}
use lib.Ieee.Exact.{HasValue, round_exact}
use lib.Ieee.Back.{round_whole}
use lib.Ieee.Scale.{finite}
use Rattle.exact.proofs.Value.{held, rescale, unique}
use Rattle.ieee.specs.Ceiling.{whole_toward, ceiling, is_whole, LeastWhole, TowardPositive, CeilingAt}
use Rattle.ieee.proofs.Fractions.{toward, least-ceil, greatest-floor, toward-same, toward-whole, divided, no-larger, toward-le}
use Rattle.ieee.proofs.Comparing.{AtMost, le-of-fractions, fractions-of-le}

-- ---- its value

whole-value : (s : Bool) (m k : ℕ) → T (fits binary64 (fin s m (pos k))) → HasValue (round binary64 s (m * 2 ^ k) 1) s (m * 2 ^ k) 1
whole-value s m k t =
    let e : m * 2 ^ k * 2 ^ 1074 ≡ m * 2 ^ (k + 1074) = mul_assoc m (2 ^ k) (2 ^ 1074) ∙ ap (λ (z : ℕ). m * z) (sym (pow-add 2 k 1074)) in
    round_exact binary64 s (m * 2 ^ k) 1 m (k + 1074) (pow_pos 0) (held s m (pos k) t).few
    (lt_of_le_of_lt (le_of_eq (sym e)) (lt_of_lt_of_le (mul-lt-mul_of_pos_right (subst (λ (z : ℕ). m * 2 ^ k < z) (mul-one (2 ^ 1024)) (held s m (pos k) t).high) (pow_pos 1074)) (lit≤ tt)))
    (e ∙ sym (mul-one (m * 2 ^ (k + 1074))))

own_value : (s : Bool) (m : ℕ) (e : ℤ) → T (fits binary64 (fin s m e)) → HasValue (ceiling (fin s m e)) s (whole_toward s (m * up e) (down e)) 1
unfolding ceiling
own_value s m (pos k) t =
    let w : whole_toward s (m * 2 ^ k) 1 ≡ m * 2 ^ k = ap (λ (z : ℕ). whole_toward s z 1) (sym (mul-one (m * 2 ^ k))) ∙ toward-whole s (m * 2 ^ k) 1 (pow_pos 0) in
    subst (λ (n : ℕ). HasValue (round binary64 s n 1) s n 1) (sym w) (whole-value s m k t)
own_value s m (negsuc k) t =
    let d = 2 ^ suc k in
    round_whole binary64 s (whole_toward s (m * 1) d)
    (le_trans (toward-le s (m * 1) d (pow_pos (suc k))) (le_trans (le_of_eq (mul-one m)) (le_of_lt (held s m (negsuc k) t).few)))

pub value : (x : Float) (s : Bool) (a d : ℕ) → 0 < d → T (fits binary64 x) → HasValue x s a d → HasValue (ceiling x) s (whole_toward s a d) 1
value (fin t m e) s a d D f v =
    subst (λ (u : Bool). HasValue (ceiling (fin t m e)) u (whole_toward u a d) 1) v.0
    (subst (λ (n : ℕ). HasValue (ceiling (fin t m e)) t n 1) (toward-same t (m * up e) (down e) a d (down_pos e) D v.1) (own_value t m e f))
value nan s a d D f v = elim v [ ]
value (inf _) s a d D f v = elim v [ ]

-- the same with n's bounds, in plain whole numbers
pub ceiling-at : (x : Float) (s : Bool) (a d : ℕ) → 0 < d → T (fits binary64 x) → HasValue x s a d → CeilingAt s a d (ceiling x)
ceiling-at x s a d D f v = record { n = whole_toward s a d; value = value x s a d D f v; toward = toward s a d D }

pub own-ceiling : (s : Bool) (m : ℕ) (e : ℤ) → T (fits binary64 (fin s m e)) → CeilingAt s (m * up e) (down e) (ceiling (fin s m e))
own-ceiling s m e f = ceiling-at (fin s m e) s (m * up e) (down e) (down_pos e) f (refl, refl)

-- ---- it fits, and it is finite

pub ceiling-fits : (x : Float) → T (fits binary64 (ceiling x))
unfolding ceiling
ceiling-fits nan = nan-fits binary64
ceiling-fits (inf s) = inf-fits binary64 s
ceiling-fits (fin s m e) = round-fits binary64 s (whole_toward s (m * up e) (down e)) 1

pub finite-of-value : (x : Float) (s : Bool) (a d : ℕ) → HasValue x s a d → T (finite x)
finite-of-value (fin t m e) s a d v = tt
finite-of-value nan s a d v = elim v [ ]
finite-of-value (inf _) s a d v = elim v [ ]

pub ceiling-finite : (x : Float) → T (fits binary64 x) → T (finite x) → T (finite (ceiling x))
ceiling-finite (fin s m e) f t = finite-of-value (ceiling (fin s m e)) s (whole_toward s (m * up e) (down e)) 1 (own_value s m e f)
ceiling-finite nan f t = elim t [ ]
ceiling-finite (inf _) f t = elim t [ ]

-- what has the ceiling's value is the ceiling
pub is-ceiling : (x y : Float) (s : Bool) (a d : ℕ) → 0 < d → T (fits binary64 x) → T (fits binary64 y) → HasValue x s a d → HasValue y s (whole_toward s a d) 1 → y ≡ ceiling x
is-ceiling x y s a d D f g v w = unique y (ceiling x) s (whole_toward s a d) 1 (pow_pos 0) g (ceiling-fits x) w (value x s a d D f v)

-- ---- a whole number is its own ceiling
pub whole-fixed : (x : Float) (s : Bool) (a d : ℕ) → 0 < d → T (fits binary64 x) → HasValue x s a d → a % d ≡ 0 → ceiling x ≡ x
whole-fixed x s a d D f v h =
    let q : a / d * d ≡ a = divided a d h in
    sym (is-ceiling x x s a d D f f v
    (subst (λ (n : ℕ). HasValue x s n 1) (sym (toward-whole s (a / d) d D) ∙ ap (λ (z : ℕ). whole_toward s z d) q)
    (rescale x s a d (a / d) 1 D (q ∙ sym (mul-one a)) v)))

too_large : (m p q : ℕ) → m < 2 ^ 53 → 2 ^ 52 * p ≤ m * 1 → p ≡ q * 2 → 0 < q → ⊥
too_large m p q h k e Q = omega arith

-- so is every number from 2 ^ 52 on
pub large-fixed : (s : Bool) (m : ℕ) (e : ℤ) → T (fits binary64 (fin s m e)) → 2 ^ 52 * down e ≤ m * up e → ceiling (fin s m e) ≡ fin s m e
large-fixed s m (pos k) f h = whole-fixed (fin s m (pos k)) s (m * 2 ^ k) 1 (pow_pos 0) f (refl, refl) (mod-one (m * 2 ^ k))
large-fixed s m (negsuc k) f h = absurd (too_large m (2 ^ suc k) (2 ^ k) (held s m (negsuc k) f).few h (pow-suc 2 k) (pow_pos k))

-- ---- it is the least whole number that is not below x

whole-of-value : (x : Float) (s : Bool) (n : ℕ) → HasValue x s n 1 → T (is_whole x)
whole-of-value (fin t m e) s n v = eq→eqb (ap (λ (z : ℕ). z % down e) (sym (mul-one (m * up e)) ∙ v.1) ∙ mul-mod_left n (down e))
whole-of-value nan s n v = elim v [ ]
whole-of-value (inf _) s n v = elim v [ ]

-- a whole number is a natural one with a sign
pub record Natural (x : Float) : Type 0 where
  pub s : Bool
  pub n : ℕ
  pub value : HasValue x s n 1

pub natural : (x : Float) → T (is_whole x) → Natural x
natural (fin s m e) t = record {
  s = s;
  n = m * up e / down e;
  value = (refl, mul-one (m * up e) ∙ sym (divided (m * up e) (down e) (eqb→eq (m * up e % down e) 0 t)));
}
natural nan t = elim t [ ]
natural (inf _) t = elim t [ ]

not-below : (s : Bool) (a d n : ℕ) → TowardPositive s a d n → AtMost s (a * 1) s (n * d)
not-below true a d n h = le_trans h.reaches (le_of_eq (sym (mul-one a)))
not-below false a d n h = le_trans (le_of_eq (mul-one a)) h.reaches

null : (n a : ℕ) → n ≤ a → a * 1 ≡ 0 → n * 1 ≡ 0
null n a h z = omega arith

no_more : (s t : Bool) (a d n w : ℕ) → 0 < d → TowardPositive s a d n → AtMost s (a * 1) t (w * d) → AtMost s (n * 1) t (w * 1)
no_more true true a d n w D h k = mul-le-mul_right 1 (greatest-floor a d n w h (le_trans k (le_of_eq (mul-one a))))
no_more true false a d n w D h k = tt
no_more false false a d n w D h k = mul-le-mul_right 1 (least-ceil a d n w h (le_trans (le_of_eq (sym (mul-one a))) k))
no_more false true a d n w D h k = (null n a (no-larger a d n D h) k.0, null w (w * d) (le-mul_of_pos_right w D) (mul-one (w * d) ∙ k.1))

pub least : (x : Float) → T (fits binary64 x) → T (finite x) → LeastWhole x (ceiling x)
least (fin s m e) f t =
    let x = fin s m e in
    let a = m * up e in
    let d = down e in
    let n = whole_toward s a d in
    let v = own_value s m e f in
    let o = toward s a d (down_pos e) in
    record {
      whole = whole-of-value (ceiling x) s n v;
      reaches = le-of-fractions x (ceiling x) s s a d n 1 (down_pos e) (pow_pos 0) (refl, refl) v (not-below s a d n o);
      least = λ z w h.
          let i = natural z w in
          le-of-fractions (ceiling x) z s i.s n 1 i.n 1 (pow_pos 0) (pow_pos 0) v i.value
          (no_more s i.s a d n i.n (down_pos e) o (fractions-of-le x z s i.s a d i.n 1 (down_pos e) (pow_pos 0) (refl, refl) i.value h));
    }
least nan f t = elim t [ ]
least (inf _) f t = elim t [ ]
