-- One step of the recurrence at an end: where x equals lo it gives the first number back, and where x equals hi, above lo, the second one.
-- Assumes nothing.
use Rattle.std.proofs.Common.{◌≡◌, ℕ, zero, suc, ◌+◌, ◌-◌, ◌*◌, ◌^◌, ◌<◌, Bool, true, false, cond, not, ◌&&◌, ◌||◌, T, ℤ, sym, refl, ap, ◌∙◌, subst, le_trans, le_of_eq, zero-lt-suc, mul-pos, one-mul, zero-mul, mul-one, arith, lit<, pow_pos, ne_eqb}
use mathlib.Core.Bool.{beq, false≢true}
use lib.Dec.{eqb-suc-zero}
use lib.Ieee.{Float, nan, inf, fin, binary64, of_bits, round, units, odd, sum, add, sub, mul, div, eq, up, down, unlike}
use lib.Ieee.Exact.{HasValue}
use lib.Ieee.Fits.{up_pos, down_pos, sub-fits}
use lib.Ieee.Scale.{finite, round_same}
use Rattle.exact.specs.Doubles.{nought, one, zero_of}
use Rattle.exact.specs.Signed.{Signed, Same, signed}
use Rattle.exact.specs.Value.{Units, sign_of, units_of}
use Rattle.exact.proofs.Few.{few-of, few-value, units-below}
use Rattle.exact.proofs.Finite.{smaller-units}
use Rattle.exact.proofs.Operation.{add_rounds, sub-rounds}
use Rattle.exact.proofs.Sum.{sum_like, sum_first, sum-second, sum_comm}
use Rattle.exact.proofs.Value.{own, units-are}
use Rattle.spline.specs.Spline.{alpha_of, share, blend_of}
use Rattle.spline.proofs.Equal.{eq_is}
use Rattle.spline.proofs.Places.{Number, value_of, place, Less, placed}
use Rattle.exact.proofs.Zeros.{round-zero, none-times}
use Rattle.spline.proofs.Zeros.{none-value, nought-is, none-is-nought, same-difference}
use Rattle.spline.proofs.Zeros.{one-less-none, one-less-one, one-units, sum-nothing}

-- ---- what is a number a, and a zero
module _ (a y : Float) (z : Bool) (A : Number a) (v : Units y (sign_of a) (units_of a)) where
  added : (x : Float) → x ≡ sum binary64 (sign_of a) (units_of a) z 0 (2 ^ 1074) → Same (place x) (place a)
  added x e =
      let w = sum-nothing (sign_of a) z (units_of a) (few-of a A.fit A.known) (units-below a A.fit A.known) in
      let value : Units x w.0 (units_of a) = subst (λ (q : Float). Units q w.0 (units_of a)) (sym e) w.1 in
      subst (λ (p : Signed). Same p (place a)) (sym (placed x w.0 (units_of a) value)) w.2

  plus_none : Same (place (add binary64 y (zero_of z))) (place a)
  plus_none =
      added (add binary64 y (zero_of z)) (add_rounds binary64 y (zero_of z) (sign_of a) z (units_of a) 0 (2 ^ 1074) (pow_pos 1074) v (none-value z (2 ^ 1074)))

  none-plus : Same (place (add binary64 (zero_of z) y)) (place a)
  none-plus =
      added (add binary64 (zero_of z) y)
      (add_rounds binary64 (zero_of z) y z (sign_of a) 0 (units_of a) (2 ^ 1074) (pow_pos 1074) (none-value z (2 ^ 1074)) v
      ∙ sum_comm binary64 z (sign_of a) 0 (units_of a) (2 ^ 1074))

-- ---- the difference of two numbers
minus_is : (x y : Float) → Number x → Number y → sub binary64 x y ≡ sum binary64 (sign_of x) (units_of x) (not (sign_of y)) (units_of y) (2 ^ 1074)
minus_is x y X Y = sub-rounds binary64 x y (sign_of x) (sign_of y) (units_of x) (units_of y) (2 ^ 1074) (pow_pos 1074) (value_of x X) (value_of y Y)

-- ---- the left end
or-true : (b : Bool) → (b || true) ≡ true
or-true true = refl
or-true false = refl

nought-value : (c : ℕ) → HasValue nought false 0 c
nought-value c = rw nought-is (none-value false c)

-- no digits, and the number equals 0
empty : (s : Bool) (e : ℤ) → eq (fin s zero e) nought ≡ true
empty s e =
    eq_is (fin s zero e) nought s false 0 0 1 (lit< tt) (refl, ap (λ (n : ℕ). n * 1) (zero-mul (up e)) ∙ sym (zero-mul (down e))) (nought-value 1)
    ∙ or-true (beq s false)

none-quotient : (s : Bool) (w : Float) → T (finite w) → eq w nought ≡ false → div binary64 (zero_of s) w ≡ zero_of (unlike s (sign_of w))
unfolding div
none-quotient s nan t e = absurd t
none-quotient s (inf u) t e = absurd t
none-quotient s (fin u zero d) t e = absurd (false≢true (sym e ∙ empty u d))
none-quotient s (fin u (suc n) d) t e =
    rw (eqb-suc-zero n)
    (ap (λ (k : ℕ). round binary64 (unlike s u) k (suc n * up d * 1)) (zero-mul (down d))
    ∙ round-zero (unlike s u) (suc n * up d * 1) (mul-pos (mul-pos (zero-lt-suc n) (up_pos d)) (lit< tt)))

-- a zero over a finite number, or over a zero
none_over : (s : Bool) (w : Float) → T (finite w) → (z : Bool) × (alpha_of (zero_of s) w ≡ zero_of z)
none_over s w t = by (eq w nought) refl
  where
    first : alpha_of (zero_of s) w ≡ cond (eq w nought) nought (div binary64 (zero_of s) w)
    first = ap (λ (b : Bool). cond (b && eq w nought) nought (div binary64 (zero_of s) w)) (none-is-nought s)

    by : (b : Bool) → eq w nought ≡ b → (z : Bool) × (alpha_of (zero_of s) w ≡ zero_of z)
    by true e = (false, first ∙ ap (λ (b : Bool). cond b nought (div binary64 (zero_of s) w)) e ∙ nought-is)
    by false e = (unlike s (sign_of w), first ∙ ap (λ (b : Bool). cond b nought (div binary64 (zero_of s) w)) e ∙ none-quotient s w t e)

module _ (x lo hi a b : Float) (X : Number x) (L : Number lo) (A : Number a) (B : T (finite b)) where
  share-none : T (finite (sub binary64 hi lo)) → Same (place x) (place lo) → (z : Bool) × (share x lo hi ≡ zero_of z)
  share-none t e =
      let d = same-difference (sign_of x) (sign_of lo) (units_of x) (units_of lo) (2 ^ 1074) (pow_pos 1074) e in
      let q = none_over d.0 (sub binary64 hi lo) t in
      (q.0, ap (λ (y : Float). alpha_of y (sub binary64 hi lo)) (minus_is x lo X L ∙ d.1) ∙ q.1)

  pub left_step : T (finite (sub binary64 hi lo)) → Same (place x) (place lo) → Same (place (blend_of x lo hi a b)) (place a)
  unfolding blend_of
  left_step t e =
      let q = share-none t e in
      let is : blend_of x lo hi a b ≡ add binary64 (mul binary64 one a) (zero_of (unlike q.0 (sign_of b))) =
      (λ i. add binary64 (mul binary64 (sub binary64 one (q.1 i)) a) (mul binary64 (q.1 i) b))
      ∙ (λ i. add binary64 (mul binary64 (one-less-none q.0 i) a) (none-times q.0 b B i)) in
      subst (λ (y : Float). Same (place y) (place a)) (sym is) (plus_none a (mul binary64 one a) (unlike q.0 (sign_of b)) A (one-units a A))

-- ---- the right end
-- how far x lies above l
abbrev gap : Signed → Signed → ℕ
gap x l = x.plus + l.less - (l.plus + x.less)

difference : (s u : Bool) (a d c : ℕ) → Less (signed u d) (signed s a)
    → sum binary64 s a (not u) d c ≡ round binary64 false (gap (signed s a) (signed u d)) c
difference false false a d c l = sum_first binary64 false true a d c refl (omega arith) ∙ ap (λ (m : ℕ). round binary64 false m c) (omega arith)
difference false true a d c l = sum_like binary64 false false a d c refl ∙ ap (λ (m : ℕ). round binary64 false m c) (omega arith)
difference true false a d c l = absurd (omega arith)
difference true true a d c l = sum-second binary64 true false a d c refl (omega arith) ∙ ap (λ (m : ℕ). round binary64 false m c) (omega arith)

some-gap : (x l : Signed) → Less l x → 0 < gap x l
some-gap x l h = omega arith

same_gap : (x y l : Signed) → Same x y → gap x l ≡ gap y l
same_gap x y l e = omega arith

same-less : (x y l : Signed) → Same x y → Less l y → Less l x
same-less x y l e h = omega arith

-- at least one unit stays
least : units_of (round binary64 false 1 (2 ^ 1074)) ≡ 1
least =
    units-are (round binary64 false 1 (2 ^ 1074)) false 1 (few-value false 1 (record { digits = 1; shift = 0; few = lit< tt; is = refl }) (lit< tt))

some-units : (k : ℕ) → 0 < k → T (finite (round binary64 false k (2 ^ 1074))) → 0 < units_of (round binary64 false k (2 ^ 1074))
some-units k h t = le_trans (le_of_eq (sym least)) (smaller-units false false 1 k (2 ^ 1074) (pow_pos 1074) h t)

-- a number over itself
itself : (w : Float) → T (finite w) → eq w nought ≡ false → div binary64 w w ≡ one
unfolding div
itself nan t e = absurd t
itself (inf u) t e = absurd t
itself (fin u zero d) t e = absurd (false≢true (sym e ∙ empty u d))
itself (fin u (suc n) d) t e =
    let k = suc n * up d * down d in
    let K : 0 < k = mul-pos (mul-pos (zero-lt-suc n) (up_pos d)) (down_pos d) in
    rw (eqb-suc-zero n) (round_same binary64 (unlike u u) k k 1 1 K (lit< tt) (mul-one k ∙ sym (one-mul k)) ∙ by u)
  where
    by : (u : Bool) → round binary64 (unlike u u) 1 1 ≡ one
    by true = unfold round units odd of_bits in refl
    by false = unfold round units odd of_bits in refl

module _ (x lo hi a b : Float) (X : Number x) (L : Number lo) (H : Number hi) (A : T (finite a)) (B : Number b) where
  abbrev wide : Float
  wide = sub binary64 hi lo

  share-one : T (finite wide) → Same (place x) (place hi) → Less (place lo) (place hi) → share x lo hi ≡ one
  share-one t e l =
      let is : wide ≡ round binary64 false (gap (place hi) (place lo)) (2 ^ 1074) =
      minus_is hi lo H L ∙ difference (sign_of hi) (sign_of lo) (units_of hi) (units_of lo) (2 ^ 1074) l in
      let from : sub binary64 x lo ≡ wide =
      minus_is x lo X L
      ∙ difference (sign_of x) (sign_of lo) (units_of x) (units_of lo) (2 ^ 1074) (same-less (place x) (place hi) (place lo) e l)
      ∙ ap (λ (m : ℕ). round binary64 false m (2 ^ 1074)) (same_gap (place x) (place hi) (place lo) e)
      ∙ sym is in
      let more : 0 < units_of wide =
      subst (λ (y : Float). 0 < units_of y) (sym is)
      (some-units (gap (place hi) (place lo)) (some-gap (place hi) (place lo) l) (subst (λ (y : Float). T (finite y)) is t)) in
      let other : eq wide nought ≡ false =
      eq_is wide nought (sign_of wide) false (units_of wide) 0 (2 ^ 1074) (pow_pos 1074) (own wide (sub-fits binary64 hi lo) t) (nought-value (2 ^ 1074))
      ∙ ap (λ (y : Bool). y && (beq (sign_of wide) false || y)) (ne_eqb (units_of wide) 0 (above (units_of wide) more)) in
      ap (λ (y : Float). alpha_of y wide) from ∙ ap (λ (y : Bool). cond (y && y) nought (div binary64 wide wide)) other ∙ itself wide t other
    where
      above : (n : ℕ) → 0 < n → n ≡ 0 → ⊥
      above n h e = omega arith

  pub right-step : T (finite wide) → Same (place x) (place hi) → Less (place lo) (place hi) → Same (place (blend_of x lo hi a b)) (place b)
  unfolding blend_of
  right-step t e l =
      let q = share-one t e l in
      let is : blend_of x lo hi a b ≡ add binary64 (zero_of (unlike false (sign_of a))) (mul binary64 one b) =
      (λ i. add binary64 (mul binary64 (sub binary64 one (q i)) a) (mul binary64 (q i) b))
      ∙ ap (λ (y : Float). add binary64 (mul binary64 y a) (mul binary64 one b)) one-less-one
      ∙ ap (λ (y : Float). add binary64 y (mul binary64 one b)) (none-times false a A) in
      subst (λ (y : Float). Same (place y) (place b)) (sym is) (none-plus b (mul binary64 one b) (unlike false (sign_of a)) B (one-units b B))
