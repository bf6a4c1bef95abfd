-- `le` of two finite values is the order of the signed fractions that they equal. Assumes nothing.
use Rattle.std.proofs.Common.{◌≡◌, ℕ, ◌+◌, ◌*◌, ◌<◌, ◌≤◌, Bool, true, false, ◌&&◌, ◌||◌, T, eqb, ltb, ◌⊎◌, sym, ◌∙◌, subst, inl, inr, zero-le, le_trans, le_of_eq, le_of_lt, eq-zero-or-pos, eq-or-lt_of_le, zero-mul, arith, eqb→eq, ltb→lt, lt→ltb}
use lib.Arith.{le-zero}
use lib.Ieee.{Float, fin, up, down, below, level, le, inf, nan}
use lib.Ieee.Fits.{down_pos, and_i, and_l, and_r, eq→eqb}
use lib.Ieee.Exact.{HasValue}
use lib.Ieee.Order.{transfer}

-- ±a ≤ ±b, where s and t say which is negative
abbrev pub AtMost : Bool → ℕ → Bool → ℕ → Type 0
AtMost false a false b = a ≤ b
AtMost false a true b = (a ≡ 0) × (b ≡ 0)
AtMost true a false b = Unit
AtMost true a true b = b ≤ a

-- ---- the two tests of `le`
or_l : (p q : Bool) → T p → T (p || q)
or_l true q t = tt
or_l false q t = absurd t

or_r : (p q : Bool) → T q → T (p || q)
or_r true q t = tt
or_r false q t = t

or_split : (p q : Bool) → T (p || q) → T p ⊎ T q
or_split true q t = inl tt
or_split false q t = inr t

both : (p : Bool) → T p → T (p && true)
both true t = tt
both false t = t

tested : (s t : Bool) (a b : ℕ) → AtMost s a t b → T (below s a t b || level s a t b)
tested false false a b h = elim (eq-or-lt_of_le h) [ inl e ↦ or_r (ltb a b) (eqb a b && true) (both (eqb a b) (eq→eqb e)) | inr l ↦ or_l (ltb a b) (eqb a b && true) (lt→ltb a b l) ]
tested false true a b h = and_i (eqb a b) (eqb a 0) (eq→eqb (h.0 ∙ sym h.1)) (eq→eqb h.0)
tested true false a b h = elim (eq-zero-or-pos (a + b)) [ inl z ↦ or_r (ltb 0 (a + b)) (eqb a b && eqb a 0) (and_i (eqb a b) (eqb a 0) (eq→eqb {a = a} {b = b} (omega arith)) (eq→eqb {a = a} {b = 0} (omega arith))) | inr p ↦ or_l (ltb 0 (a + b)) (eqb a b && eqb a 0) (lt→ltb 0 (a + b) p) ]
tested true true a b h = elim (eq-or-lt_of_le h) [ inl e ↦ or_r (ltb b a) (eqb a b && true) (both (eqb a b) (eq→eqb (sym e))) | inr l ↦ or_l (ltb b a) (eqb a b && true) (lt→ltb b a l) ]

says : (s t : Bool) (a b : ℕ) → T (below s a t b || level s a t b) → AtMost s a t b
says false false a b h = elim (or_split (ltb a b) (eqb a b && true) h) [ inl l ↦ le_of_lt (ltb→lt a b l) | inr e ↦ le_of_eq (eqb→eq a b (and_l (eqb a b) true e)) ]
says false true a b h =
    let z : a ≡ 0 = eqb→eq a 0 (and_r (eqb a b) (eqb a 0) h) in
    (z, sym (eqb→eq a b (and_l (eqb a b) (eqb a 0) h)) ∙ z)
says true false a b h = tt
says true true a b h = elim (or_split (ltb b a) (eqb a b && true) h) [ inl l ↦ le_of_lt (ltb→lt b a l) | inr e ↦ le_of_eq (sym (eqb→eq a b (and_l (eqb a b) true e))) ]

-- ---- x / p is a / c and y / q is b / d
vanishes : (x p q a c d : ℕ) → 0 < c → 0 < d → x * c ≡ a * p → a * d ≡ 0 → x * q ≡ 0
vanishes x p q a c d C D e z = le-zero (le_trans (transfer x 0 p q a 0 c d C D e (zero-mul d ∙ sym (zero-mul q)) (le_trans (le_of_eq z) zero-le)) (le_of_eq (zero-mul p)))

move : (s t : Bool) (x y p q a b c d : ℕ) → 0 < c → 0 < d → x * c ≡ a * p → y * d ≡ b * q → AtMost s (a * d) t (b * c) → AtMost s (x * q) t (y * p)
move false false x y p q a b c d C D e f h = transfer x y p q a b c d C D e f h
move false true x y p q a b c d C D e f h = (vanishes x p q a c d C D e h.0, vanishes y q p b d c D C f h.1)
move true false x y p q a b c d C D e f h = tt
move true true x y p q a b c d C D e f h = transfer y x q p b a d c D C f e h

-- ---- `le`
pub le-of-fractions : (x y : Float) (s t : Bool) (a c b d : ℕ) → 0 < c → 0 < d → HasValue x s a c → HasValue y t b d → AtMost s (a * d) t (b * c) → T (le x y)
unfolding le
le-of-fractions (fin s m e) (fin t n g) s' t' a c b d C D v w h =
    tested s t (m * up e * down g) (n * up g * down e)
    (move s t (m * up e) (n * up g) (down e) (down g) a b c d C D v.1 w.1
    (subst (λ (u : Bool). AtMost u (a * d) t (b * c)) (sym v.0) (subst (λ (u : Bool). AtMost s' (a * d) u (b * c)) (sym w.0) h)))
le-of-fractions nan y s' t' a c b d C D v w h = elim v [ ]
le-of-fractions (inf _) y s' t' a c b d C D v w h = elim v [ ]
le-of-fractions (fin s m e) nan s' t' a c b d C D v w h = elim w [ ]
le-of-fractions (fin s m e) (inf _) s' t' a c b d C D v w h = elim w [ ]

pub fractions-of-le : (x y : Float) (s t : Bool) (a c b d : ℕ) → 0 < c → 0 < d → HasValue x s a c → HasValue y t b d → T (le x y) → AtMost s (a * d) t (b * c)
unfolding le
fractions-of-le (fin s m e) (fin t n g) s' t' a c b d C D v w h =
    subst (λ (u : Bool). AtMost u (a * d) t' (b * c)) v.0
    (subst (λ (u : Bool). AtMost s (a * d) u (b * c)) w.0
    (move s t a b c d (m * up e) (n * up g) (down e) (down g) (down_pos e) (down_pos g) (sym v.1) (sym w.1) (says s t (m * up e * down g) (n * up g * down e) h)))
fractions-of-le nan y s' t' a c b d C D v w h = elim v [ ]
fractions-of-le (inf _) y s' t' a c b d C D v w h = elim v [ ]
fractions-of-le (fin s m e) nan s' t' a c b d C D v w h = elim w [ ]
fractions-of-le (fin s m e) (inf _) s' t' a c b d C D v w h = elim w [ ]
