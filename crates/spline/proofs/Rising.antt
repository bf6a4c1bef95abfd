-- Where no knot falls and all are finite, behind a knot over x all are over x: the span of x is that before the first of these. Assumes nothing.
use Rattle.std.proofs.Common.{◌≡◌, ℕ, zero, suc, ◌+◌, ◌-◌, ◌*◌, ◌^◌, ◌<◌, ◌≤◌, Bool, true, false, not, ◌&&◌, ◌||◌, T, eqb, ltb, List, sym, refl, ap, ◌∙◌, ⊎_elim, eq-zero-or-pos, eq-or-lt_of_le, arith, pow_pos, ltb-false, ltb-true, le-ltb, lt-ltb, eq-eqb, ne_eqb, eqb-true}
use mathlib.Core.Bool.{false≢true}
use Prim.Native.Nat.{compare, Ordering}
use borrow.Author.Tests.{eqb-false}
use lib.Ieee.{Float, nan, inf, fin, binary64, up, down, below, level, fits, lt, le, eq}
use lib.Ieee.Scale.{finite}
use Rattle.exact.specs.Value.{sign_of, units_of}
use Rattle.exact.proofs.Compare.{lt-is}
use Rattle.exact.proofs.Order.{compared, Stands}
use Rattle.exact.proofs.Value.{own}
use Rattle.spline.specs.Spline.{knot_at, span_to, span_at}
use Rattle.spline.specs.Walk.{Tamed, Tame}

-- ---- of signed numbers: a is at most b exactly where b is not below a
not-both : (u v : Bool) → (u ≡ true → v ≡ true → ⊥) → (u && v) ≡ false
not-both false v h = refl
not-both true false h = refl
not-both true true h = absurd (h refl refl)

eqb_sym : (a b : ℕ) → eqb a b ≡ eqb b a
eqb_sym a b = by (eqb a b) refl
  where
    by : (u : Bool) → eqb a b ≡ u → u ≡ eqb b a
    by true e = sym (eq-eqb b a (sym (eqb-true a b e)))
    by false e = sym (ne_eqb b a (λ q. eqb-false a b e (sym q)))

like : (a b : ℕ) → (ltb a b || eqb a b && true) ≡ not (ltb b a)
like a b = by (compare a b) (compared a b)
  where
    by : (o : Ordering) → Stands o a b → (ltb a b || eqb a b && true) ≡ not (ltb b a)
    by Ordering.lt h = rw (lt-ltb a b h, le-ltb b a (omega arith))
    by Ordering.eq h = rw (le-ltb a b (omega arith), eq-eqb a b h, le-ltb b a (omega arith))
    by Ordering.gt h = rw (le-ltb a b (omega arith), ne_eqb a b (λ e. omega arith), lt-ltb b a h)

turned : (s t : Bool) (a b : ℕ) → (below s a t b || level s a t b) ≡ not (below t b s a)
turned false false a b = like a b
turned true true a b = rw (eqb_sym a b) (like b a)
turned true false a b =
    ⊎_elim (λ (z : a + b ≡ 0). rw (le-ltb 0 (a + b) (omega arith), eq-eqb a b (omega arith), eq-eqb a 0 (omega arith)))
    (λ (z : 0 < a + b). rw (lt-ltb 0 (a + b) z)) (eq-zero-or-pos (a + b))
turned false true a b =
    ⊎_elim (λ (z : b + a ≡ 0). rw (le-ltb 0 (b + a) (omega arith), eq-eqb a b (omega arith), eq-eqb a 0 (omega arith)))
    (λ (z : 0 < b + a). rw (lt-ltb 0 (b + a) z) (not-both (eqb a b) (eqb a 0) (λ e f. omega (arith, eqb-true a b e, eqb-true a 0 f))))
    (eq-zero-or-pos (b + a))

-- a below b, and c not below b
below_all : (s t u : Bool) (a b c : ℕ) → below s a t b ≡ true → below u c t b ≡ false → below s a u c ≡ true
below_all false false false a b c h g = lt-ltb a c (omega (arith, ltb-true a b h, ltb-false c b g))
below_all false false true a b c h g = absurd (omega (arith, ltb-true a b h, ltb-false 0 (c + b) g))
below_all false true u a b c h g = absurd (false≢true h)
below_all true false false a b c h g = lt-ltb 0 (a + c) (omega (arith, ltb-true 0 (a + b) h, ltb-false c b g))
below_all true false true a b c h g = lt-ltb c a (omega (arith, ltb-true 0 (a + b) h, ltb-false 0 (c + b) g))
below_all true true false a b c h g = lt-ltb 0 (a + c) (omega (arith, ltb-true b a h))
below_all true true true a b c h g = lt-ltb c a (omega (arith, ltb-true b a h, ltb-false b c g))

-- ---- of doubles: a number x that is not below a finite b is at least b; one below it is not
at_least : (a b x : Float) → T (finite b) → le a x ≡ true → lt x b ≡ false → le b x ≡ true
unfolding lt le eq
at_least a nan x t h g = absurd t
at_least a (inf s) x t h g = absurd t
at_least nan (fin s m e) nan t h g = absurd (false≢true h)
at_least (inf s) (fin u m e) nan t h g = absurd (false≢true h)
at_least (fin s n d) (fin u m e) nan t h g = absurd (false≢true h)
at_least a (fin s m e) (inf true) t h g = absurd (false≢true (sym g))
at_least a (fin s m e) (inf false) t h g = refl
at_least a (fin s m e) (fin u n d) t h g = turned s u (m * up e * down d) (n * up d * down e) ∙ ap not g

over : (b x : Float) → T (finite b) → lt x b ≡ true → le b x ≡ false
unfolding lt le eq
over nan x t h = absurd t
over (inf s) x t h = absurd t
over (fin s m e) nan t h = absurd (false≢true h)
over (fin s m e) (inf true) t h = refl
over (fin s m e) (inf false) t h = absurd (false≢true h)
over (fin s m e) (fin u n d) t h = turned s u (m * up e * down d) (n * up d * down e) ∙ ap not h

-- x below a, and b not below a
under : (x a b : Float) → T (fits binary64 x) → Tamed a → Tamed b → lt x a ≡ true → lt b a ≡ false → lt x b ≡ true
unfolding lt
under nan a b f k l h g = absurd (false≢true h)
under (inf s) nan b f k l h g = absurd k.known
under (inf s) (inf t) b f k l h g = absurd k.known
under (inf s) (fin t m e) nan f k l h g = absurd l.known
under (inf s) (fin t m e) (inf u) f k l h g = absurd l.known
under (inf s) (fin t m e) (fin u n d) f k l h g = h
under (fin s m e) a b f k l h g =
    let x = fin s m e in
    let x-is = own x f tt in
    let a-is = own a k.fit k.known in
    let b-is = own b l.fit l.known in
    lt-is x b s (sign_of b) (units_of x) (units_of b) (2 ^ 1074) (pow_pos 1074) x-is b-is
    ∙ below_all s (sign_of a) (sign_of b) (units_of x) (units_of a) (units_of b)
    (sym (lt-is x a s (sign_of a) (units_of x) (units_of a) (2 ^ 1074) (pow_pos 1074) x-is a-is) ∙ h)
    (sym (lt-is b a (sign_of b) (sign_of a) (units_of b) (units_of a) (2 ^ 1074) (pow_pos 1074) b-is a-is) ∙ g)

-- ---- of knots
module _ (row : List Float) (p n : ℕ) (x : Float) (fit : T (fits binary64 x)) (tame : Tame row p n) where
  -- the next knot, where it is not over x
  pub next-knot : (k : ℕ) → k < n → le (knot_at row k) x ≡ true → lt x (knot_at row (k + 1)) ≡ false → le (knot_at row (k + 1)) x ≡ true
  next-knot k h = at_least (knot_at row k) (knot_at row (k + 1)) x (tame.knot (k + 1) (omega arith)).known

  all-over : (k d : ℕ) → k + d ≤ n + p → lt x (knot_at row k) ≡ true → lt x (knot_at row (k + d)) ≡ true
  all-over k zero h e = let same : k + 0 ≡ k = omega arith in rw same e
  all-over k (suc d) h e =
      let place : k + suc d ≡ k + d + 1 = omega arith in
      rw place
      (under x (knot_at row (k + d)) (knot_at row (k + d + 1)) fit (tame.knot (k + d) (omega arith)) (tame.knot (k + d + 1) (omega arith))
      (all-over k d (omega arith) e) (tame.rises (k + d) (omega arith)))

  searched : (k m : ℕ) → p ≤ k → k ≤ p + m → le (knot_at row k) x ≡ true → ((j : ℕ) → k < j → j ≤ p + m → le (knot_at row j) x ≡ false)
      → k ≡ span_to row p x m
  unfolding span_to
  searched k zero h g e o = omega arith
  searched k (suc m) h g e o =
      ⊎_elim
      (λ (q : k ≡ p + suc m). rw (← q, e))
      (λ (q : k < p + suc m). rw (o (p + suc m) q (omega arith)) (searched k m h (omega arith) e (λ j a b. o j a (omega arith))))
      (eq-or-lt_of_le g)

  pub span-found : (k : ℕ) → p ≤ k → k < n → le (knot_at row k) x ≡ true → (k + 1 < n → lt x (knot_at row (k + 1)) ≡ true) → k ≡ span_at row p n x
  span-found k h g e o = searched k (n - 1 - p) h (omega arith) e later
    where
      later : (j : ℕ) → k < j → j ≤ p + (n - 1 - p) → le (knot_at row j) x ≡ false
      later j a b =
          let place : k + 1 + (j - (k + 1)) ≡ j = omega arith in
          over (knot_at row j) x (tame.knot j (omega arith)).known (rw place at (all-over (k + 1) (j - (k + 1)) (omega arith) (o (omega arith))))
