-- Whether a rounding is finite does not depend on the sign; and a smaller number's rounding is finite where a larger one's is, and no larger. Assumes nothing.
use Prim.Native.Nat.{ℕ, zero, suc, ◌+◌, ◌*◌, ◌^◌, ◌≤◌, ◌<◌}
use native.Mathlib.Nat.{le_of_lt, le_of_eq, le_trans, mul-le-mul_right, le_of_mul-le-mul_right}
use mathlib.Core.Path.{◌≡◌, refl, sym, ap, subst, ◌∙◌}
use mathlib.Core.Logic.{inl, inr, ◌⊎◌}
use mathlib.Core.Bool.{Bool, true, false, cond, ◌||◌, ◌&&◌, true≢false}
use lib.Dec.{T, ltb, eqb, ltb→lt, eqb→eq}
use lib.Pow.{pow_pos}
use lib.Ieee.{Float, nan, inf, fin, binary64, up, down, odd, units, round, le}
use lib.Ieee.Fits.{round_is, down_pos, and_l}
use lib.Ieee.Order.{round_mono, transfer, kept, drop}
use lib.Ieee.Scale.{finite, grid}
use Rattle.exact.specs.Value.{Units, units_of}
use Rattle.exact.proofs.Value.{units-are}
use Rattle.exact.proofs.Rounding.{round-value}

odd-finite : (d : ℕ) (s : Bool) (q k l : ℕ) → finite (odd d s q k l) ≡ true
unfolding odd
odd-finite d s zero k l = refl
odd-finite d s (suc q) k l = refl

units-any : (s t : Bool) (q k : ℕ) → finite (units binary64 s q k) ≡ finite (units binary64 t q k)
unfolding units
units-any s t q k = by (ltb (q * 2 ^ k) (2 ^ (1074 + 1024)))
  where
    by : (b : Bool) → finite (cond b (odd 54 s q k 1074) (inf s)) ≡ finite (cond b (odd 54 t q k 1074) (inf t))
    by true = odd-finite 54 s q k 1074 ∙ sym (odd-finite 54 t q k 1074)
    by false = refl

round-any : (s t : Bool) (a c : ℕ) → finite (round binary64 s a c) ≡ finite (round binary64 t a c)
round-any s t a c =
    ap finite (round_is binary64 s a c)
    ∙ units-any s t (kept 53 (a * 2 ^ 1074) c) (drop 53 (a * 2 ^ 1074) c)
    ∙ sym (ap finite (round_is binary64 t a c))

units-either : (s : Bool) (q k : ℕ) → T (finite (units binary64 s q k)) ⊎ (units binary64 s q k ≡ inf s)
unfolding units
units-either s q k = by (ltb (q * 2 ^ k) (2 ^ (1074 + 1024)))
  where
    by : (b : Bool) → T (finite (cond b (odd 54 s q k 1074) (inf s))) ⊎ (cond b (odd 54 s q k 1074) (inf s) ≡ inf s)
    by true = inl (subst T (sym (odd-finite 54 s q k 1074)) tt)
    by false = inr refl

pub round-either : (s : Bool) (a c : ℕ) → T (finite (round binary64 s a c)) ⊎ (round binary64 s a c ≡ inf s)
round-either s a c =
    subst (λ (z : Float). T (finite z) ⊎ (z ≡ inf s)) (sym (round_is binary64 s a c)) (units-either s (kept 53 (a * 2 ^ 1074) c) (drop 53 (a * 2 ^ 1074) c))

-- nothing finite is as large as an infinity
none-larger : (y : Float) → T (le (inf false) y) → T (finite y) → ⊥
unfolding le
none-larger nan h t = t
none-larger (inf s) h t = t
none-larger (fin s m e) h t = h

pub smaller-finite : (s t : Bool) (a b q : ℕ) → 0 < q → a ≤ b → T (finite (round binary64 t b q)) → T (finite (round binary64 s a q))
smaller-finite s t a b q Q h f =
    let large : T (finite (round binary64 false b q)) = subst T (round-any t false b q) f in
    let order : T (le (round binary64 false a q) (round binary64 false b q)) = round_mono binary64 a q b q Q Q (mul-le-mul_right q h) in
    subst T (round-any false s a q)
    (elim (round-either false a q) [
      | inl g ↦ g
      | inr e ↦ absurd (none-larger (round binary64 false b q) (subst (λ (z : Float). T (le z (round binary64 false b q))) e order) large)
    ])

-- ---- the order of two doubles that are not negative is that of their units
units-le : (x y : Float) (a b : ℕ) → Units x false a → Units y false b → T (le x y) → a ≤ b
unfolding le
units-le nan y a b v w h = absurd v
units-le (inf s) y a b v w h = absurd v
units-le (fin true m e) y a b v w h = absurd (true≢false v.0)
units-le (fin false m e) nan a b v w h = absurd w
units-le (fin false m e) (inf t) a b v w h = absurd w
units-le (fin false m e) (fin true n d) a b v w h = absurd (true≢false w.0)
units-le (fin false m e) (fin false n d) a b v w h =
    let q = 2 ^ 1074 in
    le_of_mul-le-mul_right (transfer a b q q (m * up e) (n * up d) (down e) (down d) (down_pos e) (down_pos d) (sym v.1) (sym w.1) (at_most (m * up e * down d) (n * up d * down e) h)) (pow_pos 1074)
  where
    at_most : (x y : ℕ) → T (ltb x y || (eqb x y && (true || eqb x 0))) → x ≤ y
    at_most x y = by (ltb x y) (eqb x y) (ltb→lt x y) (eqb→eq x y)
      where
        by : (a b : Bool) → (T a → x < y) → (T b → x ≡ y) → T (a || (b && (true || eqb x 0))) → x ≤ y
        by true b f g t = le_of_lt (f tt)
        by false b f g t = le_of_eq (g (and_l b (true || eqb x 0) t))

pub smaller-units : (s t : Bool) (a b q : ℕ) → 0 < q → a ≤ b → T (finite (round binary64 t b q)) → units_of (round binary64 s a q) ≤ units_of (round binary64 t b q)
smaller-units s t a b q Q h f =
    let g = grid binary64 in
    let large : T (finite (round binary64 false b q)) = subst T (round-any t false b q) f in
    let order : g a q ≤ g b q =
    units-le (round binary64 false a q) (round binary64 false b q) (g a q) (g b q) (round-value false a q (smaller-finite false t a b q Q h f)) (round-value false b q large)
    (round_mono binary64 a q b q Q Q (mul-le-mul_right q h)) in
    le_trans (le_of_eq (units-are (round binary64 s a q) s (g a q) (round-value s a q (smaller-finite s t a b q Q h f))))
    (le_trans order (le_of_eq (sym (units-are (round binary64 t b q) t (g b q) (round-value t b q f)))))
