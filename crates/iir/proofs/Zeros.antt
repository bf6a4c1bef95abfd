-- Sums, differences and products by a finite number keep doubles alike: what a zero's sign does to a result is again only a zero's sign.
-- Assumes nothing.
use Prim.Native.Nat.{ℕ, zero, suc, ◌*◌}
use native.Mathlib.Nat.{mul-zero, mul-pos, zero-lt-suc}
use mathlib.Core.Path.{◌≡◌, refl, ap, ◌∙◌}
use mathlib.Core.Bool.{Bool}
use lib.Dec.{T}
use lib.Ieee.{Float, nan, inf, fin, binary64, up, down, unlike, round, neg, add, sub, mul}
use lib.Ieee.Fits.{down_pos}
use lib.Ieee.Scale.{finite}
use Rattle.exact.specs.Doubles.{zero_of}
use Rattle.exact.proofs.Zeros.{round-zero, add_comm, two-zeros, zero-and-some}
use Rattle.iir.specs.Alike.{Alike, same, zeros}

pub alike-by : {x y x' y' : Float} → x ≡ x' → y ≡ y' → Alike x' y' → Alike x y
alike-by e f h = rw (e, f) h

pub alike-via : {x y z : Float} → Alike x y → Alike y z → Alike x z
alike-via same k = k
alike-via zeros same = zeros
alike-via zeros zeros = zeros

-- ---- a zero added to a number

zero-first : (s s' : Bool) (y : Float) → Alike (add binary64 (zero_of s) y) (add binary64 (zero_of s') y)
unfolding add
zero-first s s' nan = same
zero-first s s' (inf t) = same
zero-first s s' (fin t zero d) =
    alike-by (two-zeros s t d) (two-zeros s' t d) zeros
zero-first s s' (fin t (suc n) d) =
    alike-by (zero-and-some s t n d) (zero-and-some s' t n d) same

-- ---- the operations

pub add-alike : {x x' y y' : Float} → Alike x x' → Alike y y' → Alike (add binary64 x y) (add binary64 x' y')
add-alike same same = same
add-alike {y = y} (zeros {s = s} {t = s'}) same = zero-first s s' y
add-alike {x = x} same (zeros {s = t} {t = t'}) = alike-by (add_comm x (zero_of t)) (add_comm x (zero_of t')) (zero-first t t' x)
add-alike (zeros {s = s} {t = s'}) (zeros {s = t} {t = t'}) =
    alike-via (zero-first s s' (zero_of t)) (alike-by (add_comm (zero_of s') (zero_of t)) (add_comm (zero_of s') (zero_of t')) (zero-first t t' (zero_of s')))

neg-alike : {x y : Float} → Alike x y → Alike (neg x) (neg y)
unfolding neg
neg-alike same = same
neg-alike zeros = zeros

pub sub_alike : {x x' y y' : Float} → Alike x x' → Alike y y' → Alike (sub binary64 x y) (sub binary64 x' y')
unfolding sub
sub_alike h k = add-alike h (neg-alike k)

pub zero-times : (c : Float) → T (finite c) → (t u : Bool) → Alike (mul binary64 c (zero_of t)) (zero_of u)
unfolding mul
zero-times nan h t u = absurd h
zero-times (inf s) h t u = absurd h
zero-times (fin s m e) h t u =
    alike-by
    (ap (λ (n : ℕ). round binary64 (unlike s t) n (down e * 1)) (mul-zero (m * up e)) ∙ round-zero (unlike s t) (down e * 1) (mul-pos (down_pos e) (zero-lt-suc 0)))
    refl
    zeros

alike-turn : {x y : Float} → Alike x y → Alike y x
alike-turn same = same
alike-turn zeros = zeros

pub mul-alike : (c : Float) {x y : Float} → T (finite c) → Alike x y → Alike (mul binary64 c x) (mul binary64 c y)
mul-alike c h same = same
mul-alike c h (zeros {s = s} {t = t}) = alike-via (zero-times c h s s) (alike-turn (zero-times c h t s))
