-- Laws of `exp2_of`. In the range of binary64 2 ^ n is a value, k places above the smallest one, so nothing is rounded there (`value`), and a product with it is the other factor's
-- fraction times 2 ^ n, rounded once (`scales`). Assumes nothing.
use Rattle.std.proofs.Common.{◌≡◌, ℕ, suc, ◌+◌, ◌-◌, ◌*◌, ◌/◌, ◌^◌, ◌<◌, ◌≤◌, Bool, true, false, cond, T, ℤ, pos, negsuc, ◌+ℤ◌, ◌≤ℤ◌, ◌<ℤ◌, sym, refl, ap, ◌∙◌, subst, le_trans, le_of_eq, lt_of_lt_of_le, lt_of_le_of_lt, mul-le-mul_right, mul-le-mul_left, one-mul, mul-one, sub-le, arith, lit<, lit≤, le→leb, ltb→lt, leb→le, pow_pos, pow_mono, pow-add, le-ltb}
use native.Mathlib.Nat.{div-eq_of_lt}
use lib.Arith.{le-zero}
use lib.Signed.{le_z_yes}
use lib.Pow.{pow-lt}
use lib.Ieee.{Float, nan, inf, fin, binary64, up, down, size, units, round, le, mul, fits}
use lib.Ieee.Digits.{size-le}
use lib.Ieee.Fits.{down_pos, round_is, round-fits}
use lib.Ieee.Exact.{HasValue, round_exact}
use lib.Ieee.Nearest.{closest, closest_mono}
use lib.Ieee.Order.{round_mono}
use Rattle.exact.proofs.Operation.{mul-rounds}
use Rattle.exact.proofs.Truth.{like-false}
use Rattle.ieee.specs.Exp2.{exp2_of, Exponent}

-- ---- 2 ^ n is 2 ^ k smallest values, for an n from -1074 to 1023
pub record Places (n : ℤ) : Type 0 where
  pub k : ℕ
  pub sum : n +ℤ pos 1074 ≡ pos k
  pub small : k < 2098
  pub power : up n * 2 ^ 1074 ≡ 2 ^ k * down n

high : (a : ℕ) → a ≤ 1023 → a + 1074 < 2098
high a h = omega arith

low : (j : ℕ) → j ≤ 1073 → suc j ≤ 1074
low j h = omega arith

few : (j : ℕ) → 1074 - suc j < 2098
few j = omega arith

back : (j : ℕ) → suc j ≤ 1074 → 1074 - suc j + suc j ≡ 1074
back j h = omega arith

pub places : (n : ℤ) → Exponent n → Places n
places (pos a) h = record { k = a + 1074; sum = refl; small = high a (leb→le a 1023 h.high.le); power = sym (pow-add 2 a 1074) ∙ sym (mul-one (2 ^ (a + 1074))) }
places (negsuc j) h =
    let j-le : suc j ≤ 1074 = low j (leb→le j 1073 h.low.le) in
    record {
      k = 1074 - suc j;
      sum = ap (λ (b : Bool). cond b (negsuc (suc j - suc 1074)) (pos (1074 - suc j))) (le-ltb 1074 (suc j) j-le);
      small = few j;
      power = one-mul (2 ^ 1074) ∙ ap (λ (z : ℕ). 2 ^ z) (sym (back j j-le)) ∙ pow-add 2 (1074 - suc j) (suc j);
    }

pub places-are : (n : ℤ) (p : Places n) (k : ℕ) → n +ℤ pos 1074 ≡ pos k → p.k ≡ k
places-are n p k e = cc p.sum

-- ---- nothing is rounded
pub value : (n : ℤ) → Exponent n → HasValue (exp2_of n) false (up n) (down n)
unfolding exp2_of
value n h =
    let p = places n h in
    round_exact binary64 false (up n) (down n) 1 p.k (down_pos n) (lit< tt)
    (lt_of_le_of_lt (le_of_eq (one-mul (2 ^ p.k))) (pow-lt p.small))
    (p.power ∙ ap (λ (z : ℕ). z * down n) (sym (one-mul (2 ^ p.k))))

pub exp2_fits : (n : ℤ) → T (fits binary64 (exp2_of n))
unfolding exp2_of
exp2_fits n = round-fits binary64 false (up n) (down n)

-- ---- below the smallest value: at half of it, 2 ^ -1075, the tie goes to 0
past : (j : ℕ) → 1073 < j → 1075 ≤ suc j
past j h = omega arith

kept-none : (d : ℕ) → 2 ^ 1075 ≤ d → closest (2 ^ 1074) d ≡ 0
kept-none d h = le-zero (closest_mono (2 ^ 1074) d (2 ^ 1074) (2 ^ 1075) (lt_of_lt_of_le (pow_pos 1075) h) (pow_pos 1075) (mul-le-mul_left (2 ^ 1074) h))

no-digits : (d : ℕ) → 2 ^ 1075 ≤ d → size (2 ^ 1074 / d) - 53 ≡ 0
no-digits d h = le-zero (le_trans (sub-le (size (2 ^ 1074 / d)) 53) (size-le (2 ^ 1074 / d) 0 (lt_of_le_of_lt (le_of_eq (div-eq_of_lt (lt_of_lt_of_le (lit< tt) h))) (pow_pos 0))))

zero-units : units binary64 false 0 0 ≡ fin false 0 (pos 0)
unfolding units
zero-units = refl

rounds-to-zero : (d : ℕ) → 2 ^ 1075 ≤ d → round binary64 false 1 d ≡ fin false 0 (pos 0)
rounds-to-zero d h =
    round_is binary64 false 1 d
    ∙ ap (λ (k : ℕ). units binary64 false (closest (2 ^ 1074) (d * 2 ^ k)) k) (no-digits d h)
    ∙ ap (λ (q : ℕ). units binary64 false q 0) (ap (closest (2 ^ 1074)) (mul-one d) ∙ kept-none d h)
    ∙ zero-units

pub underflow : (n : ℤ) → n <ℤ negsuc 1073 → exp2_of n ≡ fin false 0 (pos 0)
unfolding exp2_of
underflow (pos a) h = absurd h.lt
underflow (negsuc j) h = rounds-to-zero (2 ^ suc j) (pow_mono (past j (ltb→lt 1073 j h.lt)))

-- ---- from 2 ^ 1024 on
only_infinity : (y : Float) → T (le (inf false) y) → y ≡ inf false
unfolding le
only_infinity nan h = absurd h
only_infinity (inf true) h = absurd h
only_infinity (inf false) h = refl
only_infinity (fin s m e) h = absurd h

first-overflow : round binary64 false (2 ^ 1024) 1 ≡ inf false
unfolding round
first-overflow = refl

pub overflow : (n : ℤ) → pos 1023 <ℤ n → exp2_of n ≡ inf false
unfolding exp2_of
overflow (pos a) h =
    only_infinity (round binary64 false (2 ^ a) 1)
    (subst (λ (y : Float). T (le y (round binary64 false (2 ^ a) 1))) first-overflow
    (round_mono binary64 (2 ^ 1024) 1 (2 ^ a) 1 (pow_pos 0) (pow_pos 0) (mul-le-mul_right 1 (pow_mono (ltb→lt 1023 a h.lt)))))
overflow (negsuc j) h = absurd h.lt

-- ---- a product with it
pub scales : (n : ℤ) → Exponent n → (s : Bool) (m : ℕ) (e : ℤ) → mul binary64 (fin s m e) (exp2_of n) ≡ round binary64 s (m * up e * up n) (down e * down n)
scales n h s m e =
    mul-rounds binary64 (fin s m e) (exp2_of n) s false (m * up e) (down e) (up n) (down n) (down_pos e) (down_pos n) (refl, refl) (value n h)
    ∙ ap (λ (t : Bool). round binary64 t (m * up e * up n) (down e * down n)) (like-false s)

-- ---- from -20 to 20, the range of an align level
pub level : (n : ℤ) → negsuc 19 ≤ℤ n → n ≤ℤ pos 20 → Exponent n
level (pos a) l h = record { low = le_z_yes tt; high = le_z_yes (le→leb a 1023 (le_trans (leb→le a 20 h.le) (lit≤ tt))) }
level (negsuc j) l h = record { low = le_z_yes (le→leb j 1073 (le_trans (leb→le j 19 l.le) (lit≤ tt))); high = le_z_yes tt }

pub level-value : (n : ℤ) → negsuc 19 ≤ℤ n → n ≤ℤ pos 20 → HasValue (exp2_of n) false (up n) (down n)
level-value n l h = value n (level n l h)

pub level-scales : (n : ℤ) → negsuc 19 ≤ℤ n → n ≤ℤ pos 20 → (s : Bool) (m : ℕ) (e : ℤ) → mul binary64 (fin s m e) (exp2_of n) ≡ round binary64 s (m * up e * up n) (down e * down n)
level-scales n l h s m e = scales n (level n l h) s m e
