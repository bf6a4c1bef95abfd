-- The whole numbers on either side of a fraction a / d: `whole_above` and `whole_part` are what their names say, and see only the fraction's value. Nothing here is about floats. Assumes nothing.
use Rattle.std.proofs.Common.{◌≡◌, ℕ, suc, ◌+◌, ◌-◌, ◌*◌, ◌/◌, ◌%◌, ◌<◌, ◌≤◌, Bool, true, false, sym, ap, ◌∙◌, le_trans, le_of_eq, lt_of_lt_of_le, le_of_suc-le-suc, lt_of_le_of_lt, add-zero, mul-le-mul_right, mod-lt, suc-mul, le_antisymm, lt_of_mul-lt-mul_right, div-add-mod', div-le_self, mul_right_comm, le-mul_of_pos_right, div-mul-le_self, le_of_mul-le-mul_right, mul-div_cancel, arith}
use native.Mathlib.Nat.{add-le-add_iff_right}
use lib.Arith.{digits_div}
use lib.Ieee.Nearest.{div_same}
use Rattle.ieee.specs.Ceiling.{whole_part, whole_above, whole_toward, CeilOf, FloorOf, TowardPositive}

ceil-reaches : (a d p r : ℕ) → p + r ≡ a + (d - 1) → r < d → a ≤ p
ceil-reaches a d p r e h = omega arith

ceil-near : (a d p r : ℕ) → 0 < d → p + r ≡ a + (d - 1) → p < a + d
ceil-near a d p r D e = omega arith

pub is-ceil : (a d : ℕ) → 0 < d → CeilOf a d (whole_above a d)
is-ceil a d D =
    let n = a + (d - 1) in
    record { reaches = ceil-reaches a d (n / d * d) (n % d) (div-add-mod' n d) (mod-lt n D); near = ceil-near a d (n / d * d) (n % d) D (div-add-mod' n d) }

floor-near : (a p r d : ℕ) → p + r ≡ a → r < d → a < p + d
floor-near a p r d e h = omega arith

pub is-floor : (a d : ℕ) → 0 < d → FloorOf a d (whole_part a d)
is-floor a d D = record { reaches = div-mul-le_self a d; near = floor-near a (a / d * d) (a % d) d (div-add-mod' a d) (mod-lt a D) }

pub toward : (s : Bool) (a d : ℕ) → 0 < d → TowardPositive s a d (whole_toward s a d)
toward true a d D = is-floor a d D
toward false a d D = is-ceil a d D

-- no whole number w that reaches a / d is below the least one
pub least-ceil : (a d n w : ℕ) → CeilOf a d n → a ≤ w * d → n ≤ w
least-ceil a d n w h k = le_of_suc-le-suc (lt_of_mul-lt-mul_right d (lt_of_lt_of_le h.near (le_trans ((add-le-add_iff_right d).1 k) (le_of_eq (sym (suc-mul w d))))))

pub greatest-floor : (a d n w : ℕ) → FloorOf a d n → w * d ≤ a → w ≤ n
greatest-floor a d n w h k = le_of_suc-le-suc (lt_of_mul-lt-mul_right d (lt_of_le_of_lt k (lt_of_lt_of_le h.near (le_of_eq (sym (suc-mul n d))))))

-- equal fractions have the same ceiling
above-le : (a d b c : ℕ) → 0 < d → 0 < c → a * c ≡ b * d → whole_above a d ≤ whole_above b c
above-le a d b c D C e =
    least-ceil a d (whole_above a d) (whole_above b c) (is-ceil a d D)
    (le_of_mul-le-mul_right (le_trans (le_of_eq e) (le_trans (mul-le-mul_right d (is-ceil b c C).reaches) (le_of_eq (mul_right_comm (whole_above b c) c d)))) C)

pub toward-same : (s : Bool) (a d b c : ℕ) → 0 < d → 0 < c → a * c ≡ b * d → whole_toward s a d ≡ whole_toward s b c
toward-same true a d b c D C e = div_same a d b c D C e
toward-same false a d b c D C e = le_antisymm (above-le a d b c D C e) (above-le b c a d C D (sym e))

-- a whole number is its own ceiling
pred_lt : (d : ℕ) → 0 < d → d - 1 < d
pred_lt d h = omega arith

pub toward-whole : (s : Bool) (q d : ℕ) → 0 < d → whole_toward s (q * d) d ≡ q
toward-whole true q d D = mul-div_cancel q D
toward-whole false q d D = digits_div q (pred_lt d D)

rest_of : (a d p r : ℕ) → p + r ≡ a → 0 < r → r < d → a + (d - 1) ≡ p + d + (r - 1)
rest_of a d p r e h k = omega arith

less : (r d : ℕ) → r < d → r - 1 < d
less r d h = omega arith

-- what is left over takes the ceiling to the next whole number
pub above-rest : (a d : ℕ) → 0 < d → 0 < a % d → whole_above a d ≡ suc (a / d)
above-rest a d D h =
    ap (λ (z : ℕ). z / d) (rest_of a d (a / d * d) (a % d) (div-add-mod' a d) h (mod-lt a D) ∙ ap (λ (z : ℕ). z + (a % d - 1)) (sym (suc-mul (a / d) d)))
    ∙ digits_div (suc (a / d)) (less (a % d) d (mod-lt a D))

pub divided : (a d : ℕ) → a % d ≡ 0 → a / d * d ≡ a
divided a d h = sym (add-zero (a / d * d)) ∙ ap (λ (z : ℕ). a / d * d + z) (sym h) ∙ div-add-mod' a d

-- no ceiling is larger than the numerator
pub no-larger : (a d n : ℕ) → 0 < d → CeilOf a d n → n ≤ a
no-larger a d n D h = least-ceil a d n a h (le-mul_of_pos_right a D)

pub toward-le : (s : Bool) (a d : ℕ) → 0 < d → whole_toward s a d ≤ a
toward-le true a d D = div-le_self a d
toward-le false a d D = no-larger a d (whole_above a d) D (is-ceil a d D)
