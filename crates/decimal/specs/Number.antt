-- A number of a job. docs/JOBS.md: "exactly 16 lowercase hex digits, the double's bits; or a decimal: an optional `-`, digits with at most one
-- point, an optional `e` or `E` with a sign and digits; or a hex float as C writes it: an optional `-`, `0x`, 1 to 16 hex digits with at most
-- one point, an optional `p` with a sign and digits, the power of two. The nearest double is read". Definitions only.
use Rattle.std.specs.Prelude.{ℕ, suc, ◌+◌, ◌-◌, ◌*◌, ◌^◌, min, Bool, true, false, ◌&&◌, ◌||◌, cond, List, [], ◌∷◌, ◌++◌, eqb, leb, length, take, drop, Float, Option, Some, None}
use Rattle.std.specs.Float.{binary64}
use Rattle.std.specs.Float.Ieee.{of_bits, round}
use Rattle.hexadecimal.specs.Hex.{word_at}
use Rattle.decimal.specs.Digits.{place_of, digits_from, digits_of}
use Rattle.decimal.specs.declared.significand.Significand.{Significand}
use Rattle.decimal.specs.declared.number.Power.{Power}
use Rattle.decimal.specs.declared.number.Power.TheVariants as power

-- ---- digits of a base with at most one point, at least one

abbrev pub with_fraction : ℕ → ℕ → Option Significand
with_fraction n k = Some (record { digits = n; fraction = k })

abbrev pub counted : Option ℕ → ℕ → Option Significand
counted (Some n) fraction = with_fraction n fraction
counted None fraction = None

-- the digits before the point and those behind it, as one whole number
unfoldable pub parted : ℕ → List ℕ → List ℕ → Option Significand
parted base whole fraction = cond (leb 1 (length whole + length fraction)) (counted (digits_from base 0 (whole ++ fraction)) (length fraction)) None

-- parted at the first point (46); where there is none, all stand before it
unfoldable pub significand_of : ℕ → List ℕ → Option Significand
significand_of base text = parted base (take (place_of 46 text) text) (drop (suc (place_of 46 text)) text)

-- ---- of at most so many digits
unfoldable pub few_of : ℕ → ℕ → List ℕ → Option Significand
few_of base most text =
    cond (leb (length (take (place_of 46 text) text) + length (drop (suc (place_of 46 text)) text)) most) (significand_of base text) None

-- ---- behind the mark: `-` (45), `+` (43) or no sign, and 1 to 15 digits

abbrev pub up_of : Option ℕ → Option Power
up_of (Some n) = Some (power.Up n)
up_of None = None

abbrev pub down_of : Option ℕ → Option Power
down_of (Some n) = Some (power.Down n)
down_of None = None

unfoldable pub power_of : List ℕ → Option Power
power_of [] = None
power_of (b ∷ bs) = cond (eqb b 45) (down_of (digits_of bs)) (up_of (cond (eqb b 43) (digits_of bs) (digits_of (b ∷ bs))))

-- where the mark stands, a letter or its capital
abbrev pub mark_of : ℕ → List ℕ → ℕ
mark_of b text = min (place_of b text) (place_of (b - 32) text)

-- without a mark the power is 0
unfoldable pub power_at : ℕ → List ℕ → Option Power
power_at p text = cond (leb (length text) p) (Some (power.Up 0)) (power_of (drop (suc p) text))

-- ---- the decimal and the hex float

-- n * base ^ (up - down), rounded once
unfoldable pub scaled_by : Bool → ℕ → ℕ → ℕ → ℕ → Float
scaled_by s base n up down = cond (leb down up) (round binary64 s (n * base ^ (up - down)) 1) (round binary64 s n (base ^ (down - up)))

-- the whole number, moved by the digits behind its point, each of which is worth so many powers of the base
abbrev pub moved : Bool → ℕ → ℕ → Option Significand → ℕ → ℕ → Option Float
moved s base each (Some x) up down = Some (scaled_by s base x.digits up (down + each * x.fraction))
moved s base each None up down = None

abbrev pub joined : Bool → ℕ → ℕ → Option Significand → Option Power → Option Float
joined s base each whole (Some (power.Up p)) = moved s base each whole p 0
joined s base each whole (Some (power.Down p)) = moved s base each whole 0 p
joined s base each whole None = None

-- parted at the first `e` (101) or `E`
unfoldable pub size_of : Bool → List ℕ → Option Float
size_of s text = joined s 10 1 (significand_of 10 (take (mark_of 101 text) text)) (power_at (mark_of 101 text) text)

-- parted at the first `p` (112) or `P`; a digit behind the point is worth four powers of two
unfoldable pub hex_size_of : Bool → List ℕ → Option Float
hex_size_of s text = joined s 2 4 (few_of 16 16 (take (mark_of 112 text) text)) (power_at (mark_of 112 text) text)

-- `0` (48) and `x` (120) or `X` (88)
unfoldable pub is_hex : List ℕ → Bool
is_hex [] = false
is_hex (a ∷ []) = false
is_hex (a ∷ b ∷ text) = eqb a 48 && (eqb b 120 || eqb b 88)

unfoldable pub unsigned_of : Bool → List ℕ → Option Float
unsigned_of s text = cond (is_hex text) (hex_size_of s (drop 2 text)) (size_of s text)

-- a `-` (45) before it
unfoldable pub decimal_of : List ℕ → Option Float
decimal_of [] = None
decimal_of (b ∷ bs) = cond (eqb b 45) (unsigned_of true bs) (unsigned_of false (b ∷ bs))

-- ---- the number

abbrev pub bits_or : Option Float → Option ℕ → Option Float
bits_or other (Some b) = Some (of_bits binary64 b)
bits_or other None = other

unfoldable pub number_of : List ℕ → Option Float
number_of word = cond (eqb (length word) 16) (bits_or (decimal_of word) (word_at word 0)) (decimal_of word)
