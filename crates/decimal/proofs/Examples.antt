-- Words and what they are read as, and words that are no number: each as its bytes. Assumes nothing.
use Rattle.std.specs.Prelude.{Some, None}
use mathlib.Core.Path.{◌≡◌, refl}
use mathlib.Core.List.{[], ◌∷◌, map}
use lib.Ieee.{binary64, of_bits, round}
use Rattle.hexadecimal.specs.Hex.{digit_value, all_digits, number, room, field, word_at}
use Rattle.decimal.specs.Digits.{place_of, digit_of, digits_from, digits_of}
use Rattle.decimal.specs.Number.{parted, significand_of, few_of, power_of, power_at, scaled_by, size_of, hex_size_of, is_hex, unsigned_of, decimal_of, number_of}

-- `4.5e9`, `-0.25`, `2e-9`, `-0`, `.5`, `1.`, `1.5e23`, `1234567890123456`, `1e23`, `1E5`, `0.15000000000000002`, `9007199254740993`, `9007199254740992.5000000000000000000001e0`, `1e400`, `-1e-400`, `4.9e-324`, `0x1.3333333333334p-3`, `-0X.8P1`, `0x1p-1080`, `1234567890123456.`
pub are-read : map number_of ((52 ∷ 46 ∷ 53 ∷ 101 ∷ 57 ∷ [])
    ∷ (45 ∷ 48 ∷ 46 ∷ 50 ∷ 53 ∷ [])
    ∷ (50 ∷ 101 ∷ 45 ∷ 57 ∷ [])
    ∷ (45 ∷ 48 ∷ [])
    ∷ (46 ∷ 53 ∷ [])
    ∷ (49 ∷ 46 ∷ [])
    ∷ (49 ∷ 46 ∷ 53 ∷ 101 ∷ 50 ∷ 51 ∷ [])
    ∷ (49 ∷ 50 ∷ 51 ∷ 52 ∷ 53 ∷ 54 ∷ 55 ∷ 56 ∷ 57 ∷ 48 ∷ 49 ∷ 50 ∷ 51 ∷ 52 ∷ 53 ∷ 54 ∷ [])
    ∷ (49 ∷ 101 ∷ 50 ∷ 51 ∷ [])
    ∷ (49 ∷ 69 ∷ 53 ∷ [])
    ∷ (48 ∷ 46 ∷ 49 ∷ 53 ∷ 48 ∷ 48 ∷ 48 ∷ 48 ∷ 48 ∷ 48 ∷ 48 ∷ 48 ∷ 48 ∷ 48 ∷ 48 ∷ 48 ∷ 48 ∷ 48 ∷ 50 ∷ [])
    ∷ (57 ∷ 48 ∷ 48 ∷ 55 ∷ 49 ∷ 57 ∷ 57 ∷ 50 ∷ 53 ∷ 52 ∷ 55 ∷ 52 ∷ 48 ∷ 57 ∷ 57 ∷ 51 ∷ [])
    ∷ (57 ∷ 48 ∷ 48 ∷ 55 ∷ 49 ∷ 57 ∷ 57 ∷ 50 ∷ 53 ∷ 52 ∷ 55 ∷ 52 ∷ 48 ∷ 57 ∷ 57 ∷ 50 ∷ 46 ∷ 53 ∷ 48 ∷ 48 ∷ 48 ∷ 48 ∷ 48 ∷ 48 ∷ 48 ∷ 48 ∷ 48 ∷ 48 ∷ 48 ∷ 48 ∷ 48 ∷ 48 ∷ 48 ∷ 48 ∷ 48 ∷ 48 ∷ 48 ∷ 48 ∷ 49 ∷ 101 ∷ 48 ∷ [])
    ∷ (49 ∷ 101 ∷ 52 ∷ 48 ∷ 48 ∷ [])
    ∷ (45 ∷ 49 ∷ 101 ∷ 45 ∷ 52 ∷ 48 ∷ 48 ∷ [])
    ∷ (52 ∷ 46 ∷ 57 ∷ 101 ∷ 45 ∷ 51 ∷ 50 ∷ 52 ∷ [])
    ∷ (48 ∷ 120 ∷ 49 ∷ 46 ∷ 51 ∷ 51 ∷ 51 ∷ 51 ∷ 51 ∷ 51 ∷ 51 ∷ 51 ∷ 51 ∷ 51 ∷ 51 ∷ 51 ∷ 52 ∷ 112 ∷ 45 ∷ 51 ∷ [])
    ∷ (45 ∷ 48 ∷ 88 ∷ 46 ∷ 56 ∷ 80 ∷ 49 ∷ [])
    ∷ (48 ∷ 120 ∷ 49 ∷ 112 ∷ 45 ∷ 49 ∷ 48 ∷ 56 ∷ 48 ∷ [])
    ∷ (49 ∷ 50 ∷ 51 ∷ 52 ∷ 53 ∷ 54 ∷ 55 ∷ 56 ∷ 57 ∷ 48 ∷ 49 ∷ 50 ∷ 51 ∷ 52 ∷ 53 ∷ 54 ∷ 46 ∷ [])
    ∷ [])
    ≡ (Some (of_bits binary64 0x41f0c388d0000000))
    ∷ (Some (of_bits binary64 0xbfd0000000000000))
    ∷ (Some (of_bits binary64 0x3e212e0be826d695))
    ∷ (Some (of_bits binary64 0x8000000000000000))
    ∷ (Some (of_bits binary64 0x3fe0000000000000))
    ∷ (Some (of_bits binary64 0x3ff0000000000000))
    ∷ (Some (of_bits binary64 0x44bfc3842bd1f072))
    ∷ (Some (of_bits binary64 0x1234567890123456))
    ∷ (Some (of_bits binary64 0x44b52d02c7e14af6))
    ∷ (Some (of_bits binary64 0x40f86a0000000000))
    ∷ (Some (of_bits binary64 0x3fc3333333333334))
    ∷ (Some (of_bits binary64 0x9007199254740993))
    ∷ (Some (of_bits binary64 0x4340000000000000))
    ∷ (Some (of_bits binary64 0x7ff0000000000000))
    ∷ (Some (of_bits binary64 0x8000000000000000))
    ∷ (Some (of_bits binary64 0x0000000000000001))
    ∷ (Some (of_bits binary64 0x3fc3333333333334))
    ∷ (Some (of_bits binary64 0xbff0000000000000))
    ∷ (Some (of_bits binary64 0x0000000000000000))
    ∷ (Some (of_bits binary64 0x43118b54f22aeb00))
    ∷ []
unfolding number_of decimal_of unsigned_of is_hex size_of hex_size_of significand_of few_of parted place_of digits_from digit_of power_of power_at digits_of scaled_by of_bits round word_at room field all_digits number digit_value
are-read = refl

-- ``, `1e`, `.`, `+1`, `0x`, `0x1p`, `1e1234567890123456`, `0x12345678901234567`, `1_0`, `e5`, `--1`
pub are-not : map number_of (([])
    ∷ (49 ∷ 101 ∷ [])
    ∷ (46 ∷ [])
    ∷ (43 ∷ 49 ∷ [])
    ∷ (48 ∷ 120 ∷ [])
    ∷ (48 ∷ 120 ∷ 49 ∷ 112 ∷ [])
    ∷ (49 ∷ 101 ∷ 49 ∷ 50 ∷ 51 ∷ 52 ∷ 53 ∷ 54 ∷ 55 ∷ 56 ∷ 57 ∷ 48 ∷ 49 ∷ 50 ∷ 51 ∷ 52 ∷ 53 ∷ 54 ∷ [])
    ∷ (48 ∷ 120 ∷ 49 ∷ 50 ∷ 51 ∷ 52 ∷ 53 ∷ 54 ∷ 55 ∷ 56 ∷ 57 ∷ 48 ∷ 49 ∷ 50 ∷ 51 ∷ 52 ∷ 53 ∷ 54 ∷ 55 ∷ [])
    ∷ (49 ∷ 95 ∷ 48 ∷ [])
    ∷ (101 ∷ 53 ∷ [])
    ∷ (45 ∷ 45 ∷ 49 ∷ [])
    ∷ [])
    ≡ None ∷ None ∷ None ∷ None ∷ None ∷ None ∷ None ∷ None ∷ None ∷ None ∷ None ∷ []
unfolding number_of decimal_of unsigned_of is_hex size_of hex_size_of significand_of few_of parted place_of digits_from digit_of power_of power_at digits_of scaled_by of_bits round word_at room field all_digits number digit_value
are-not = refl

-- `b` in `ab` stands at 1, and in `a` at the end; a number of no figures is none
pub are-placed : (place_of 98 (97 ∷ 98 ∷ []) ≡ 1) × (place_of 98 (97 ∷ []) ≡ 1) × (digits_of [] ≡ None)
unfolding place_of digits_of
are-placed = (refl, refl, refl)
