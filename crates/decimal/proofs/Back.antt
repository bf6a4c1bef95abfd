-- A double printed is read back as it was; and a pattern of 16 digits read is printed as it was, but for a NaN's. Assumes nothing.
use Rattle.std.specs.Prelude.{Some}
use Prim.Native.Nat.{ℕ, ◌^◌, ◌<◌}
use mathlib.Core.Path.{◌≡◌, sym, ap, ◌∙◌}
use mathlib.Core.Bool.{false}
use native.Mathlib.Nat.{mod-eq_of_lt}
use lib.Dec.{T, lit≤}
use lib.Seq.{take_all}
use lib.Ieee.{Float, binary64, fits, nan_bits, of_bits, to_bits}
use lib.Ieee.Bits.{nan_bits_is, of_bits-to_bits, to_bits-of_bits, to_bits-lt}
use Rattle.lines.proofs.Nan.{is-not}
use Rattle.hexadecimal.specs.Hex.{digits, field, room, word_at}
use Rattle.hexadecimal.proofs.Number.{all_digits_lem, length_digits, number_digits}
use Rattle.decimal.specs.Number.{number_of}

word-is : (b : ℕ) → b < 2 ^ 64 → word_at (digits 16 b) 0 ≡ Some b
unfolding word_at room field
word-is b small =
    let all = take_all 16 (digits 16 b) (rw (length_digits 16 b) (lit≤ tt)) in
    rw (length_digits 16 b, all, all_digits_lem 16 b, number_digits 16 b) (ap Some (mod-eq_of_lt small))

-- the 16 digits of a pattern are read as the double that it stands for
pub pattern-read : (b : ℕ) → b < 2 ^ 64 → number_of (digits 16 b) ≡ Some (of_bits binary64 b)
unfolding number_of
pattern-read b small = rw (length_digits 16 b, word-is b small)

-- PRINTED AND READ BACK: every double, the NaN too
pub read_back : (x : Float) → T (fits binary64 x) → number_of (digits 16 (to_bits binary64 x)) ≡ Some x
read_back x f = pattern-read (to_bits binary64 x) (to_bits-lt binary64 x f) ∙ ap Some (of_bits-to_bits binary64 x f)

-- READ AND PRINTED BACK: every pattern but a NaN's
pub print-back : (b : ℕ) → b < 2 ^ 64 → nan_bits binary64 b ≡ false → digits 16 (to_bits binary64 (of_bits binary64 b)) ≡ digits 16 b
print-back b small number = ap (digits 16) (to_bits-of_bits binary64 b small (is-not _ (sym (nan_bits_is binary64 b) ∙ number)))
