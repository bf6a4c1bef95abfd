-- Laws of the one `nan` beside the patterns that are a NaN's. Assumes nothing.
use Prim.Native.Nat.{ℕ}
use mathlib.Core.Path.{◌≡◌, refl, ◌∙◌, sym, subst}
use mathlib.Core.Bool.{Bool, true, false, not}
use lib.Dec.{T}
use lib.Ieee.{Float, nan, inf, fin, binary64, div, is_nan, nan_bits, of_bits}
use lib.Ieee.Bits.{nan_bits_is}

pub zero_by_zero : div binary64 (of_bits binary64 0) (of_bits binary64 0) ≡ nan
unfolding div of_bits
zero_by_zero = refl

only_nan : (x : Float) → is_nan x ≡ true → x ≡ nan
unfolding is_nan
only_nan nan e = refl
only_nan (inf s) e = cc
only_nan (fin s m k) e = cc

pub nan-of-bits : (b : ℕ) → nan_bits binary64 b ≡ true → of_bits binary64 b ≡ nan
nan-of-bits b e = only_nan (of_bits binary64 b) (sym (nan_bits_is binary64 b) ∙ e)

pub is-not : (t : Bool) → t ≡ false → T (not t)
is-not t e = subst (λ (s : Bool). T (not s)) (sym e) tt
