-- `quick_fma::upper` meets its contract: the bits with 2 ^ 26 more still fit, and what is left of them is no NaN's. Assumes nothing.
use mathlib.Core.Path.{◌≡◌, ◌∙◌, sym, ap, subst}
use mathlib.Core.Bool.{Bool, false, not, cond}
use Prim.Native.Nat.{ℕ, ◌+◌, ◌*◌, ◌/◌, ◌%◌, ◌^◌, ◌≤◌, ◌<◌}
use native.Mathlib.Omega.{arith}
use lib.Dec.{T}
use lib.Ieee.{Float, binary64, fits, is_nan, of_bits, to_bits}
use lib.Ieee.Bits.{is_false, to_bits-lt}
use Rattle.ieee.proofs.Bits.{no_nan, number-bits}
use Rattle.quick_fma.specs.Quick.{upper_bits, upper_of}
use Rattle.quick_fma.proofs.Parting.{upper_is, upper-size}
use Rattle.quick_fma.proofs.upper.Goals as goal

room : (b : ℕ) → b < 2 ^ 64 → b % 2 ^ 63 ≤ 2047 * 2 ^ 52 → b + 0x400_0000 < 2 ^ 64
room b h l = omega arith

still : (m n : ℕ) → n ≤ 2047 * 2 ^ 52 → m ≡ (n + 2 ^ 26) / 2 ^ 27 * 2 ^ 27 → m ≤ 2047 * 2 ^ 52
still m n l e = omega arith

no-nan-left : (x : Float) → T (fits binary64 x) → T (not (is_nan x)) → upper_bits (to_bits binary64 x) % 2 ^ 63 ≤ 2047 * 2 ^ 52
no-nan-left x f n =
    let b = to_bits binary64 x in
    let h = to_bits-lt binary64 x f in
    let l = number-bits x f n in
    still (upper_bits b % 2 ^ 63) (b % 2 ^ 63) l (upper-size b (upper_bits b) h l (upper_is b h l))

of_number : (x : Float) → T (not (is_nan x)) → of_bits binary64 (upper_bits (to_bits binary64 x)) ≡ upper_of x
of_number x n = ap (λ (t : Bool). cond t x (of_bits binary64 (upper_bits (to_bits binary64 x)))) (sym (is_false (is_nan x) n))

-- what `is_nan` says where it says no
number : (x : Float) (r : Bool) → r ≡ is_nan x → r ≡ false → T (not (is_nan x))
number x r e f = subst (λ (b : Bool). T (not b)) (sym f ∙ e) tt

pub overflow_add-result : goal.overflow_add-result
overflow_add-result c =
    let x = c.args.x in
    let f : T (fits binary64 x) = subst T (sym c.well_formed.0.1) tt in
    omega (arith, room (to_bits binary64 x) (to_bits-lt binary64 x f) (number-bits x f (number x c.is_nan.result c.is_nan.ensures.value c.if-is_nan.false)))

pub float_from_bits-result : goal.float_from_bits-result
unfolding upper_bits
float_from_bits-result c =
    let x = c.args.x in
    no_nan (upper_bits (to_bits binary64 x)) (no-nan-left x (subst T (sym c.well_formed.0.1) tt) (number x c.is_nan.result c.is_nan.ensures.value c.if-is_nan.false))

pub returns-else-is_nan : goal.returns-else-is_nan
unfolding upper_bits
returns-else-is_nan c = of_number c.args.x (number c.args.x c.is_nan.result c.is_nan.ensures.value c.if-is_nan.false)
