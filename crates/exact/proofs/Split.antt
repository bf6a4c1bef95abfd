-- A double in two parts, in steps of 2 ^ -88, of which it has 3/4 at most: the upper part z + 3 - 3 is a multiple of 2 ^ -51, and the lower part, what is
-- left of z, is 2 ^ -52 at most. Neither is rounded. Assumes nothing.
use mathlib.Core.Path.{refl}
use mathlib.Core.Bool.{Bool, true, false}
use Prim.Native.Nat.{ℕ, ◌+◌, ◌*◌, ◌^◌, ◌≤◌, ◌<◌}
use native.Mathlib.Nat.{le_trans, mul-le-mul_right, le_of_mul-le-mul_right}
use native.Mathlib.Omega.{arith}
use lib.Dec.{lit≤}
use lib.Pow.{pow_pos}
use lib.Ieee.{Float, binary64, of_bits, add, sub}
use Rattle.exact.specs.Value.{Units}
use Rattle.exact.specs.Signed.{Signed, signed, times, less_s}
use Rattle.exact.proofs.Grid.{On, Clear, sub-on}
use Rattle.exact.proofs.Steps.{finer}
use Rattle.exact.proofs.Upper.{Upper, upper_of, top}

abbrev three : Float
three = of_bits binary64 0x4008000000000000

abbrev pub upper : Float → Float
upper z = sub binary64 (add binary64 z three) three

abbrev pub lower : Float → Float
lower z = sub binary64 z (upper z)

three-value : Units three false (3 * 2 ^ 52 * 2 ^ 1022)
unfolding of_bits
three-value = (refl, refl)

-- what is left of k steps
abbrev pub rest : Signed → ℕ → Signed
rest k v = less_s k (times (2 ^ 37) (top v))

pub record Split (z : Float) (k : Signed) : Type 0 where
  pub v : ℕ
  pub over : v * 2 ^ 37 + k.less ≤ 3 * 2 ^ 88 + k.plus + 2 ^ 36
  pub under : 3 * 2 ^ 88 + k.plus ≤ v * 2 ^ 37 + k.less + 2 ^ 36
  pub high : Clear 1023 (upper z) (top v)
  pub low : On 986 (lower z) (rest k v)

-- over g = 2 ^ 986
steps-over : (v b g : ℕ) (s : Bool) → 0 < g → v * (2 * (2 ^ 36 * g)) + (signed s (b * g)).less ≤ 3 * 2 ^ 52 * (2 ^ 36 * g) + (signed s (b * g)).plus + 2 ^ 36 * g
    → v * 2 ^ 37 + (signed s b).less ≤ 3 * 2 ^ 88 + (signed s b).plus + 2 ^ 36
steps-over v b g true G h = le_of_mul-le-mul_right {k = g} (omega arith) G
steps-over v b g false G h = le_of_mul-le-mul_right {k = g} (omega arith) G

steps-under : (v b g : ℕ) (s : Bool) → 0 < g → 3 * 2 ^ 52 * (2 ^ 36 * g) + (signed s (b * g)).plus ≤ v * (2 * (2 ^ 36 * g)) + (signed s (b * g)).less + 2 ^ 36 * g
    → 3 * 2 ^ 88 + (signed s b).plus ≤ v * 2 ^ 37 + (signed s b).less + 2 ^ 36
steps-under v b g true G h = le_of_mul-le-mul_right {k = g} (omega arith) G
steps-under v b g false G h = le_of_mul-le-mul_right {k = g} (omega arith) G

pub split : (z : Float) (s : Bool) (b : ℕ) → b ≤ 3 * 2 ^ 86 → Units z s (b * 2 ^ 986) → Split z (signed s b)
split z s b h u =
    let t : Upper 1022 z three (signed s (b * 2 ^ 986)) = upper_of 1022 three three-value (lit≤ tt) z s (b * 2 ^ 986) (le_trans (mul-le-mul_right (2 ^ 986) h) (lit≤ tt)) u in
    let over = steps-over t.v b (2 ^ 986) s (pow_pos 986) t.over in
    let under = steps-under t.v b (2 ^ 986) s (pow_pos 986) t.under in
    record {
      v = t.v;
      over = over;
      under = under;
      high = t.high;
      low = sub-on 986 (lit≤ tt) z (upper z) (signed s b) (times (2 ^ 37) (top t.v))
          (record { sign = s; steps = b; value = u; same = refl }) (finer 37 986 (upper z) (top t.v) t.high.on)
          (record { over = omega arith; under = omega arith });
    }
