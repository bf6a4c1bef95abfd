-- `fma::pack::pack` meets its contract: the pattern, with the sign's bit or without it, is no NaN's. Assumes nothing.
use Rattle.std.proofs.Common.{ℕ, ◌+◌, ◌*◌, ◌%◌, ◌^◌, ◌≤◌, arith}
use Rattle.ieee.proofs.Bits.{no_nan}
use Rattle.fma.proofs.pack.pack.Goals as goal

signed : (r : ℕ) → r ≤ 2047 * 2 ^ 52 → (2 ^ 63 + r) % 2 ^ 63 ≤ 2047 * 2 ^ 52
signed r h = omega arith

unsigned : (r : ℕ) → r ≤ 2047 * 2 ^ 52 → r % 2 ^ 63 ≤ 2047 * 2 ^ 52
unsigned r h = omega arith

pub float_from_bits-result : goal.float_from_bits-result
float_from_bits-result c = let m = c.magnitude-b in no_nan (2 ^ 63 + m.result) (signed m.result m.ensures.below)

pub float_from_bits-result-else-negative : goal.float_from_bits-result-else-negative
float_from_bits-result-else-negative c = let m = c.magnitude-b in no_nan m.result (unsigned m.result m.ensures.below)
