-- What the two tests of a size say: what lies between -b and b is a double of at most b in size. Assumes nothing.
use Prim.Native.Nat.{ℕ, ◌^◌}
use native.Mathlib.Nat.{le_of_lt}
use mathlib.Core.Path.{◌≡◌}
use mathlib.Core.Bool.{true, false}
use lib.Dec.{T}
use lib.Ieee.{Float, binary64, fits, lt, neg}
use Rattle.exact.specs.Value.{Units, AtMost}
use Rattle.exact.proofs.Value.{neg_value}
use Rattle.exact.proofs.Few.{value-finite}
use Rattle.exact.proofs.Compare.{between, inside}

pub at_most : (b z : Float) (m : ℕ) → Units b false m → T (fits binary64 z) → lt z b ≡ true → lt (neg b) z ≡ true → AtMost m z
at_most b z m v f h l =
    let t = between (neg b) z b (value-finite (neg b) true m (neg_value b false m (2 ^ 1074) v)) (value-finite b false m v) l h in
    record { fit = f; known = t; small = le_of_lt (inside z b m f t v h l) }
