-- The square of a signed whole number's size: one for all the pairs that stand for it. Assumes nothing.
use mathlib.Core.Path.{◌≡◌, ap, ◌∙◌}
use Prim.Native.Nat.{ℕ, ◌*◌}
use native.Mathlib.Nat.{mul-mul-mul_comm}
use Rattle.exact.specs.Signed.{Signed, Same, times, mag}
use Rattle.exact.proofs.Sizes.{mag_same, mag-by}

abbrev pub sq : Signed → ℕ
sq x = mag x * mag x

pub sq-same : (x y : Signed) → Same x y → sq x ≡ sq y
sq-same x y h = ap (λ (z : ℕ). z * z) (mag_same x y h)

pub sq-by : (k : ℕ) (x : Signed) → sq (times k x) ≡ k * k * sq x
sq-by k x = ap (λ (z : ℕ). z * z) (mag-by k x) ∙ mul-mul-mul_comm k (mag x) k (mag x)
