-- The first point is x, and +0 where x is either zero; and where all other points from t on are those from x on, only the first has to be put right. Assumes nothing.
use Rattle.std.proofs.Common.{◌≡◌, ℕ, zero, suc, ◌+◌, ◌^◌, ◌<◌, ◌≤◌, Bool, false, ◌∷◌, sym, refl, ap, ◌∙◌, zero-mul, arith, lit≤, pow_pos}
use lib.Ieee.{Float, binary64, of_bits, add, sum}
use Rattle.exact.specs.Doubles.{nought}
use Rattle.exact.specs.Value.{Units}
use Rattle.exact.proofs.Operation.{add_rounds}
use Rattle.exact.proofs.Sum.{sum_comm}
use Rattle.points.specs.Points.{point_at, points}
use Rattle.points.specs.Grid.{headed}
use Rattle.points.proofs.Fused.{point-sum}

nought-value : Units nought false 0
unfolding of_bits
nought-value = (refl, refl)

first-is : (x dx : Float) (s : Bool) (a b : ℕ) → Units x s a → Units dx false b → add binary64 x nought ≡ point_at x dx 0
first-is x dx s a b v w =
    let W = 2 ^ 1074 in
    add_rounds binary64 x nought s false a 0 W (pow_pos 1074) v nought-value
    ∙ sum_comm binary64 s false a 0 W
    ∙ ap (λ (n : ℕ). sum binary64 false n s a W) (sym (zero-mul b))
    ∙ sym (point-sum x dx s false a b 0 (lit≤ tt) v w)

points-same : (n i : ℕ) (x t dx : Float) → ((k : ℕ) → i ≤ k → k < i + n → point_at t dx k ≡ point_at x dx k) → points n i t dx ≡ points n i x dx
unfolding points
points-same zero i x t dx h = refl
points-same (suc n) i x t dx h = λ j. h i (omega arith) (omega arith) j ∷ points-same n (suc i) x t dx (λ k l g. h k (omega arith) (omega arith)) j

pub put_right : (n : ℕ) (x t dx : Float) (s : Bool) (a b : ℕ) → Units x s a → Units dx false b → ((k : ℕ) → 0 < k → k < n → point_at t dx k ≡ point_at x dx k)
    → headed (add binary64 x nought) (points n 0 t dx) ≡ points n 0 x dx
unfolding points headed
put_right zero x t dx s a b v w h = refl
put_right (suc n) x t dx s a b v w h = λ j. first-is x dx s a b v w j ∷ points-same n 1 x t dx (λ k l g. h k l (omega arith)) j
