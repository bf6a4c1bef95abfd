-- A point of a finite start and a finite step: the exact sum in units, rounded once; so it is finite where both are not too large. Assumes nothing.
use Rattle.std.proofs.Common.{◌≡◌, ℕ, ◌*◌, ◌^◌, ◌≤◌, Bool, false, T, sym, ◌∙◌, subst, le_trans, add-le-add, mul_assoc, mul_comm, mul-le-mul, mul-pos, mul-one, arith, lit≤, pow_pos}
use lib.Ieee.{Float, binary64, of_int, unlike, sum}
use lib.Ieee.Exact.{HasValue}
use lib.Ieee.Back.{round_whole}
use lib.Ieee.Scale.{finite}
use Rattle.exact.specs.Value.{Units}
use Rattle.exact.proofs.Sum.{sum_same}
use Rattle.exact.proofs.Value.{rescale}
use Rattle.exact.proofs.Grid.{sum-finite}
use Rattle.fma.proofs.Fusing.{fma-at}
use Rattle.points.specs.Points.{number, point_at}

-- an index as a fraction over p
pub index-value : (i p : ℕ) → i ≤ 2 ^ 53 → HasValue (number i) false (i * p) p
unfolding of_int
index-value i p h = rescale (number i) false i 1 (i * p) p (omega arith) (mul-one (i * p)) (round_whole binary64 false i h)

pub point-sum : (x dx : Float) (s t : Bool) (a b i : ℕ) → i ≤ 2 ^ 53 → Units x s a → Units dx t b → point_at x dx i ≡ sum binary64 (unlike false t) (i * b) s a (2 ^ 1074)
point-sum x dx s t a b i h v w =
    let W = 2 ^ 1074 in
    fma-at (number i) dx x false t s (i * W) b a W (pow_pos 1074) (index-value i W h) w v
    ∙ sum_same binary64 (unlike false t) s (i * W * b) (a * W) (W * W) (i * b) a W (mul-pos (pow_pos 1074) (pow_pos 1074)) (pow_pos 1074) (regroup i b W) (mul_assoc a W W)
  where
    regroup : (i b w : ℕ) → i * w * b * w ≡ i * b * (w * w)
    regroup i b w = simp (mul_assoc, mul_comm)

-- where both are at most 2 ^ 100 in size it is finite
pub point-finite : (x dx : Float) (s t : Bool) (a b i : ℕ) → i ≤ 65536 → a ≤ 2 ^ 1174 → b ≤ 2 ^ 1174 → Units x s a → Units dx t b → T (finite (point_at x dx i))
point-finite x dx s t a b i h k l v w =
    subst (λ (z : Float). T (finite z)) (sym (point-sum x dx s t a b i (le_trans h (lit≤ tt)) v w))
    (sum-finite (unlike false t) s (i * b) a (le_trans (add-le-add (mul-le-mul {n₂ = 65536} {m₂ = 2 ^ 1174} h l) k) (lit≤ tt)))
