-- Doubles and rows that are equal but for the signs of zeros. There is one NaN here, so that no payload is compared. Definitions only.
use Rattle.std.specs.Prelude.{Bool, List, [], ◌∷◌, Float}
use Rattle.exact.specs.Doubles.{zero_of}

-- equal, or both a zero
pub data Alike : Float → Float → Type 0 where
  same : {x : Float} → Alike x x
  zeros : {s t : Bool} → Alike (zero_of s) (zero_of t)

-- rows of one length, alike in every sample
pub data AlikeRows : List Float → List Float → Type 0 where
  ended : AlikeRows [] []
  next : {x y : Float} {xs ys : List Float} → Alike x y → AlikeRows xs ys → AlikeRows (x ∷ xs) (y ∷ ys)
