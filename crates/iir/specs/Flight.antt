-- What the inner functions promise: a row through one section, and the rest of a row whose samples are on their way through several.
-- Definitions only.
use Rattle.std.specs.Prelude.{List, [], ◌∷◌, Float}
use Rattle.iir.specs.declared.biquad.Biquad.{Biquad}
use Rattle.iir.specs.Section.{ran}

unfoldable pub through : Biquad → List Float → List Float
through b [] = []
through b (x ∷ xs) = (ran b x).y ∷ through (ran b x) xs

-- the samples xs have yet to come to the first section, and each section's last output to the one after it
unfoldable pub onward : Biquad → List Biquad → List Float → List Float
onward b [] xs = through b xs
onward b (c ∷ cs) xs = onward c cs (b.y ∷ through b xs)
