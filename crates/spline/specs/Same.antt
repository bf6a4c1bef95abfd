-- Request P1: "two splines are the same shape when all their numbers are equal": as doubles, so that 0 and -0 are one. Definitions only.
use Rattle.std.specs.Prelude.{Bool, true, false, ◌&&◌, List, [], ◌∷◌, Float}
use Rattle.std.specs.Float.Ieee.{eq}

unfoldable pub same_numbers : List Float → List Float → Bool
same_numbers [] [] = true
same_numbers [] (b ∷ m) = false
same_numbers (a ∷ l) [] = false
same_numbers (a ∷ l) (b ∷ m) = eq a b && same_numbers l m
