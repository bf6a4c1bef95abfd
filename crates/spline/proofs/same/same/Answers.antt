use Rattle.std.proofs.Common.{◌≡◌, List, [], ◌∷◌, ◌&&◌, Bool, refl, ap, ◌∙◌}
use Rattle.std.specs.Cmp.Lexicographic.{pointwise}
use lib.Ieee.{Float, eq}
use Rattle.spline.specs.Same.{same_numbers}
use Rattle.spline.proofs.same.same.Goals as goal

alike : (l m : List Float) → pointwise eq l m ≡ same_numbers l m
unfolding same_numbers
alike [] [] = refl
alike [] (b ∷ m) = refl
alike (a ∷ l) [] = refl
alike (a ∷ l) (b ∷ m) = ap (λ (z : Bool). eq a b && z) (alike l m)

pub returns : goal.returns
returns c = c.eq.ensures ∙ alike c.args.a.now c.args.b.now
