-- The cascade takes each sample through all sections. To take the whole row through the first section, then through the next, and so on,
-- is the same; so a row can go through a few sections at a time. Assumes nothing.
use mathlib.Core.Path.{◌≡◌, refl, ap, ◌∙◌}
use mathlib.Core.List.{List, [], ◌∷◌, ◌++◌}
use lib.Ieee.{Float}
use Rattle.iir.specs.declared.biquad.Biquad.{Biquad}
use Rattle.iir.specs.Section.{ran}
use Rattle.iir.specs.Filter.{given, cascaded, cascade}
use Rattle.iir.specs.Flight.{through}

-- the row through one section after the other
abbrev pub passed : List Biquad → List Float → List Float
passed [] xs = xs
passed (b ∷ bs) xs = passed bs (through b xs)

none : (xs : List Float) → cascade [] xs ≡ xs
unfolding given cascaded cascade
none [] = refl
none (x ∷ xs) = ap (λ (l : List Float). x ∷ l) (none xs)

pub first : (b : Biquad) (bs : List Biquad) (xs : List Float) → cascade (b ∷ bs) xs ≡ cascade bs (through b xs)
unfolding given cascaded cascade through
first b bs [] = refl
first b bs (x ∷ xs) =
    ap (λ (l : List Float). given (ran b x).y (cascaded bs (ran b x).y) ∷ l) (first (ran b x) (cascaded bs (ran b x).y) xs)

pub in_turn : (bs : List Biquad) (xs : List Float) → cascade bs xs ≡ passed bs xs
in_turn [] xs = none xs
in_turn (b ∷ bs) xs = first b bs xs ∙ in_turn bs (through b xs)

passed-append : (bs cs : List Biquad) (xs : List Float) → passed (bs ++ cs) xs ≡ passed cs (passed bs xs)
passed-append [] cs xs = refl
passed-append (b ∷ bs) cs xs = passed-append bs cs (through b xs)

-- some of the sections, and then the others
pub parts : (bs cs : List Biquad) (xs : List Float) → cascade (bs ++ cs) xs ≡ cascade cs (cascade bs xs)
parts bs cs xs = rw (in_turn (bs ++ cs) xs, in_turn bs xs, in_turn cs (passed bs xs)) (passed-append bs cs xs)
