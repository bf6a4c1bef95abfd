use Rattle.std.proofs.Common.{◌≡◌, refl, ◌∙◌, List, Float, ◌&&◌, rules, tests}
use Rattle.std.proofs.lemmas.Iterator.{YieldsList-from_slice}
use Rattle.std.proofs.lemmas.Iterator.Search.{all_from_yields_List}
use Rattle.std.proofs.lemmas.List.Recursion.{same_from_clauses}
use Rattle.std.specs.List.{list_all}
use Rattle.std.specs.Float.Ieee.Scale.{finite}
use Rattle.rows.specs.Rows.{all_finite}
use Rattle.rows.proofs.all_finite.Goals as goal

is_all : (xs : List Float) → list_all finite xs ≡ all_finite xs
unfolding all_finite
is_all xs = same_from_clauses (list_all finite) all_finite (λ x b. finite x && b) refl (λ _ _. refl) (λ _ _. refl) xs

pub returns : goal.returns
returns c =
    let numbers = c.args.numbers.now in
    all_from_yields_List finite _ _ _ c.all.ensures.ran (YieldsList-from_slice numbers cc) (λ x b q k. search (rules, tests)) ∙ is_all numbers
