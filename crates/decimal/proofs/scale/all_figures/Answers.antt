-- `decimal::scale::all_figures` meets its contract: what `all` answers, by the library's law. Assumes nothing.
use mathlib.Core.Path.{refl, ◌∙◌}
use mathlib.Core.Bool.{◌&&◌}
use Rattle.std.proofs.Common.{rules, tests}
use lib.Dec.{ltb}
use Rattle.std.specs.List.{list_all}
use Rattle.std.proofs.lemmas.Iterator.{YieldsList-from_slice}
use Rattle.std.proofs.lemmas.Iterator.Search.{all_from_yields_List}
use Rattle.std.proofs.lemmas.List.Recursion.{same_from_clauses}
use Rattle.decimal.specs.Digits.{digit_of}
use Rattle.decimal.specs.Ways.{figures_in}
use Rattle.decimal.proofs.scale.all_figures.Goals as goal

pub returns : goal.returns
unfolding figures_in
returns c =
    let text = c.args.text.now in
    let found = all_from_yields_List (λ b. ltb (digit_of b) 10) _ _ c.all.result c.all.ensures.ran (YieldsList-from_slice text cc) (λ x b q k. search (rules, tests)) in
    found ∙ same_from_clauses (list_all (λ b. ltb (digit_of b) 10)) figures_in (λ b r. ltb (digit_of b) 10 && r) refl (λ _ _. refl) (λ _ _. refl) text
