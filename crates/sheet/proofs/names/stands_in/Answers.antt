-- `sheet::names::stands_in` meets its contract: what `any` answers, by the library's law. Assumes nothing.
use mathlib.Core.Bool.{◌||◌}
use mathlib.Core.Path.{refl, ◌∙◌}
use Rattle.std.proofs.Common.{rules, tests}
use Rattle.std.proofs.lemmas.Iterator.{YieldsList-from_slice}
use Rattle.std.proofs.lemmas.Iterator.Search.{any_from_yields_List}
use Rattle.std.proofs.lemmas.List.Recursion.{same_from_clauses}
use Rattle.std.specs.List.{list_any}
use Rattle.naming.specs.Name.{same_name, is_in}
use Rattle.naming.specs.declared.Name.{Name}
use Rattle.sheet.proofs.names.stands_in.Goals as goal

pub returns : goal.returns
unfolding is_in
returns c =
    let names = c.args.names.now in
    let n = c.args.n in
    any_from_yields_List (λ (m : Name). same_name m n) _ _ c.any.result c.any.ensures.ran (YieldsList-from_slice names cc) (λ x b q k. search (rules, tests))
    ∙ same_from_clauses (list_any (λ (m : Name). same_name m n)) (is_in n) (λ m r. same_name m n || r) refl (λ _ _. refl) (λ _ _. refl) names
