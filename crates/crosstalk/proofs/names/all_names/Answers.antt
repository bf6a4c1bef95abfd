use Rattle.std.proofs.Common.{◌≡◌, refl, ◌∙◌, List, ◌&&◌, rules, tests}
use Rattle.std.proofs.lemmas.Iterator.{YieldsList-from_slice}
use Rattle.std.proofs.lemmas.Iterator.Search.{all_from_yields_List}
use Rattle.std.proofs.lemmas.List.Recursion.{same_from_clauses}
use Rattle.std.specs.List.{list_all}
use Rattle.naming.specs.declared.Name.{Name}
use Rattle.naming.specs.Name.{is_name}
use Rattle.crosstalk.specs.Crosstalk.{names_in, all_names}
use Rattle.crosstalk.proofs.names.all_names.Goals as goal

is_all : (ns : List Name) → list_all is_name ns ≡ all_names ns
unfolding all_names
is_all ns = same_from_clauses (list_all is_name) all_names (λ n b. is_name n && b) refl (λ _ _. refl) (λ _ _. refl) ns

pub returns : goal.returns
returns c =
    let names = names_in c.args.c in
    all_from_yields_List is_name _ _ _ c.all.ensures.ran (YieldsList-from_slice names cc) (λ x b q k. search (rules, tests)) ∙ is_all names
