use Rattle.std.proofs.Common.{◌≡◌, ◌∙◌, ℕ, ◌+◌, List, [], ◌∷◌, refl, add-one, rules, tests}
use Rattle.std.proofs.lemmas.Iterator.{YieldsList-from_slice}
use Rattle.std.proofs.lemmas.Iterator.Search.{position_from_yields_List}
use Rattle.std.proofs.lemmas.Iterator.Adapters.{position_from-zero}
use Rattle.std.specs.List.{position_from}
use Rattle.naming.specs.declared.Name.{Name}
use Rattle.naming.specs.Name.{same_name}
use Rattle.crosstalk.specs.Crosstalk.{names_in, row_from}
use Rattle.crosstalk.proofs.names.row_of.Goals as goal

is_first : (n : Name) (k : ℕ) (ns : List Name) → position_from (λ m. same_name m n) k ns ≡ row_from k n ns
unfolding row_from
is_first n k [] = refl
is_first n k (m ∷ ms) = rw (is_first n (k + 1) ms, add-one k)

pub returns : goal.returns
returns c =
    let names = names_in c.args.c in
    let test = λ (m : Name). same_name m c.args.channel in
    position_from_yields_List test _ _ _ c.position.ensures.ran (YieldsList-from_slice names cc) (λ x b q k. search (rules, tests))
    ∙ position_from-zero test names
    ∙ is_first c.args.channel 0 names
