-- What is judged of names, one name after the other: of ns, whose first is n, by n and the rest. Assumes nothing.
use Rattle.quant.specs.Refusal.{refuse}
use Rattle.std.specs.Prelude.{Some, None, Ok}
use Prim.Native.Nat.{ℕ, ◌+◌, ◌<◌}
use native.Mathlib.Numerals.{add-one}
use native.Mathlib.Omega.{arith}
use mathlib.Core.Path.{◌≡◌}
use mathlib.Core.Bool.{true, false, cond}
use mathlib.Core.List.{List, [], ◌∷◌, ◌++◌}
use lib.ListN.{length, take, drop, get_or}
use lib.Seq.{take-suc, length-take-le}
use Rattle.naming.specs.declared.Name.{Name}
use Rattle.naming.specs.Name.{is_name, same_name, is_in}
use Rattle.quant.specs.declared.refusal.Refusal.TheVariants.{DoubledName, NoList}
use Rattle.tables.specs.declared.Tables.{Tables}
use Rattle.tables.specs.Tables.{no_name, found}
use Rattle.tables.proofs.Finding.{next-left}
use Rattle.crosstalk.specs.Crosstalk.{all_names, is_known, names_judged, row_from}

-- ---- no name is left

module _ (ns : List Name) (e : ns ≡ []) where
  pub names-end : all_names ns ≡ true
  unfolding all_names
  names-end = rw e

  pub judged-end : (t : Tables) (before : List Name) → names_judged t before ns ≡ Ok 0
  unfolding names_judged
  judged-end t before = rw e

  pub in_end : (n : Name) → is_in n ns ≡ false
  unfolding is_in
  in_end n = rw e

  pub row-end : (k : ℕ) (m : Name) → row_from k m ns ≡ None
  unfolding row_from
  row-end k m = rw e

-- ---- a name, and the rest

module _ (ns rest : List Name) (n : Name) (e : ns ≡ n ∷ rest) where
  pub names-bad : is_name n ≡ false → all_names ns ≡ false
  unfolding all_names
  names-bad f = rw (e, f)

  pub names-later : is_name n ≡ true → all_names rest ≡ all_names ns
  unfolding all_names
  names-later h = rw (e, h)

  pub in_here : (m : Name) → same_name n m ≡ true → is_in m ns ≡ true
  unfolding is_in
  in_here m h = rw (e, h)

  pub in_later : (m : Name) → same_name n m ≡ false → is_in m rest ≡ is_in m ns
  unfolding is_in
  in_later m h = rw (e, h)

  pub row_here : (k : ℕ) (m : Name) → same_name n m ≡ true → row_from k m ns ≡ Some k
  unfolding row_from
  row_here k m h = rw (e, h)

  pub row-later : (k : ℕ) (m : Name) → same_name n m ≡ false → row_from (k + 1) m rest ≡ row_from k m ns
  unfolding row_from
  row-later k m h = rw (e, h, add-one k)

-- ---- the names before a place, and those from it on

module _ (t : Tables) (names : List Name) (count i : ℕ) (within : i < count) (there : i < length names) where
  pub judged-next : let n = get_or names i no_name in
      names_judged t (take i names) (drop i (take count names))
      ≡ cond (is_in n (take i names)) (refuse DoubledName (i + 1))
      (cond (is_known (found t n)) (names_judged t (take (i + 1) names) (drop (i + 1) (take count names))) (refuse NoList (i + 1)))
  unfolding names_judged
  judged-next =
      let grown : take (i + 1) names ≡ take i names ++ get_or names i no_name ∷ [] = rw (add-one i) (take-suc names i no_name there) in
      rw (next-left names count i no_name within there, grown, length-take-le i names (omega arith))
