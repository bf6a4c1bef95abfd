-- `sheet::names::place` meets its contract: what `position` gives, by the library's law. Assumes nothing.
use Rattle.std.specs.Prelude.{Some, None, unwrap_or}
use Prim.Native.Nat.{ℕ, suc, ◌+◌, ◌≤◌}
use mathlib.Core.Bool.{Bool, true, false, cond}
use mathlib.Core.List.{List, [], ◌∷◌}
use mathlib.Core.Path.{◌≡◌, refl, ap, ◌∙◌}
use native.Mathlib.Omega.{arith}
use borrow.Author.Tests.{ltb-false}
use lib.Dec.{ltb}
use lib.ListN.{length}
use Rattle.std.proofs.Common.{rules, tests}
use Rattle.std.specs.List.{position_or_len}
use Rattle.std.proofs.lemmas.Iterator.{YieldsList-from_slice}
use Rattle.std.proofs.lemmas.Iterator.Search.{position_from_yields_List}
use Rattle.std.proofs.lemmas.List.Recursion.{is_position_or_len}
use Rattle.naming.specs.Name.{same_name}
use Rattle.naming.specs.declared.Name.{Name}
use Rattle.sheet.specs.Sheet.{position}
use Rattle.sheet.proofs.names.place.Goals as goal

-- a place among the names, or their count
within : (p n : ℕ) → p ≤ n → unwrap_or (cond (ltb p n) (Some p) None) n ≡ p
within p n h = by (ltb p n) refl
  where
    by : (t : Bool) → ltb p n ≡ t → unwrap_or (cond t (Some p) None) n ≡ p
    by true e = refl
    by false e = omega (arith, ltb-false p n e)

one : (n : ℕ) → suc n ≡ 1 + n
one n = omega arith

most : (n : Name) (names : List Name) → position n names ≤ length names
unfolding position
most n [] = omega arith
most n (m ∷ ms) = by (same_name m n) (position n ms) (length ms) (most n ms)
  where
    by : (t : Bool) (p k : ℕ) → p ≤ k → cond t 0 (suc p) ≤ suc k
    by true p k h = omega arith
    by false p k h = omega arith

pub returns : goal.returns
unfolding position
returns c =
    let names = c.args.names.now in
    let n = c.args.n in
    let same : position n names ≡ position_or_len (λ m. same_name m n) names = is_position_or_len (position n) (λ m. same_name m n) refl (λ m ms. ap (λ (k : ℕ). cond (same_name m n) 0 k) (one (position n ms))) names in
    let found = position_from_yields_List (λ (m : Name). same_name m n) _ _ c.position.result c.position.ensures.ran (YieldsList-from_slice names cc) (λ x b q k. search (rules, tests)) in
    c.unwrap_or.ensures ∙ rw (found, ← same) (within (position n names) (length names) (most n names))
