-- `decimal::digits::place` meets its contract: what `position` gives, by the library's law. Assumes nothing.
use Rattle.std.specs.Prelude.{Some, None, unwrap_or}
use Prim.Native.Nat.{ℕ, suc, ◌+◌, ◌≤◌}
use mathlib.Core.Path.{◌≡◌, refl, ap, ◌∙◌}
use mathlib.Core.Bool.{Bool, true, false, cond}
use native.Mathlib.Omega.{arith}
use Rattle.std.proofs.Common.{rules, tests}
use borrow.Author.Tests.{ltb-false}
use lib.Dec.{eqb, ltb}
use lib.ListN.{length}
use Rattle.std.specs.List.{position_or_len}
use Rattle.std.proofs.lemmas.Iterator.{YieldsList-from_slice}
use Rattle.std.proofs.lemmas.Iterator.Search.{position_from_yields_List}
use Rattle.std.proofs.lemmas.List.Recursion.{is_position_or_len}
use Rattle.decimal.specs.Digits.{place_of}
use Rattle.decimal.proofs.Places.{place-within}
use Rattle.decimal.proofs.digits.place.Goals as goal

-- a place within the text, or the text's length
within : (p n : ℕ) → p ≤ n → unwrap_or (cond (ltb p n) (Some p) None) n ≡ p
within p n h = by (ltb p n) refl
  where
    by : (t : Bool) → ltb p n ≡ t → unwrap_or (cond t (Some p) None) n ≡ p
    by true e = refl
    by false e = omega (arith, ltb-false p n e)

one : (n : ℕ) → suc n ≡ 1 + n
one n = omega arith

pub returns : goal.returns
unfolding place_of
returns c =
    let text = c.args.text.now in
    let b = c.args.b in
    let same : place_of b text ≡ position_or_len (λ x. eqb x b) text = is_position_or_len (place_of b) (λ x. eqb x b) refl (λ x xs. ap (λ (n : ℕ). cond (eqb x b) 0 n) (one (place_of b xs))) text in
    let found = position_from_yields_List (λ x. eqb x b) _ _ c.position.result c.position.ensures.ran (YieldsList-from_slice text cc) (λ x b q k. search (rules, tests)) in
    c.unwrap_or.ensures ∙ rw (found, ← same) (within (place_of b text) (length text) (place-within b text))
