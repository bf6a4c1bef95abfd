-- Sizes: what fitting counts tell, and that a row lies within the factors. Assumes nothing.
use Rattle.std.specs.Prelude.{Some}
use Prim.Native.Nat.{ℕ, suc, ◌+◌, ◌*◌, ◌≤◌, ◌<◌}
use native.Mathlib.Omega.{arith}
use native.Mathlib.Nat.{mul-le-mul, add-mul}
use mathlib.Core.Path.{◌≡◌}
use mathlib.Core.Bool.{Bool, true, false, cond}
use mathlib.Core.List.{List, [], ◌∷◌}
use borrow.Author.Tests.{leb-true}
use lib.Dec.{leb}
use lib.ListN.{length, length-take}
use Rattle.naming.specs.declared.Name.{Name}
use Rattle.naming.specs.Name.{same_name}
use Rattle.exact.proofs.Truth.{both}
use Rattle.crosstalk.specs.declared.names.Crosstalk.{Crosstalk}
use Rattle.crosstalk.specs.Crosstalk.{names_in, cross_fits, row_from, row_of}

pub record Fits (count lent : ℕ) : Type 0 where
  pub few : count ≤ 8
  pub square : count * count ≤ 64
  pub enough : count * count ≤ lent

pub square_64 : {n : ℕ} → n ≤ 8 → n * n ≤ 64
square_64 h = mul-le-mul h h

pub fitting : (count lent : ℕ) → cross_fits count lent ≡ true → Fits count lent
fitting count lent e =
    let two = both (leb count 8) (leb (count * count) lent) e in
    let few = leb-true count 8 two.0 in
    record { few = few; square = square_64 few; enough = leb-true (count * count) lent two.1 }

-- a row that is found is one of those looked at
pub row_under : (k : ℕ) (n : Name) (ns : List Name) (r : ℕ) → row_from k n ns ≡ Some r → r < k + length ns
unfolding row_from
row_under k n [] r e = let z : ◌≡◌ {A = ℕ} 0 1 = cc in absurd (omega arith)
row_under k n (m ∷ ns) r e = go (same_name m n) e (row_under (suc k) n ns r)
  where
    go : (b : Bool) → cond b (Some k) (row_from (suc k) n ns) ≡ Some r → (row_from (suc k) n ns ≡ Some r → r < suc k + length ns) → r < k + suc (length ns)
    go true f later = let same : k ≡ r = cc in omega arith
    go false f later = let under = later f in omega arith

pub row_below : (c : Crosstalk) (n : Name) (r : ℕ) → row_of n (names_in c) ≡ Some r → r < c.count
row_below c n r e =
    let under = row_under 0 n (names_in c) r e in
    let most = rw (length-take c.count c.names) at under in
    omega (arith, most)

-- row r of n rows of n lies within n * n
pub row_within : (r n : ℕ) → r < n → r * n + n ≤ n * n
row_within r n h =
    let whole : (r + 1) * n ≤ n * n = mul-le-mul {n₁ = r + 1} {m₁ = n} {n₂ = n} {m₂ = n} (omega arith) (omega arith) in
    let split : (r + 1) * n ≡ r * n + 1 * n = add-mul r 1 n in
    omega arith
