-- Names among names: where one stands, and whether it stands there. Assumes nothing.
use Prim.Native.Nat.{ℕ, suc}
use mathlib.Core.Bool.{Bool, true, false, ◌||◌, cond}
use mathlib.Core.List.{List, [], ◌∷◌}
use mathlib.Core.Path.{◌≡◌, refl, sym, ◌∙◌}
use native.Mathlib.Nat.{zero-lt-suc}
use borrow.Author.Tests.{lt-ltb}
use lib.Dec.{ltb, leb-suc-suc}
use lib.ListN.{length}
use Rattle.naming.specs.Name.{same_name, is_in}
use Rattle.naming.specs.declared.Name.{Name}
use Rattle.sheet.specs.Sheet.{position}

in_by : (t u : Bool) (p k : ℕ) → u ≡ ltb p k → (t || u) ≡ ltb (cond t 0 (suc p)) (suc k)
in_by true u p k e = sym (lt-ltb 0 (suc k) (zero-lt-suc k))
in_by false u p k e = e ∙ sym (leb-suc-suc (suc p) k)

-- a name is one of a list exactly where its place is within it
pub is-in : (n : Name) (l : List Name) → is_in n l ≡ ltb (position n l) (length l)
unfolding is_in position
is-in n [] = refl
is-in n (m ∷ ms) = in_by (same_name m n) (is_in n ms) (position n ms) (length ms) (is-in n ms)
