-- Whether a text begins as a hex float. Assumes nothing.
use Prim.Native.Nat.{ℕ, ◌≤◌}
use mathlib.Core.Path.{◌≡◌}
use mathlib.Core.Bool.{true}
use mathlib.Core.List.{List, [], ◌∷◌}
use native.Mathlib.Omega.{arith}
use lib.ListN.{length}
use Rattle.decimal.specs.Number.{is_hex}

pub hex-long : (text : List ℕ) → is_hex text ≡ true → 2 ≤ length text
unfolding is_hex
hex-long [] e = let z : ◌≡◌ {A = ℕ} 0 1 = cc in omega arith
hex-long (a ∷ []) e = let z : ◌≡◌ {A = ℕ} 0 1 = cc in omega arith
hex-long (a ∷ b ∷ text) e = omega arith
