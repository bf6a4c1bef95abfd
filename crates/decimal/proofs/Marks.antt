-- Where the mark of a power stands, and the two sides of it. Assumes nothing.
use Prim.Native.Nat.{ℕ, ◌≤◌}
use mathlib.Core.Path.{◌≡◌}
use mathlib.Core.Bool.{Bool}
use mathlib.Core.List.{List}
use native.Mathlib.Omega.{arith}
use lib.ListN.{length, take}
use Rattle.decimal.specs.Number.{mark_of, significand_of, few_of, power_at, joined, size_of, hex_size_of}
use Rattle.decimal.proofs.Places.{place-within}

pub mark-within : (b : ℕ) (text : List ℕ) (p : ℕ) → p ≡ mark_of b text → p ≤ length text
mark-within b text p e = omega (arith, e, place-within b text)

module _ (s : Bool) (text : List ℕ) (p : ℕ) where
  pub size-at : p ≡ mark_of 101 text → size_of s text ≡ joined s 10 1 (significand_of 10 (take p text)) (power_at p text)
  unfolding size_of
  size-at e = rw e

  pub hex-size-at : p ≡ mark_of 112 text → hex_size_of s text ≡ joined s 2 4 (few_of 16 16 (take p text)) (power_at p text)
  unfolding hex_size_of
  hex-size-at e = rw e
