-- `naming::word_of` meets its contract. The invariant: `word` is the number of the bytes that are gathered, the last ones of the
-- part. Assumes nothing.
use Prim.Native.Nat.{ℕ, ◌-◌, ◌^◌, ◌≤◌, ◌<◌}
use mathlib.Core.Path.{◌≡◌}
use mathlib.Core.List.{List}
use lib.ListN.{length, drop}
use Rattle.naming.specs.Name.{word_of}
use Rattle.naming.proofs.word_of.Given as goal

-- what is known while `i` bytes are i to gather
pub record Gathered (part : List ℕ) (word i : ℕ) : Type 0 where
  pub within : i ≤ length part
  pub is : word ≡ word_of (drop i part)
  pub few : word < 256 ^ (length part - i)

abbrev pub invariant-loop-i : goal.invariant-loop-i
invariant-loop-i l = Gathered l.part l.word l.i
