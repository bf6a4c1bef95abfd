-- A row in two parts, as the calls are handed them: its head, and the numbers of a spline behind it. Assumes nothing.
use Prim.Native.Nat.{◌≤◌}
use native.Mathlib.Omega.{arith}
use mathlib.Core.Path.{◌≡◌}
use mathlib.Core.List.{List, ◌++◌}
use lib.Ieee.{Float}
use lib.ListN.{length, take, drop, length-drop, take-append-drop}
use lib.Seq.{take_all}

module _ (row : List Float) (long : length row ≡ 77) where
  pub numbers-all : take 72 (drop 5 row) ≡ drop 5 row
  numbers-all = let some : length (drop 5 row) ≤ 72 = omega (arith, length-drop 5 row) in take_all 72 (drop 5 row) some

  pub row-whole : (head : List Float) → head ≡ take 5 row → head ++ take 72 (drop 5 row) ≡ row
  row-whole head e = rw (e, numbers-all) (take-append-drop 5 row)
