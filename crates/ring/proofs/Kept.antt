-- Which rows are filtered and which stay, by the number of taps. Assumes nothing.
use borrow.Author.Tests.{le-leb, lt-leb}
use mathlib.Core.Path.{◌≡◌}
use mathlib.Core.List.{List}
use Prim.Native.Nat.{◌≤◌, ◌<◌}
use lib.ListN.{length}
use lib.Ieee.{Float}
use Rattle.ring.specs.Ring.{filtered_row, filtered_or_kept}

module _ (taps row : List Float) where
  pub none_kept : length taps < 1 → filtered_or_kept taps row ≡ row
  none_kept h = rw (lt-leb 1 (length taps) h)

  pub many-kept : 1 ≤ length taps → 256 < length taps → filtered_or_kept taps row ≡ row
  many-kept h g = rw (le-leb 1 (length taps) h, lt-leb (length taps) 256 g)

  pub some-filtered : 1 ≤ length taps → length taps ≤ 256 → filtered_or_kept taps row ≡ filtered_row taps row
  some-filtered h g = rw (le-leb 1 (length taps) h, le-leb (length taps) 256 g)
