-- Each turn goes past a line and counts it.
use Rattle.std.proofs.Common.{◌≡◌, ℕ, ◌+◌, ◌-◌, ◌≤◌, List, length, drop}
use Rattle.lines.specs.Text.{lines_of}
use Rattle.command_lines.proofs.walk.walk.Given as goal

-- so many lines are gone through, and the rest begins at a place
pub record At (text : List ℕ) (lines at : ℕ) : Type 0 where
  pub near : at ≤ length text + 1
  pub few : lines ≤ at
  pub counted : lines + length (lines_of (drop at text)) ≡ length (lines_of text)

abbrev pub invariant-loop-at : goal.invariant-loop-at
invariant-loop-at g l = At l.text l.lines l.at

abbrev pub decreases-loop-at : goal.decreases-loop-at
decreases-loop-at g l = length l.text - l.at
