-- The count is the lines': each turn goes past one, and in the end none is left.
use Rattle.std.proofs.Common.{◌≡◌, ℕ, suc, ◌+◌, ◌≤◌, ◌<◌, List, length, drop, ap, arith}
use Rattle.std.proofs.Math.ListN.{drop_of_length-le}
use Rattle.lines.specs.Text.{lines_of, line_length}
use Rattle.lines.proofs.Lines.{line-ends-within, next-line}
use Rattle.words.specs.Words.{end_in}
use Rattle.command_lines.proofs.walk.walk.Invariants.{At}
use Rattle.command_lines.proofs.walk.walk.Goals as goal

module _ (text : List ℕ) (lines at : ℕ) where
  -- one line further
  further : (end : ℕ) → At text lines at → at < length text → end ≡ end_in text at → At text (lines + 1) (end + 1)
  further end now h e =
      let is : end ≡ at + line_length (drop at text) = omega (arith, e, line-ends-within text at h) in
      let one : length (lines_of (drop at text)) ≡ suc (length (lines_of (drop (end + 1) text))) = rw is (ap length (next-line text at h)) in
      record { near = omega (arith, e); few = omega (arith, now.few, is); counted = omega (arith, now.counted, one) }

  -- none is left
  through : At text lines at → length text ≤ at → lines ≡ length (lines_of text)
  unfolding lines_of
  through now h = let all = rw (drop_of_length-le text h) at now.counted in omega (arith, all)

pub loop-at-preserved : goal.loop-at-preserved
loop-at-preserved g c = further _ _ _ _ c.loop-at.invariant c.loop-at-test.true c.end_of-end.ensures

pub returns : goal.returns
returns g c = through _ _ _ c.loop-at.invariant c.loop-at-test.false
