-- `job_sheet::take_sheet` meets its contract: the first lines are read, or there are fewer. Assumes nothing.
use mathlib.Core.Path.{sym, ◌∙◌}
use lib.Seq.{length-take-le}
use Rattle.job_sheet.specs.Inset.{taken_of, factors_after}
use Rattle.job_sheet.proofs.Firsts.{first-within}
use Rattle.job_sheet.proofs.take_sheet.Goals as goal

pub slice_bounds-read-end : goal.slice_bounds-read-end
slice_bounds-read-end c =
    let args = c.args in
    sym (length-take-le c.in-Some.n args.behind.now (first-within args.count args.behind.now _ (sym c.first_lines.ensures ∙ c.in-Some.is)))

pub returns-in-Some : goal.returns-in-Some
unfolding taken_of factors_after
returns-in-Some c =
    let done = c.read-reading.ensures in
    let first = sym c.first_lines.ensures ∙ c.in-Some.is in
    record { taken = rw (first, c.sheeted.ensures, done.answered, done.named); left = rw first done.left }

pub returns-in-None : goal.returns-in-None
unfolding taken_of factors_after
returns-in-None c =
    let first = sym c.first_lines.ensures ∙ c.in-None.is in
    record { taken = rw (first, c.fewer.ensures); left = rw first }
