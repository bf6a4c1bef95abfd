-- `sheet::read::ended` meets its contract. Assumes nothing.
use mathlib.Core.Bool.{true, false}
use mathlib.Core.Path.{◌≡◌, sym, ◌∙◌}
use Rattle.sheet.specs.Reader.{so_far}
use Rattle.sheet.specs.Sheet.{read_from, complete}
use Rattle.sheet.proofs.read.ended.Goals as goal

pub returns-then-complete : goal.returns-then-complete
unfolding read_from
returns-then-complete c =
    let e : complete (so_far c.args.s) ≡ true = sym c.complete.ensures ∙ c.if-complete.true in
    record { is = rw e; fits = c.requires; whole = λ k. e }

pub returns : goal.returns
unfolding read_from
returns c =
    let e : complete (so_far c.args.s) ≡ false = sym c.complete.ensures ∙ c.if-complete.false in
    rw e c.stopped_at.ensures
