-- `sheet::line::starts` meets its contract, by the library's `starts_with`. Assumes nothing.
use mathlib.Core.Path.{sym, ◌∙◌}
use Rattle.sheet.proofs.Keys.{parts-by, reaches-by}
use Rattle.sheet.proofs.line.starts.Goals as goal

pub returns : goal.returns
returns c =
    let key = c.args.key.now in
    let line = c.args.line.now in
    record { parts = rw c.starts_with.ensures.value (parts-by key line); within = λ e. reaches-by key line (sym c.starts_with.ensures.value ∙ e) }
