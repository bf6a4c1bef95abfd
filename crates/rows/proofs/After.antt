-- A row that goes by an answer goes by what that answer is known to be. Assumes nothing.
use Rattle.quant.specs.Refusal.{Answer}
use mathlib.Core.Path.{◌≡◌, sym, ap, ◌∙◌}
use mathlib.Core.List.{List}
use lib.Ieee.{Float}
use Rattle.rows.specs.Rows.{after}

pub by_answer : (new old : List Float) {row : List Float} {r a : Answer} → r ≡ a → row ≡ after a new old → row ≡ after r new old
by_answer new old e h = h ∙ ap (λ (x : Answer). after x new old) (sym e)
