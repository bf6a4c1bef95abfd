-- The fields that four commands share: `WORD ch=NAME KEY=N start=N span=N`. Definitions only.
use Rattle.std.specs.Prelude.{ℕ, cond, List, eqb, length, Option, Some, None}
use Rattle.fields.specs.Value.{number_field, name_field, pair_field}
use Rattle.job.specs.declared.turn.Turn.{Turn}
use Rattle.job.specs.Given as given
use Rattle.job.specs.Given.{word}
use Rattle.job.specs.Keys.{ch_key, start_key, span_key}

unfoldable pub turn_of : List ℕ → List (List ℕ) → Option Turn
turn_of key words =
    cond (eqb (length words) 5)
    (given.name None (name_field ch_key (word words 1)) (λ n.
    given.number None (number_field key (word words 2)) (λ x.
    given.both None (pair_field start_key span_key (word words 3) (word words 4)) (λ start span.
    Some (record { channel = n; number = x; start = start; span = span })))))
    None
