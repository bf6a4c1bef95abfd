-- The row that is found lies within the factors.
use native.Mathlib.Omega.{arith}
use native.Mathlib.Nat.{le_trans}
use mathlib.Core.Path.{sym, ◌∙◌}
use Rattle.crosstalk.proofs.Fitting.{square_64, row_below, row_within}
use Rattle.crosstalk.proofs.parts.parts_for.Goals as goal

pub overflow_mul-from : goal.overflow_mul-from
overflow_mul-from c =
    let within = row_within _ _ (row_below c.args.c c.args.channel _ (sym c.row_of.ensures ∙ c.in-Some.is)) in
    let small = square_64 c.requires.count_bound in
    record { fits = omega arith }

pub overflow_add-from : goal.overflow_add-from
overflow_add-from c =
    let within = row_within _ _ (row_below c.args.c c.args.channel _ (sym c.row_of.ensures ∙ c.in-Some.is)) in
    let small = square_64 c.requires.count_bound in
    record { fits = omega arith }

pub offset_bounds-factors-from : goal.offset_bounds-factors-from
offset_bounds-factors-from c =
    let within = row_within _ _ (row_below c.args.c c.args.channel _ (sym c.row_of.ensures ∙ c.in-Some.is)) in
    let small = square_64 c.requires.count_bound in
    record { fits = omega arith }

pub slice_bounds-row_parts-end : goal.slice_bounds-row_parts-end
slice_bounds-row_parts-end c =
    le_trans (row_within _ _ (row_below c.args.c c.args.channel _ (sym c.row_of.ensures ∙ c.in-Some.is))) c.requires.count_in_bounds
