use native.Mathlib.Omega.{arith}
use mathlib.Core.Path.{◌≡◌, sym}
use mathlib.Core.List.{[], ◌∷◌}
use Rattle.iir.specs.Section.{section_at, sections_from}
use Rattle.iir.proofs.Sections.{two_from, three-from}
use Rattle.iir.proofs.Cascade.{in_turn}
use Rattle.iir.proofs.filter.rest_in_cascade.Goals as goal

pub returns-in-0 : goal.returns-in-0
unfolding sections_from
returns-in-0 c = rw c.in-0.is (sym (in_turn [] c.args.row.now))

pub returns-in-1 : goal.returns-in-1
unfolding sections_from
returns-in-1 c =
    let a = c.args in
    rw (c.one.ensures, c.section.ensures, c.in-1.is)
    (sym (in_turn (section_at a.numbers.now a.k ∷ []) a.row.now))

pub returns-in-2 : goal.returns-in-2
returns-in-2 c =
    let a = c.args in
    rw (c.two.ensures, c.section-in-2-2.ensures, c.section-in-2.ensures, c.in-2.is, two_from a.numbers.now a.k)

pub returns-in_default : goal.returns-in_default
returns-in_default c =
    let a = c.args in
    let left : a.left ≡ 3 = omega arith in
    rw (c.three.ensures, c.section-in_default-3.ensures, c.section-in_default-2.ensures, c.section-in_default.ensures, left, three-from a.numbers.now a.k)
