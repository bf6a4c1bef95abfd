use Prim.Native.Nat.{◌/◌, ◌<◌}
use native.Mathlib.Omega.{arith}
use mathlib.Core.List.{List}
use borrow.Author.Tests.{lt-leb, ne_eqb}
use lib.ListN.{length}
use lib.Ieee.{Float}
use mathlib.Core.Path.{◌≡◌, sym, ◌∙◌}
use Rattle.iir.specs.Section.{sections_from, sections_of}
use Rattle.iir.specs.Filter.{cascade, filtered}
use Rattle.iir.proofs.Sections.{count-from}
use Rattle.iir.proofs.Pipeline.{alone}
use Rattle.iir.proofs.filter.filter.Goals as goal

many : (l xs : List Float) → 4 < length l / 6 → filtered (sections_of l) xs ≡ cascade (sections_of l) xs
many l xs h =
    let n = length l / 6 in
    let some : n ≡ 0 → ⊥ = λ e. omega arith in
    simp (count-from l n 0, ne_eqb n 0 some, lt-leb n 4 h)

pub returns-in-0 : goal.returns-in-0
unfolding sections_from
returns-in-0 c = rw c.in-0.is

pub returns-in-1 : goal.returns-in-1
returns-in-1 c = rw (c.one.ensures, c.section.ensures) (alone c.args.numbers.now c.args.row.now c.in-1.is)

pub returns-in-2 : goal.returns-in-2
unfolding sections_from
returns-in-2 c = rw (c.pipeline_of_two.ensures, c.section-in-2-2.ensures, c.section-in-2.ensures, c.in-2.is)

pub returns-in-3 : goal.returns-in-3
unfolding sections_from
returns-in-3 c = rw (c.pipeline_of_three.ensures, c.section-in-3-3.ensures, c.section-in-3-2.ensures, c.section-in-3.ensures, c.in-3.is)

pub returns-in-4 : goal.returns-in-4
unfolding sections_from
returns-in-4 c = rw (c.pipeline_of_four.ensures, c.section-in-4-4.ensures, c.section-in-4-3.ensures, c.section-in-4-2.ensures, c.section-in-4.ensures, c.in-4.is)

pub returns-in_default : goal.returns-in_default
returns-in_default c =
    let a = c.args in
    let more : 4 < length a.numbers.now / 6 = omega arith in
    c.in_cascade.ensures ∙ sym (many a.numbers.now a.row.now more)
