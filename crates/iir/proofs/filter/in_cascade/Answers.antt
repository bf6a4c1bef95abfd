use native.Mathlib.Omega.{arith}
use Prim.Native.Nat.{◌+◌, ◌-◌, ◌/◌, ◌≤◌}
use mathlib.Core.Path.{sym, ap, ◌∙◌}
use mathlib.Core.List.{List, [], ◌∷◌}
use lib.ListN.{length}
use Rattle.iir.specs.declared.biquad.Biquad.{Biquad}
use Rattle.iir.specs.Section.{section_at, sections_from}
use Rattle.iir.specs.Filter.{cascade}
use Rattle.iir.proofs.Sections.{four-from}
use Rattle.iir.proofs.Cascade.{parts}
use Rattle.iir.proofs.filter.in_cascade.Goals as goal

pub loop-k-preserved : goal.loop-k-preserved
loop-k-preserved c =
    let at = c.loop-k in
    let l = c.args.numbers.now in
    let n = length l / 6 in
    let k = at.k in
    let more : k + 4 ≤ n = c.loop-k-test.true in (
      more,
      omega arith,
      rw (c.four.ensures, c.section-in-loop-k-3.ensures, c.section-in-loop-k-2.ensures, c.section-in-loop-k.ensures, c.section.ensures)
          (sym (parts (section_at l k ∷ section_at l (k + 1) ∷ section_at l (k + 2) ∷ section_at l (k + 3) ∷ []) (sections_from l (n - (k + 4)) (k + 4)) at.row)
          ∙ ap (λ (bs : List Biquad). cascade bs at.row) (sym (four-from l n k more))
          ∙ at.invariant.2),
    )
