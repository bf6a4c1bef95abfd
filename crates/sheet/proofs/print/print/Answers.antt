-- `sheet::print::print` meets its contract: its tests are the definition's in their order, and then the whole text is put. Assumes nothing.
use Rattle.quant.specs.Refusal.{Answer}
use Rattle.std.specs.Prelude.{Ok}
use Prim.Native.Nat.{◌*◌}
use mathlib.Core.Path.{◌≡◌, refl, sym, ap, ◌∙◌}
use native.Mathlib.Nat.{zero-add}
use native.Mathlib.Omega.{arith}
use lib.ListN.{length}
use lib.Seq.{length-take-le}
use borrow.Author.Rules.{rules}
use Rattle.sheet.specs.Sheet.{bytes_after, sheet_text, sheet_of}
use Rattle.sheet.proofs.Parts.{few}
use Rattle.sheet.proofs.Printing.{good-columns, fine-factors, sized, of-printed, no_room, bad-column, bad-factor, printed}
use Rattle.sheet.proofs.print.print.Goals as goal

pub returns-then-not-sizes_fit : goal.returns-then-not-sizes_fit
unfolding bytes_after
returns-then-not-sizes_fit c =
    let p = c.args in
    rw c.at.ensures
    (of-printed _ _ _ _ _ _ (no_room p.count p.names p.matrix.now p.out.now (sym c.sizes_fit.ensures ∙ c.if-not-sizes_fit.true)) refl)

pub columns_judged-requires : goal.columns_judged-requires
columns_judged-requires c = (sized _ _ _ _ (sym c.sizes_fit.ensures ∙ c.if-not-sizes_fit.false)).most

pub returns-in_err-columns_judged : goal.returns-in_err-columns_judged
unfolding bytes_after
returns-in_err-columns_judged c =
    let p = c.args in
    let bad = of-printed _ _ _ _ _ _
    (bad-column p.count p.names p.matrix.now p.out.now (sym c.sizes_fit.ensures ∙ c.if-not-sizes_fit.false) _ _ (sym c.columns_judged.ensures ∙ c.in_err-columns_judged.was))
    refl in search rules

pub overflow_mul-count : goal.overflow_mul-count
overflow_mul-count c = omega (arith, few (sized _ _ _ _ (sym c.sizes_fit.ensures ∙ c.if-not-sizes_fit.false)).most (sized _ _ _ _ (sym c.sizes_fit.ensures ∙ c.if-not-sizes_fit.false)).most)

pub slice_bounds-factors_judged-end : goal.slice_bounds-factors_judged-end
slice_bounds-factors_judged-end c =
    let p = c.args in
    sym (length-take-le (p.count * p.count) p.matrix.now (sized _ _ _ _ (sym c.sizes_fit.ensures ∙ c.if-not-sizes_fit.false)).numbers)

pub factors_judged-requires : goal.factors_judged-requires
factors_judged-requires c =
    let p = c.args in
    let s = sized _ _ _ _ (sym c.sizes_fit.ensures ∙ c.if-not-sizes_fit.false) in
    (s.some, s.most, rw (length-take-le (p.count * p.count) p.matrix.now s.numbers) (few s.most s.most))

pub returns-in_err-factors_judged : goal.returns-in_err-factors_judged
unfolding bytes_after
returns-in_err-factors_judged c =
    let p = c.args in
    let bad = of-printed _ _ _ _ _ _
    (bad-factor p.count p.names p.matrix.now p.out.now (sym c.sizes_fit.ensures ∙ c.if-not-sizes_fit.false) _ (sym c.columns_judged.ensures ∙ c.in_ok-columns_judged.was) _ _
    (sym c.factors_judged.ensures ∙ c.in_err-factors_judged.was))
    refl in search rules

pub put_sheet-requires : goal.put_sheet-requires
put_sheet-requires c =
    let s = sized _ _ _ _ (sym c.sizes_fit.ensures ∙ c.if-not-sizes_fit.false) in (
      record {
        most = s.most;
        numbers = s.numbers;
        good = good-columns _ _ _ (sym c.columns_judged.ensures ∙ c.in_ok-columns_judged.was);
        fine = fine-factors _ _ _ _ (sym c.factors_judged.ensures ∙ c.in_ok-factors_judged.was);
      },
      s.text,
    )

pub returns : goal.returns
unfolding bytes_after
returns c =
    let p = c.args in
    let put = c.put_sheet.ensures in
    let size : c.put_sheet.result ≡ length (sheet_text (sheet_of p.count p.names p.matrix.now)) = put.next ∙ zero-add _ in
    let all = printed p.count p.names p.matrix.now p.out.now (sym c.sizes_fit.ensures ∙ c.if-not-sizes_fit.false) _ (sym c.columns_judged.ensures ∙ c.in_ok-columns_judged.was) _
    (sym c.factors_judged.ensures ∙ c.in_ok-factors_judged.was) in
    of-printed _ _ _ _ _ _ (all ∙ ap Ok (sym size)) (put.left ∙ rw (← put.next))
