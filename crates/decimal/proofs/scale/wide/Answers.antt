-- `decimal::scale::wide` meets its contract: digits of any count, as a whole number with the point moved. Assumes nothing.
use Rattle.std.specs.Prelude.{Some}
use Prim.Native.Nat.{ℕ, suc, ◌+◌, ◌*◌}
use mathlib.Core.Path.{◌≡◌, sym, ap, ◌∙◌}
use mathlib.Core.Bool.{true, false, not}
use native.Mathlib.Omega.{arith}
use lib.ListN.{length, drop}
use Rattle.wide_decimal.specs.Figures.{worth, without}
use Rattle.decimal.specs.Number.{scaled_by}
use Rattle.decimal.specs.Ways.{pointed_in}
use Rattle.decimal.proofs.Cutting.{reach}
use Rattle.wide_decimal.proofs.Truths.{denied, granted}
use Rattle.decimal.proofs.Pointing.{not-pointed, is-pointed}
use Rattle.decimal.proofs.scale.wide.Goals as goal

pub returns-then-not-pointed : goal.returns-then-not-pointed
returns-then-not-pointed c =
    let no : pointed_in c.args.text.now ≡ false = sym c.pointed.ensures ∙ denied _ (ap not c.if-not-pointed.true) in
    rw (not-pointed c.args.text.now no)

pub placed-requires : goal.placed-requires
placed-requires c =
    (reach 46 c.args.text.now c.place-point.result c.place-point.ensures, c.requires.0, c.requires.1)

pub returns : goal.returns
returns c =
    let text = c.args.text.now in
    let yes : pointed_in text ≡ true = sym c.pointed.ensures ∙ granted _ (ap not c.if-not-pointed.false) in
    rw (is-pointed text c.place-point.result c.place-point.ensures yes)
    (ap Some (c.placed.ensures ∙ ap (λ (x : ℕ). scaled_by c.args.minus 10 (worth (without c.place-point.result text)) c.args.up (c.args.down + x)) (one (length (drop (suc c.place-point.result) text)))))
  where
    one : (n : ℕ) → n ≡ 1 * n
    one n = omega arith
