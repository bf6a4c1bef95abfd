-- `crosstalk::names::names_judged` meets its contract, name by name. Assumes nothing.
use native.Mathlib.Omega.{arith}
use mathlib.Core.Path.{◌≡◌, refl, ap, sym, ◌∙◌}
use Rattle.std.specs.Prelude.{Err}
use mathlib.Core.Bool.{true, false}
use lib.ListN.{take, get_or}
use Rattle.naming.specs.Name.{is_in}
use Rattle.tables.specs.Tables.{no_name, found}
use Rattle.tables.proofs.Finding.{none_left, next-left}
use Rattle.crosstalk.specs.Crosstalk.{is_known}
use Rattle.crosstalk.proofs.Sizes.{eight-names}
use Rattle.crosstalk.proofs.Scanning.{in_end, in_here, in_later, judged-end, judged-next}
use Rattle.crosstalk.proofs.names.names_judged.Goals as goal

pub scan-init : goal.scan-init
scan-init c = (refl, refl)

pub loop-k-init : goal.loop-k-init
loop-k-init c = (c.scan.invariant.0, refl)

pub loop-k-preserved : goal.loop-k-preserved
loop-k-preserved c =
    let a = c.args.c in
    let i = c.scan.i in
    let at = c.loop-k in
    let whole = eight-names a _ c.well_formed.1.0 in
    let cell = next-left a.names i at.k no_name (omega arith) (omega (arith, whole, c.requires)) in
    (at.invariant.0, in_later _ _ _ cell _ (sym c.same.ensures ∙ c.if-same.false) ∙ at.invariant.1)

pub scan-preserved : goal.scan-preserved
scan-preserved c =
    let a = c.args.c in
    let i = c.scan.i in
    let at = c.loop-k in
    let whole = eight-names a _ c.well_formed.1.0 in
    let new : is_in (get_or a.names i no_name) (take i a.names) ≡ false = sym at.invariant.1 ∙ in_end _ (none_left a.names i at.k c.loop-k-test.false) _ in
    let known : is_known (found c.args.t (get_or a.names i no_name)) ≡ true = rw (sym c.find.ensures, c.is_none.ensures, c.if-is_none.false) in
    let next = rw (new, known) at (judged-next c.args.t a.names a.count i (omega arith) (omega (arith, whole, c.requires))) in
    (at.invariant.0, sym next ∙ c.scan.invariant.1)

pub returns-after-scan : goal.returns-after-scan
returns-after-scan c =
    let a = c.args.c in
    let at = c.scan in
    at.invariant.0 ∙ sym (judged-end _ (none_left a.names a.count at.i c.scan-test.false) c.args.t (take at.i a.names)) ∙ at.invariant.1

pub returns-then-same : goal.returns-then-same
returns-then-same c =
    let a = c.args.c in
    let i = c.scan.i in
    let at = c.loop-k in
    let whole = eight-names a _ c.well_formed.1.0 in
    let cell = next-left a.names i at.k no_name (omega arith) (omega (arith, whole, c.requires)) in
    let stood = sym at.invariant.1 ∙ in_here _ _ _ cell _ (sym c.same.ensures ∙ c.if-same.true) in
    let next = rw stood at (judged-next c.args.t a.names a.count i (omega arith) (omega (arith, whole, c.requires))) in
    ap Err c.at.ensures ∙ sym next ∙ c.scan.invariant.1

pub returns-then-is_none : goal.returns-then-is_none
returns-then-is_none c =
    let a = c.args.c in
    let i = c.scan.i in
    let at = c.loop-k in
    let whole = eight-names a _ c.well_formed.1.0 in
    let new : is_in (get_or a.names i no_name) (take i a.names) ≡ false = sym at.invariant.1 ∙ in_end _ (none_left a.names i at.k c.loop-k-test.false) _ in
    let unknown : is_known (found c.args.t (get_or a.names i no_name)) ≡ false = rw (sym c.find.ensures, c.is_none.ensures, c.if-is_none.true) in
    let next = rw (new, unknown) at (judged-next c.args.t a.names a.count i (omega arith) (omega (arith, whole, c.requires))) in
    ap Err c.at-then-is_none.ensures ∙ sym next ∙ c.scan.invariant.1
