use Prim.Native.Nat.{◌+◌, ◌<◌}
use native.Mathlib.Omega.{arith}
use native.Mathlib.Numerals.{add-one}
use mathlib.Core.Path.{◌≡◌, refl}
use mathlib.Core.List.{[], ◌∷◌}
use borrow.Author.Tests.{not-true, not-false}
use lib.Ieee.{nan, ne}
use lib.ListN.{length, drop, get_or}
use lib.Seq.{drop-cons}
use Rattle.tables.proofs.Finding.{none_left, next-left}
use Rattle.exact.specs.Doubles.{nought}
use Rattle.tables.specs.Tables.{no_name}
use Rattle.merge.specs.Taking.{packed}
use Rattle.crosstalk.proofs.Sizes.{eight-names}
use Rattle.crosstalk.proofs.Pushing.{packed-none, turn-count, turn_end, turn-skip, turn-with}
use Rattle.crosstalk.proofs.parts.row_parts.Goals.{then-factor, else-factor}
use Rattle.crosstalk.proofs.parts.row_parts.Goals as goal

pub loop-k-init : goal.loop-k-init
loop-k-init c =
    let z = c.default-taking.ensures in
    let none : c.default-taking.result ≡ packed [] = packed-none _ z.0 z.1.0.long (λ i h. z.1.0.at i 0 h) z.1.1.long (λ i h. z.1.1.at i nought h) in
    record { done = []; is = none; few = omega arith; whole = refl }

pub with_part-taking-requires : goal.with_part-taking-requires
with_part-taking-requires c =
    let most = turn-count _ _ _ _ _ c.loop-k.invariant in
    omega (arith, c.requires.count_bound, c.requires.row_len)

pub loop-k-preserved : goal.loop-k-preserved
unfolding ne
loop-k-preserved c =
    let a = c.args in
    let row = c.args.row.now in
    let at = c.loop-k in
    let whole = eight-names a.c _ c.well_formed.1.0 in
    let there : at.k < length row = omega arith in
    let named = next-left a.c.names a.c.count at.k no_name (omega (arith, c.requires.row_len)) (omega (arith, whole, c.requires.count_bound, c.requires.row_len)) in
    let on : drop at.k row ≡ get_or row at.k nan ∷ drop (at.k + 1) row = rw (add-one at.k) (drop-cons row at.k nan there) in
    elim c.if-factor.branch [
      | then-factor w ↦
          rw (w.taking-is, w.with_part-taking.ensures, w.find.ensures)
          (turn-with a.t _ row at.k at.taking _ _ named on (omega (arith, c.requires.count_bound, c.requires.row_len)) (not-true _ w.if-factor.true) at.invariant)
      | else-factor w ↦ rw w.taking-is (turn-skip a.t _ row at.k at.taking _ _ named on (not-false _ w.if-factor.false) at.invariant)
    ]

pub returns : goal.returns
returns c =
    turn_end _ _ _ _ _ (none_left c.args.c.names c.args.c.count c.loop-k.k (omega (arith, c.requires.row_len))) c.loop-k.invariant
