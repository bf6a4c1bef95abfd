-- `fma::mul_add` meets its contract: where something is not finite, nothing is rounded. Assumes nothing.
use Rattle.std.proofs.Common.{◌≡◌, Bool, true, false, T, sym, ◌∙◌, subst}
use lib.Ieee.Scale.{finite}
use Rattle.fma.proofs.Fusing.{first_wild, second_wild, third_wild}
use Rattle.fma.proofs.mul_add.Goals as goal

yes : (r b : Bool) → r ≡ b → r ≡ true → T b
yes r b e t = subst T (sym t ∙ e) tt

is-not : (r b : Bool) → r ≡ b → r ≡ false → false ≡ b
is-not r b e t = sym t ∙ e

pub returns-then-is_finite-2 : goal.returns-then-is_finite-2
returns-then-is_finite-2 c =
    let a = c.args in
    let f = c.is_finite-then-is_finite-2 in
    third_wild a.a a.b a.c ((let it : T (finite c.args.a) = let f = c.is_finite in yes f.result (finite c.args.a) f.ensures c.if-is_finite.true in it)) ((let it : T (finite c.args.b) = let f = c.is_finite-then-is_finite in yes f.result (finite c.args.b) f.ensures c.if-is_finite-2.true in it)) (is-not f.result (finite a.c) f.ensures c.if-is_finite-3.false)

pub returns-then-is_finite : goal.returns-then-is_finite
returns-then-is_finite c =
    let a = c.args in
    let f = c.is_finite-then-is_finite in
    second_wild a.a a.b a.c ((let it : T (finite c.args.a) = let f = c.is_finite in yes f.result (finite c.args.a) f.ensures c.if-is_finite.true in it)) (is-not f.result (finite a.b) f.ensures c.if-is_finite-2.false)

pub returns : goal.returns
returns c =
    let a = c.args in
    let f = c.is_finite in
    first_wild a.a a.b a.c (is-not f.result (finite a.a) f.ensures c.if-is_finite.false)
