use Rattle.std.proofs.Common.{◌≡◌, ◌+◌, ◌-◌, Bool, sym, refl, ◌∙◌, arith}
use lib.Ieee.{Float, binary64, sub}
use lib.Ieee.Scale.{finite}
use Rattle.spline.specs.Walk.{wide_round, wide_rounds}
use Rattle.spline.proofs.Wide.{round-more, rounds-more, not_wide}
use Rattle.spline.proofs.row.Spline.all_wide.Goals as goal

tested : (a b u v : Float) {t s : Bool} → u ≡ a → v ≡ b → t ≡ finite (sub binary64 u v) → t ≡ s → finite (sub binary64 a b) ≡ s
tested a b u v e f g h = cc

pub loop-r-init : goal.loop-r-init
unfolding wide_rounds
loop-r-init c = refl

pub loop-j-init : goal.loop-j-init
unfolding wide_round
loop-j-init c =
    let start : c.loop-r.r + 1 - 1 - c.loop-r.r ≡ 0 = omega arith in
    rw start

pub returns-then-not-is_finite : goal.returns-then-not-is_finite
returns-then-not-is_finite c =
    let s = c.args.self.now in
    let wide = tested _ _ _ _ c.knot.ensures c.knot-in-loop-j.ensures c.is_finite.ensures c.if-not-is_finite.true in
    sym (not_wide s.row.now s.degree c.args.k c.loop-r.r c.loop-j.j (omega arith) (omega arith) c.loop-r.invariant c.loop-j.invariant wide)

pub loop-j-preserved : goal.loop-j-preserved
loop-j-preserved c =
    let s = c.args.self.now in
    let wide = tested _ _ _ _ c.knot.ensures c.knot-in-loop-j.ensures c.is_finite.ensures c.if-not-is_finite.false in
    let last : c.loop-j.j + 1 - 1 - c.loop-r.r ≡ c.loop-j.j - c.loop-r.r = omega arith in
    rw last (round-more s.row.now s.degree c.args.k c.loop-r.r c.loop-j.j (omega arith) c.loop-j.invariant ∙ wide)

pub loop-r-preserved : goal.loop-r-preserved
loop-r-preserved c =
    let s = c.args.self.now in
    let all : s.degree - c.loop-r.r ≡ c.loop-j.j - 1 - c.loop-r.r = omega arith in
    rounds-more s.row.now s.degree c.args.k c.loop-r.r c.loop-r.invariant ∙ rw all c.loop-j.invariant
