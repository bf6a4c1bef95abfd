use Rattle.std.specs.Prelude.{Err}
use Rattle.quant.specs.Refusal.{refuse}
use Prim.Native.Nat.{ℕ, suc, ◌+◌, ◌-◌, ◌/◌, ◌<◌}
use native.Mathlib.Omega.{arith}
use mathlib.Core.Path.{◌≡◌, refl, sym, ap, ◌∙◌}
use mathlib.Core.Bool.{Bool, true, false, cond}
use mathlib.Core.List.{List}
use lib.ListN.{length}
use lib.Ieee.{Float, eq, ne}
use Rattle.exact.specs.Doubles.{one}
use Rattle.quant.specs.declared.refusal.Refusal.TheVariants.{WrongA0}
use Rattle.quant.proofs.Judging.{taken, passed}
use Rattle.iir.specs.Section.{a0_at, a0s_from}
use Rattle.iir.proofs.biquad.a0s_judged.Goals as goal

-- one section more, with what is found of its a0
next : (l : List Float) (n k : ℕ) (right : Bool) → k < n → eq (a0_at l k) one ≡ right → a0s_from l (n - k) k ≡ cond right (a0s_from l (n - (k + 1)) (k + 1)) (refuse WrongA0 k)
unfolding a0s_from
next l n k right h e =
    let left : n - k ≡ suc (n - (k + 1)) = omega arith in
    let more : k + 1 ≡ suc k = omega arith in
    rw (left, e, more)

pub loop-k-init : goal.loop-k-init
loop-k-init c =
    let l = c.args.numbers.now in
    let e : length l / 6 - 0 ≡ length l / 6 = omega arith in
    rw e

pub loop-k-preserved : goal.loop-k-preserved
unfolding eq ne
loop-k-preserved c =
    let l = c.args.numbers.now in
    c.loop-k.invariant ∙ next l (length l / 6) c.loop-k.k true (omega arith) (passed (eq (a0_at l c.loop-k.k) one) (eq (a0_at l c.loop-k.k) one) refl c.if-numbers-k.false)

pub returns-then-numbers-k : goal.returns-then-numbers-k
unfolding eq ne
returns-then-numbers-k c =
    let l = c.args.numbers.now in
    ap Err c.at.ensures ∙ sym (c.loop-k.invariant ∙ next l (length l / 6) c.loop-k.k false (omega arith) (taken (eq (a0_at l c.loop-k.k) one) (eq (a0_at l c.loop-k.k) one) refl c.if-numbers-k.true))

pub returns : goal.returns
unfolding a0s_from
returns c =
    let l = c.args.numbers.now in
    let none : length l / 6 - c.loop-k.k ≡ 0 = omega arith in
    sym (c.loop-k.invariant ∙ ap (λ (n : ℕ). a0s_from l n c.loop-k.k) none)
