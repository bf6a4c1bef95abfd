-- `wide_decimal::parts::raise` meets its contract. Beyond 400 zeros nothing but 0 has fitted. Assumes nothing.
use Prim.Native.Nat.{ℕ, ◌+◌, ◌*◌, ◌^◌, ◌≤◌}
use mathlib.Core.Path.{◌≡◌, ◌∙◌}
use native.Mathlib.Omega.{arith}
use lib.ListN.{length}
use Rattle.wide_decimal.specs.Limbs.{value, weight}
use Rattle.wide_decimal.proofs.Zeros.{spills, fitting, spilling, none-over, ten_behind, zeros-more, all-zeros}
use Rattle.wide_decimal.proofs.parts.raise.Goals as goal

-- n zeros more
product : (v i n u x t : ℕ) → x ≡ u * t + 0 → u ≡ v * 10 ^ i → t ≡ 10 ^ n → x ≡ v * 10 ^ (i + n)
product v i n u x t e p q = e ∙ rw (p, q) (plain (v * 10 ^ i * 10 ^ n) ∙ ten_behind v i n)
  where
    plain : (z : ℕ) → z + 0 ≡ z
    plain z = omega arith

pub returns-then-times-ne0 : goal.returns-then-times-ne0
returns-then-times-ne0 c =
    let l = c.loop-i in
    let v = value c.args.high.now in
    let n = c.min.result in
    let p = product v l.i n _ _ _ c.times.ensures.0 l.invariant.2 c.ten_to.ensures in
    let over : weight (length c.args.high.now) ≤ v * 10 ^ (l.i + n) = rw (← l.invariant.1) (spills _ _ _ _ p c.if-times-ne0.true) in
    spilling _ _ _ (zeros-more v (l.i + n) c.args.zeros _ (omega (arith, c.min.ensures, c.min-most.ensures)) over)

pub loop-i-preserved : goal.loop-i-preserved
loop-i-preserved c =
    let l = c.loop-i in
    let n = c.min.result in
    let e : l.i + 9 ≡ l.i + n = omega (arith, c.min.ensures) in
    let p = product (value c.args.high.now) l.i n _ _ _ c.times.ensures.0 l.invariant.2 c.ten_to.ensures in
    (omega arith, omega arith, rw e (none-over _ _ _ c.if-times-ne0.false ∙ p), λ h. rw (← l.invariant.1) c.times.ensures.1)

pub returns : goal.returns
returns c =
    let l = c.loop-i in
    fitting _ _ _ (all-zeros (value c.args.high.now) (value l.high) l.i c.args.zeros (length c.args.high.now) c.requires l.invariant.2 (omega (arith, c.min-most.ensures)) l.invariant.3)

pub returns-else-times-ne0 : goal.returns-else-times-ne0
returns-else-times-ne0 c =
    let l = c.loop-i in
    let n = c.min.result in
    let p = product (value c.args.high.now) l.i n _ _ _ c.times.ensures.0 l.invariant.2 c.ten_to.ensures in
    fitting _ _ _ (all-zeros (value c.args.high.now) (value c.times.new.a) (l.i + n) c.args.zeros (length c.args.high.now) c.requires (none-over _ _ _ c.if-times-ne0.false ∙ p) (omega (arith, c.min.ensures, c.min-most.ensures)) (λ h. rw (← l.invariant.1) c.times.ensures.1))
