-- `wide_decimal::parts::lower` meets its contract. Beyond 400 zeros only the last bit is left. Assumes nothing.
use Prim.Native.Nat.{ℕ, ◌+◌, ◌*◌, ◌^◌, ◌≤◌, ◌<◌}
use mathlib.Core.Path.{◌≡◌, refl}
use mathlib.Core.Logic.{inl}
use native.Mathlib.Omega.{arith}
use lib.ListN.{length}
use Rattle.wide_decimal.specs.Limbs.{value, weight}
use Rattle.wide_decimal.specs.Near.{Near}
use Rattle.wide_decimal.proofs.Digits.{value-below}
use Rattle.wide_decimal.proofs.Powers.{ten_small, ten_pos}
use Rattle.wide_decimal.proofs.Zeros.{lower-next, lower-all}
use Rattle.wide_decimal.proofs.parts.lower.Goals as goal

pub loop-i-init : goal.loop-i-init
loop-i-init c = (omega arith, refl, inl (one (value c.args.low.now)), value-below c.args.low.now (λ i. omega (arith, c.type_inv.low i)))
  where
    one : (v : ℕ) → v * 10 ^ 0 ≡ v
    one v = omega arith

pub cut-requires : goal.cut-requires
cut-requires c =
    let n = c.min.result in
    let few : n ≤ 9 = omega (arith, c.min.ensures) in
    (omega (arith, c.ten_to.ensures, ten_pos n), omega (arith, c.ten_to.ensures, ten_small n few), omega (arith, c.requires.0, c.loop-i.invariant.1))

-- n zeros more
more : (v' v s i n w t : ℕ) → 0 < n → t ≡ 10 ^ n → Near v' t (0 * w + v) → Near v (10 ^ i) s → Near v' (10 ^ (i + n)) s
more v' v s i n w t p e x y = lower-next v' v s i n w p (rw e at x) y

pub loop-i-preserved : goal.loop-i-preserved
loop-i-preserved c =
    let l = c.loop-i in
    let n = c.min.result in
    let e : l.i + 9 ≡ l.i + n = omega (arith, c.min.ensures) in
    (omega arith, omega arith, rw e (more (value c.cut.new.a) (value l.low) (value c.args.low.now) l.i n (weight (length l.low)) c.ten_to.result (omega (arith, c.min.ensures)) c.ten_to.ensures c.cut.ensures l.invariant.2), l.invariant.3)

pub returns : goal.returns
returns c =
    let l = c.loop-i in
    let a = c.args.low.now in
    lower-all (value l.low) (value a) l.i c.args.zeros (length a) c.requires.1 l.invariant.3 (omega (arith, c.min-most.ensures)) l.invariant.2

pub returns-2 : goal.returns-2
returns-2 c =
    let l = c.loop-i in
    let a = c.args.low.now in
    let n = c.min.result in
    lower-all (value c.cut.new.a) (value a) (l.i + n) c.args.zeros (length a) c.requires.1 l.invariant.3 (omega (arith, c.min.ensures, c.min-most.ensures))
    (more (value c.cut.new.a) (value l.low) (value a) l.i n (weight (length l.low)) c.ten_to.result (omega (arith, c.min.ensures)) c.ten_to.ensures c.cut.ensures l.invariant.2)
