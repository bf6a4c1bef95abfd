-- `wide_decimal::parts::before` meets its contract. Assumes nothing.
use Prim.Native.Nat.{ℕ, ◌+◌, ◌*◌, ◌^◌, ◌≤◌}
use mathlib.Core.Path.{◌≡◌, refl, sym, ◌∙◌}
use mathlib.Core.List.{List}
use native.Mathlib.Omega.{arith}
use native.Mathlib.Nat.{le_trans}
use lib.ListN.{length, take, drop}
use Rattle.wide_decimal.specs.Figures.{worth_from, worth, without}
use Rattle.wide_decimal.specs.Limbs.{weight}
use Rattle.wide_decimal.proofs.Powers.{ten_small}
use Rattle.wide_decimal.proofs.Worth.{group-most, worth-upto}
use Rattle.wide_decimal.proofs.Zeros.{worth-grows, spills, fitting, spilling, none-over}
use Rattle.wide_decimal.proofs.parts.before.Goals as goal

-- n figures more
product : (a : List ℕ) (i n v x t g : ℕ) → i + n ≤ length a → x ≡ v * t + g → v ≡ worth (take i a) → t ≡ 10 ^ n → g ≡ worth (take n (drop i a)) → x ≡ worth (take (i + n) a)
product a i n v x t g fit e p q r = e ∙ rw (p, q, r) (sym (worth-upto a i n fit))

pub loop-i-init : goal.loop-i-init
unfolding worth_from
loop-i-init c = (omega arith, refl, c.requires.0)

pub times-requires : goal.times-requires
times-requires c =
    let n = c.min-n.result in
    let a = without c.args.point c.args.text.now in
    let s = ten_small n (omega (arith, c.min-n.ensures)) in
    let g = group-most a c.loop-i.i n (omega (arith, c.min-n.ensures, c.requires.1)) in
    (omega (arith, c.ten_to.ensures), omega (arith, c.group.ensures))

pub returns-then-times-ne0 : goal.returns-then-times-ne0
returns-then-times-ne0 c =
    let l = c.loop-i in
    let a = without c.args.point c.args.text.now in
    let n = c.min-n.result in
    let p = product a l.i n _ _ _ _ (omega (arith, c.min-n.ensures, c.requires.1)) c.times.ensures.0 l.invariant.2 c.ten_to.ensures c.group.ensures in
    let over : weight (length c.args.high.now) ≤ worth (take (l.i + n) a) = rw (← l.invariant.1) (spills _ _ _ _ p c.if-times-ne0.true) in
    spilling _ _ _ (le_trans over (worth-grows a (l.i + n) c.args.first (omega (arith, c.min-n.ensures)) c.requires.1))

pub loop-i-preserved : goal.loop-i-preserved
loop-i-preserved c =
    let l = c.loop-i in
    let n = c.min-n.result in
    let e : l.i + 9 ≡ l.i + n = omega (arith, c.min-n.ensures) in
    let p = product (without c.args.point c.args.text.now) l.i n _ _ _ _ (omega (arith, c.min-n.ensures, c.requires.1)) c.times.ensures.0 l.invariant.2 c.ten_to.ensures c.group.ensures in
    (omega arith, omega arith, rw e (none-over _ _ _ c.if-times-ne0.false ∙ p))

pub returns-else-times-ne0 : goal.returns-else-times-ne0
returns-else-times-ne0 c =
    let l = c.loop-i in
    let n = c.min-n.result in
    let e : c.args.first ≡ l.i + n = omega (arith, c.min-n.ensures) in
    let p = product (without c.args.point c.args.text.now) l.i n _ _ _ _ (omega (arith, c.min-n.ensures, c.requires.1)) c.times.ensures.0 l.invariant.2 c.ten_to.ensures c.group.ensures in
    fitting _ _ _ (rw e (none-over _ _ _ c.if-times-ne0.false ∙ p))
