-- `wide_decimal::parts::behind` meets its contract. Assumes nothing.
use Prim.Native.Nat.{ℕ, ◌+◌, ◌-◌, ◌*◌, ◌^◌, ◌<◌}
use mathlib.Core.Path.{◌≡◌, refl, ap}
use native.Mathlib.Omega.{arith}
use lib.ListN.{length, take, drop}
use Rattle.wide_decimal.specs.Figures.{worth, without}
use Rattle.wide_decimal.specs.Limbs.{value, weight}
use Rattle.wide_decimal.specs.Near.{Near}
use Rattle.wide_decimal.proofs.Powers.{ten_small, weight-even}
use Rattle.wide_decimal.proofs.Worth.{group-most}
use Rattle.wide_decimal.proofs.Zeros.{behind-none, behind-next}
use Rattle.wide_decimal.proofs.parts.behind.Goals as goal

pub loop-i-init : goal.loop-i-init
loop-i-init c =
    let n = c.count-i.ensures in
    (omega (arith, c.requires.2, n), omega (arith, n), refl, behind-none (without c.args.point c.args.text.now) c.count-i.result (weight (length c.args.low.now)) (value c.args.low.now) n c.requires.0)

pub cut-requires : goal.cut-requires
cut-requires c =
    let l = c.loop-i in
    let n = c.min-n.result in
    let s = ten_small n (omega (arith, c.min-n.ensures)) in
    let g = group-most (without c.args.point c.args.text.now) (l.i - n) n (omega (arith, c.min-n.ensures, l.invariant.1)) in
    (omega (arith, c.ten_to.ensures, c.group.ensures), omega (arith, c.ten_to.ensures), omega (arith, c.requires.1, l.invariant.2))

named : (v m c w v' p g x : ℕ) → m ≡ p → c ≡ g → w ≡ x → Near v' m (c * w + v) → Near v' p (g * x + v)
named v m c w v' p g x e f h t = rw (← e, ← f, ← h) t

pub loop-i-preserved : goal.loop-i-preserved
loop-i-preserved c =
    let l = c.loop-i in
    let a = without c.args.point c.args.text.now in
    let n = c.min-n.result in
    let w = weight (length c.args.low.now) in
    let e : l.i - n + n ≡ l.i = omega (arith, c.min-n.ensures) in
    let s : 0 < n = omega (arith, c.min-n.ensures) in
    let t : Near (value c.cut.new.a) (10 ^ n) (worth (take n (drop (l.i - n) a)) * w + value l.low) = named (value l.low) _ _ _ (value c.cut.new.a) _ _ _ c.ten_to.ensures c.group.ensures (ap weight l.invariant.2) c.cut.ensures in (
      omega (arith, c.min-n.ensures),
      omega (arith, l.invariant.1),
      omega arith,
      behind-next a (l.i - n) n w (value l.low) (value c.cut.new.a) s (omega (arith, l.invariant.1)) (weight-even (length c.args.low.now) c.requires.1) t (rw e l.invariant.3),
    )
