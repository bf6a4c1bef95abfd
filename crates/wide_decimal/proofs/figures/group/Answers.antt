-- `wide_decimal::figures::group` meets its contract. Assumes nothing.
use Prim.Native.Nat.{ℕ, suc, ◌+◌, ◌-◌, ◌*◌, ◌^◌, ◌≤◌, ◌<◌}
use mathlib.Core.Path.{◌≡◌, refl, ap}
use mathlib.Core.List.{List}
use native.Mathlib.Nat.{pow-le-pow_right}
use native.Mathlib.Omega.{arith}
use lib.Dec.{lit<}
use lib.ListN.{length, get_or, take, drop, length-drop}
use lib.Seq.{get_or-drop}
use Rattle.wide_decimal.specs.Figures.{figure_of, worth_from, worth, without}
use Rattle.wide_decimal.proofs.Texts.{at_most}
use Rattle.wide_decimal.proofs.Worth.{figure_most, worth-next, group-most}
use Rattle.wide_decimal.proofs.figures.group.Goals as goal

pub overflow_add-i-end : goal.overflow_add-i-end
overflow_add-i-end c = omega (arith, c.requires.1, at_most c.args.point c.args.text.now, c.well_formed.0.0)

pub loop-i-init : goal.loop-i-init
unfolding worth_from
loop-i-init c = rw (none c.args.k) refl
  where
    none : (k : ℕ) → k - k ≡ 0
    none k = omega arith

-- what is gone through is small
small : (a : List ℕ) (k i n all : ℕ) → n ≤ 9 → k + n ≤ length a → i < k + n → k ≤ i → all ≡ worth (take (i - k) (drop k a)) → all < 10 ^ 9
small a k i n all h f l b e =
    let most : 10 ^ (i - k) ≤ 10 ^ 9 = pow-le-pow_right (lit< tt) {j = 9} (omega arith) in
    omega (arith, group-most a k (i - k) (omega arith), most)

pub overflow_mul-all : goal.overflow_mul-all
overflow_mul-all c = let s = small (without c.args.point c.args.text.now) c.args.k c.loop-i.i c.args.n c.loop-i.all c.requires.0 c.requires.1 c.loop-i-test.true c.loop-i.auto.i c.loop-i.invariant in omega arith

pub overflow_add-all : goal.overflow_add-all
overflow_add-all c =
    let a = without c.args.point c.args.text.now in
    let s = small a c.args.k c.loop-i.i c.args.n c.loop-i.all c.requires.0 c.requires.1 c.loop-i-test.true c.loop-i.auto.i c.loop-i.invariant in
    let f = figure_most (get_or a c.loop-i.i 0) in
    omega (arith, c.figure.ensures)

pub loop-i-preserved : goal.loop-i-preserved
loop-i-preserved c =
    let l = c.loop-i in
    let k = c.args.k in
    let a = without c.args.point c.args.text.now in
    let rest : l.i - k < length (drop k a) = rw (length-drop k a) (omega (arith, c.requires.1)) in
    let next : l.i + 1 - k ≡ suc (l.i - k) = omega arith in
    let at : k + (l.i - k) ≡ l.i = omega arith in
    rw (next, c.figure.ensures, worth-next (drop k a) (l.i - k) rest, get_or-drop k a (l.i - k) 0, at) (ap (λ (x : ℕ). x * 10 + figure_of (get_or a l.i 0)) l.invariant)
