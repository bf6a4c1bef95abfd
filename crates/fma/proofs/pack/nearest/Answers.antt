-- `fma::pack::nearest` meets its contract: shifted to quarters with a sticky last bit, and those rounded; where s is 66 or more, less than a half is left. Assumes nothing.
use Rattle.std.proofs.Common.{◌≡◌, ℕ, ◌+◌, ◌-◌, ◌^◌, ◌<◌, ◌≤◌, sym, refl, ap, ◌∙◌, subst, lt_of_lt_of_le, arith, lit<, lit≤, pow_mono}
use lib.Ieee.Nearest.{closest}
use Rattle.fma.specs.Sticky.{Sticky}
use Rattle.fma.specs.Pack.{quarter, Nearest}
use Rattle.fma.proofs.StickyBit.{sticky-via, sticky-one, lt-of-sticky}
use Rattle.fma.proofs.Quarters.{sticky-rounds}
use Rattle.fma.proofs.pack.nearest.Goals as goal

quarters-lt : (n m s : ℕ) → n < 2 ^ 64 → 11 ≤ s → Sticky m (s - 2) n → m < 2 ^ 55
quarters-lt n m s N h v = lt-of-sticky m n (s - 2) 55 (lit< tt) (lt_of_lt_of_le N (pow_mono (sum s h))) v
  where
    sum : (s : ℕ) → 11 ≤ s → 64 ≤ 55 + (s - 2)
    sum s h = omega arith

by-quarters : (n m s r : ℕ) → n < 2 ^ 64 → 11 ≤ s → Sticky m (s - 2) n → r ≡ quarter m → Nearest r n s
by-quarters n m s r N h v e =
    record {
      small = subst (λ (x : ℕ). x ≤ 2 ^ 53) (sym e) (few m (quarters-lt n m s N h v));
      is = λ j t w. e ∙ sym (sticky-rounds m (s - 2 + j) t (sticky-via m n t (s - 2) j v w)) ∙ ap (λ (x : ℕ). closest t (2 ^ x)) (sum s j h);
    }
  where
    few : (m : ℕ) → m < 2 ^ 55 → quarter m ≤ 2 ^ 53
    few m h = omega arith

    sum : (s j : ℕ) → 11 ≤ s → s - 2 + j + 2 ≡ s + j
    sum s j h = omega arith

pub quarters-requires : goal.quarters-requires
quarters-requires c =
    lt_of_lt_of_le (quarters-lt c.args.n c.word-m.result c.args.s c.ranges.n.fits c.requires.1 c.word-m.ensures) (lit≤ tt)

pub returns-then-s-lt66 : goal.returns-then-s-lt66
returns-then-s-lt66 c =
    let w = c.word-m in
    by-quarters c.args.n w.result c.args.s c.quarters.result c.ranges.n.fits c.requires.1 w.ensures c.quarters.ensures

pub returns-else-s-lt66 : goal.returns-else-s-lt66
returns-else-s-lt66 c =
    let n = c.args.n in
    by-quarters n 1 c.args.s 0 c.ranges.n.fits c.requires.1 (sticky-one n (c.args.s - 2) c.requires.0 (lt_of_lt_of_le c.ranges.n.fits (pow_mono (two c.args.s c.if-s-lt66.false)))) refl
  where
    two : (c : ℕ) → 66 ≤ c → 64 ≤ c - 2
    two c h = omega arith
