-- `fma::combine` meets its contract: sums, differences and orders of x and of what stands for y are those of the exact numbers, so each way goes as `sum` does. Assumes nothing.
use Rattle.std.proofs.Common.{◌≡◌, ℕ, ◌+◌, ◌-◌, ◌*◌, ◌%◌, ◌^◌, ◌<◌, ◌≤◌, Bool, true, false, not, T, ltb, sym, refl, ◌∙◌, subst, le_trans, lt_of_lt_of_le, le-add_right, le_of_lt, mul-le-mul_right, le_antisymm, arith, lit<, ltb→lt, nltb→le, pow_mono, rules}
use lib.Arith.{digits_lt}
use lib.Ieee.{binary64, round, of_bits}
use Rattle.exact.proofs.Sum.{sum_like, sum_first, sum-second, sum-none}
use Rattle.fma.specs.Words.{words}
use Rattle.fma.specs.Sticky.{Whole}
use Rattle.fma.proofs.StickyBit.{lt-of-sticky}
use Rattle.fma.proofs.Words.{upper_lt}
use Rattle.fma.proofs.Aligning.{whole_sum, whole-up, whole-down, order-up, order-down, order_same}
use Rattle.fma.proofs.combine.Statement.{statement}
use Rattle.fma.proofs.combine.Tie as tie

low : (h l : ℕ) → 2 ^ 60 ≤ h → 2 ^ 124 ≤ words h l
low h l k = le_trans (mul-le-mul_right (2 ^ 64) k) (le-add_right (h * 2 ^ 64) l)

high : (h l : ℕ) → h < 2 ^ 63 → l < 2 ^ 64 → words h l < 2 ^ 127
high h l k m = digits_lt {q = h} {m = 2 ^ 63} {r = l} {c = 2 ^ 64} k m

above : (n : ℕ) → 2 ^ 124 ≤ n → 0 < n
above n h = lt_of_lt_of_le (lit< tt) h

-- ---- x, y, and the j that stands for y / 2 ^ d
module _ (a : tie.After-wide-j) where
  abbrev s : tie.Start
  s = a.before

  abbrev e : ℕ
  e = s.args.e

  abbrev d : ℕ
  d = s.args.d

  abbrev x : ℕ
  x = words s.args.xh s.args.xl

  abbrev y : ℕ
  y = words s.args.yh s.args.yl

  abbrev j : ℕ
  j = words a.wide-j.result.hi a.wide-j.result.lo

  even : x % 2 ≡ 0
  even = by s.args.xh s.args.xl s.requires.x-even
    where
      by : (h l : ℕ) → l % 2 ≡ 0 → words h l % 2 ≡ 0
      by h l e = omega arith

  clear : y % 2 ^ 20 ≡ 0
  clear = by s.args.yh s.args.yl s.requires.y-clear
    where
      by : (h l : ℕ) → l % 2 ^ 20 ≡ 0 → words h l % 2 ^ 20 ≡ 0
      by h l e = omega arith

  x-low : 2 ^ 124 ≤ x
  x-low = low s.args.xh s.args.xl s.requires.x-low

  y-high : y < 2 ^ 127
  y-high = high s.args.yh s.args.yl s.requires.y-high s.ranges.yl.fits

  j-high : a.wide-j.result.hi < 2 ^ 63
  j-high = upper_lt a.wide-j.result.hi a.wide-j.result.lo (2 ^ 64) (2 ^ 63) (lt-of-sticky j y d 127 (lit< tt) (lt_of_lt_of_le y-high (pow_mono (le-add_right 127 d))) a.wide-j.ensures)

  -- the facts of `Aligning`, here
  sum-whole : Whole (x + j) e (x * 2 ^ e + y * 2 ^ (e - d))
  sum-whole = whole_sum x y j e d even a.wide-j.ensures s.requires.within x-low y-high clear

  up-whole : x < j → Whole (j - x) e (y * 2 ^ (e - d) - x * 2 ^ e)
  up-whole = whole-up x y j e d even a.wide-j.ensures s.requires.within x-low y-high clear

  down-whole : j < x → Whole (x - j) e (x * 2 ^ e - y * 2 ^ (e - d))
  down-whole = whole-down x y j e d even a.wide-j.ensures s.requires.within x-low y-high clear

  up-order : x < j → x * 2 ^ e < y * 2 ^ (e - d)
  up-order = order-up x y j e d even a.wide-j.ensures s.requires.within x-low y-high clear

  down-order : j < x → y * 2 ^ (e - d) < x * 2 ^ e
  down-order = order-down x y j e d even a.wide-j.ensures s.requires.within x-low y-high clear

  same-order : x ≡ j → x * 2 ^ e ≡ y * 2 ^ (e - d)
  same-order = order_same x y j e d even a.wide-j.ensures s.requires.within x-low y-high clear

-- ---- what a test by `less` says
yes : (r : Bool) (m n : ℕ) → r ≡ ltb m n → r ≡ true → m < n
yes r m n e t = ltb→lt m n (subst T e (subst T (sym t) tt))

not_yes : (r : Bool) (m n : ℕ) → r ≡ ltb m n → r ≡ false → n ≤ m
not_yes r m n e f = nltb→le m n (subst (λ (b : Bool). T (not b)) e (subst (λ (b : Bool). T (not b)) (sym f) tt))

less_by : (m n : ℕ) → n < m → 0 < m - n
less_by m n h = omega arith

zero_is : of_bits binary64 0 ≡ round binary64 false 0 (2 ^ 2272)
unfolding of_bits round
zero_is = refl

wide-requires : tie.Need-wide-j-requires
wide-requires c κs = above (words c.args.yh c.args.yl) (low c.args.yh c.args.yl c.requires.y-low)

add-requires : tie.Need-add-w-requires
add-requires c κs = let a = c.before in ((s a).requires.x-high, j-high a)

finish-requires : tie.Need-finish-requires
finish-requires c κs =
    let a = c.before.before in
    (subst (λ (n : ℕ). 0 < n) (sym c.add-w.ensures) (lt_of_lt_of_le (above (x a) (x-low a)) (le-add_right (x a) (j a))), (s a).requires.e-low, (s a).requires.e-high)

returns : tie.Need-returns-then-nx-ny
returns c =
    let a = c.before.before.before in
    let g = (s a).args in
    let X = x a * 2 ^ e a in
    let Y = y a * 2 ^ (e a - d a) in
    c.finish.ensures (X + Y) (subst (λ (n : ℕ). Whole n (e a) (X + Y)) (sym c.add-w.ensures) (sum-whole a))
    ∙ sym (sum_like binary64 g.nx g.ny X Y (2 ^ 2272) c.if-nx-ny.true)

less-requires : tie.Need-less-requires
less-requires c κs = search rules

-- j < x
down_is : (c : tie.Then-less) → j c.before.before.before < x c.before.before.before
down_is c = let l = c.less in let a = c.before.before.before in yes l.result (j a) (x a) l.ensures c.if-less.true

sub-requires : tie.Need-sub-w-requires
sub-requires c κs = le_of_lt (down_is c)

finish-requires-2 : tie.Need-finish-requires-then-less
finish-requires-2 c κs =
    let a = c.before.before.before.before in
    (subst (λ (n : ℕ). 0 < n) (sym c.sub-w.ensures) (less_by (x a) (j a) (down_is c.before)), (s a).requires.e-low, (s a).requires.e-high)

returns-2 : tie.Need-returns-then-less
returns-2 c =
    let a = c.before.before.before.before.before in
    let g = (s a).args in
    let X = x a * 2 ^ e a in
    let Y = y a * 2 ^ (e a - d a) in
    let h = down_is c.before.before in
    c.finish-then-less.ensures (X - Y) (subst (λ (n : ℕ). Whole n (e a) (X - Y)) (sym c.sub-w.ensures) (down-whole a h))
    ∙ sym (sum_first binary64 g.nx g.ny X Y (2 ^ 2272) c.if-nx-ny.false (down-order a h))

less-requires-2 : tie.Need-less-requires-2
less-requires-2 c κs = search rules

-- x < j
up_is : (c : tie.Then-less-2) → x c.before.before.before.before.before < j c.before.before.before.before.before
up_is c = let l = c.less-2 in let a = c.before.before.before.before.before in yes l.result (x a) (j a) l.ensures c.if-less-2.true

sub-requires-2 : tie.Need-sub-w-requires-then-less-2
sub-requires-2 c κs = le_of_lt (up_is c)

finish-requires-3 : tie.Need-finish-requires-then-less-2
finish-requires-3 c κs =
    let a = c.before.before.before.before.before.before in
    (subst (λ (n : ℕ). 0 < n) (sym c.sub-w-then-less-2.ensures) (less_by (j a) (x a) (up_is c.before)), (s a).requires.e-low, (s a).requires.e-high)

returns-3 : tie.Need-returns-then-less-2
returns-3 c =
    let a = c.before.before.before.before.before.before.before in
    let g = (s a).args in
    let X = x a * 2 ^ e a in
    let Y = y a * 2 ^ (e a - d a) in
    let h = up_is c.before.before in
    c.finish-then-less-2.ensures (Y - X) (subst (λ (n : ℕ). Whole n (e a) (Y - X)) (sym c.sub-w-then-less-2.ensures) (up-whole a h))
    ∙ sym (sum-second binary64 g.nx g.ny X Y (2 ^ 2272) c.if-nx-ny.false (up-order a h))

returns-4 : tie.Need-returns
returns-4 c =
    let a = c.before.before.before.before.before in
    let g = (s a).args in
    let l = c.less in
    let m = c.less-2 in
    let h : x a ≡ j a = le_antisymm (not_yes l.result (j a) (x a) l.ensures c.if-less.false) (not_yes m.result (x a) (j a) m.ensures c.if-less-2.false) in
    zero_is
    ∙ sym (sum-none binary64 g.nx g.ny (x a * 2 ^ e a) (y a * 2 ^ (e a - d a)) (2 ^ 2272) c.if-nx-ny.false (same-order a h))

pub combine_spec : {M : Type 1} → statement M
combine_spec =
    tie.close
    (tie.spec
    wide-requires
    add-requires
    finish-requires
    returns
    less-requires
    sub-requires
    finish-requires-2
    returns-2
    less-requires-2
    sub-requires-2
    finish-requires-3
    returns-3
    returns-4)
