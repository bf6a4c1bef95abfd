-- `fma::general` meets its contract: over 2 ^ 2272 the product and the addend are what the code hands to `combine`, in one order or the other. Assumes nothing.
use Rattle.std.proofs.Common.{◌≡◌, ℕ, ◌+◌, ◌*◌, ◌/◌, ◌%◌, ◌^◌, ◌<◌, ◌≤◌, Bool, T, leb, sym, refl, ap, ◌∙◌, subst, le_trans, le_of_eq, lt_of_le_of_lt, add-zero, le_of_lt, mul-le-mul, arith, lit<, lit≤, pow_pos, pow-add, rules}
use native.Mathlib.Nat.{mul-mul-mul_comm, mul-mod_left}
use lib.Arith.{sub-sub_self}
use lib.Ieee.{Float, binary64, unlike, sum, fits, to_bits}
use lib.Ieee.Bits.{of_bits-to_bits}
use lib.Ieee.Exact.{HasValue}
use Rattle.exact.proofs.Sum.{sum_comm}
use Rattle.fma.specs.Words.{words}
use Rattle.fma.specs.Fused.{fma}
use Rattle.fma.specs.Significand.{Significand}
use Rattle.fma.proofs.Words.{upper_lt, upper-le}
use Rattle.fma.proofs.Fusing.{fma-at, not-nan, bits_range}
use Rattle.fma.proofs.general.Statement.{statement}
use Rattle.fma.proofs.general.Tie as tie

-- ---- the product of two significands, by its words
record Product (h l : ℕ) : Type 0 where
  low : 2 ^ 60 ≤ h
  high : h < 2 ^ 63
  clear : l % 2 ^ 20 ≡ 0

product_is : (h l m n b d e f : ℕ) → words h l ≡ m * n → l < 2 ^ 64 → Significand m e b → Significand n f d → Product h l
product_is h l m n b d e f w L u v =
    record {
      low = upper-le h l (2 ^ 60) 0 (2 ^ 64) (le_trans (le_of_eq (add-zero (2 ^ 60 * 2 ^ 64))) (le_trans (mul-le-mul u.low v.low) (le_of_eq (sym w)))) L;
      high = upper_lt h l (2 ^ 64) (2 ^ 63) (lt_of_le_of_lt (le_of_eq w) (lt_of_le_of_lt (mul-le-mul (le_of_lt u.high) (le_of_lt v.high)) (lit< tt)));
      clear = last h l (ap (λ (x : ℕ). x % 2 ^ 20) w ∙ twenty m n u.clear v.clear);
    }
  where
    last : (h l : ℕ) → words h l % 2 ^ 20 ≡ 0 → l % 2 ^ 20 ≡ 0
    last h l e = omega arith

    tens : (x : ℕ) → x % 2 ^ 10 ≡ 0 → x ≡ x / 2 ^ 10 * 2 ^ 10
    tens x h = omega arith

    twenty : (m n : ℕ) → m % 2 ^ 10 ≡ 0 → n % 2 ^ 10 ≡ 0 → m * n % 2 ^ 20 ≡ 0
    twenty m n a b =
        ap (λ (x : ℕ). x % 2 ^ 20) ((λ i. tens m a i * tens n b i) ∙ mul-mul-mul_comm (m / 2 ^ 10) (2 ^ 10) (n / 2 ^ 10) (2 ^ 10))
        ∙ mul-mod_left (m / 2 ^ 10 * (n / 2 ^ 10)) (2 ^ 20)

-- ---- over 2 ^ 2272
meets : (x y z : Float) (s t u : Bool) (m e n f o g h l : ℕ) → HasValue x s (m * 2 ^ e) (2 ^ 1136) → HasValue y t (n * 2 ^ f) (2 ^ 1136) → HasValue z u (o * 2 ^ g) (2 ^ 1136) → words h l ≡ m * n
    → sum binary64 (unlike s t) (words h l * 2 ^ (e + f)) u (words o 0 * 2 ^ (g + 1072)) (2 ^ 2272) ≡ fma binary64 x y z
meets x y z s t u m e n f o g h l v w q p =
    (λ i. sum binary64 (unlike s t) (first i) u (second i) (2 ^ 2272))
    ∙ sym (fma-at x y z s t u (m * 2 ^ e) (n * 2 ^ f) (o * 2 ^ g) (2 ^ 1136) (pow_pos 1136) v w q)
  where
    first : words h l * 2 ^ (e + f) ≡ m * 2 ^ e * (n * 2 ^ f)
    first = (λ i. p i * pow-add 2 e f i) ∙ mul-mul-mul_comm m n (2 ^ e) (2 ^ f)

    second : words o 0 * 2 ^ (g + 1072) ≡ o * 2 ^ g * 2 ^ 1136
    second = (λ i. add-zero (o * 2 ^ 64) i * pow-add 2 g 1072 i) ∙ mul-mul-mul_comm o (2 ^ 64) (2 ^ g) (2 ^ 1072) ∙ ap (λ (x : ℕ). o * 2 ^ g * x) (sym (pow-add 2 64 1072))

-- ---- the three doubles
held-a : (c : tie.Start) → T (fits binary64 c.args.a)
held-a c = subst T (sym c.well_formed.0.1) tt

held-b : (c : tie.Start) → T (fits binary64 c.args.b)
held-b c = subst T (sym c.well_formed.1.0.1) tt

held-c : (c : tie.Start) → T (fits binary64 c.args.c)
held-c c = subst T (sym c.well_formed.1.1.0.1) tt

negative : Float → Bool
negative x = leb (2 ^ 63) (to_bits binary64 x)

own : (x : Float) (m e : ℕ) → T (fits binary64 x) → Significand m e (to_bits binary64 x) → HasValue x (negative x) (m * 2 ^ e) (2 ^ 1136)
unfolding negative
own x m e f s = subst (λ (y : Float). HasValue y (leb (2 ^ 63) (to_bits binary64 x)) (m * 2 ^ e) (2 ^ 1136)) (of_bits-to_bits binary64 x f) s.value

-- ---- once the product is there
module _ (p : tie.After-product-p) where
  abbrev start : tie.Start
  start = p.before.before.before.before

  abbrev hi : ℕ
  hi = p.product-p.result.hi

  abbrev lo : ℕ
  lo = p.product-p.result.lo

  abbrev ep : ℕ
  ep = p.significand-x.result.e + p.significand-y.result.e

  abbrev mz : ℕ
  mz = p.significand-z.result.m

  abbrev ez : ℕ
  ez = p.significand-z.result.e + 1072

  product : Product hi lo
  product =
      let x = p.significand-x in
      let y = p.significand-y in
      product_is hi lo x.result.m y.result.m (to_bits binary64 start.args.a) (to_bits binary64 start.args.b) x.result.e y.result.e p.product-p.ensures.0 p.product-p.ensures.1 x.ensures y.ensures

  whole : sum binary64 (unlike (leb (2 ^ 63) (to_bits binary64 start.args.a)) (leb (2 ^ 63) (to_bits binary64 start.args.b))) (words hi lo * 2 ^ ep) (leb (2 ^ 63) (to_bits binary64 start.args.c)) (words mz 0 * 2 ^ ez) (2 ^ 2272) ≡ fma binary64 start.args.a start.args.b start.args.c
  unfolding negative
  whole =
      let a = start.args in
      let x = p.significand-x in
      let y = p.significand-y in
      let z = p.significand-z in
      meets a.a a.b a.c (negative a.a) (negative a.b) (negative a.c) x.result.m x.result.e y.result.m y.result.e z.result.m z.result.e hi lo
      (own a.a x.result.m x.result.e (held-a start) x.ensures)
      (own a.b y.result.m y.result.e (held-b start) y.ensures)
      (own a.c z.result.m z.result.e (held-c start) z.ensures)
      p.product-p.ensures.0

float-to-bits-i : tie.Need-float_to_bits-i
float-to-bits-i c = not-nan c.args.a c.requires.0

float-to-bits-j : tie.Need-float_to_bits-j
float-to-bits-j c = not-nan c.args.b c.requires.1

float-to-bits-k : tie.Need-float_to_bits-k
float-to-bits-k c = not-nan c.args.c c.requires.2

significand-requires : tie.Need-significand-x-requires
significand-requires c κs = bits_range c.args.a c.requires.0 (held-a c)

significand-requires-2 : tie.Need-significand-y-requires
significand-requires-2 c κs = bits_range c.args.b c.requires.1 (held-b c.before)

significand-requires-3 : tie.Need-significand-z-requires
significand-requires-3 c κs = bits_range c.args.c c.requires.2 (held-c c.before.before)

product-requires : tie.Need-product-p-requires
product-requires c κs = search rules

add-ep : tie.Need-overflow_add-ep
add-ep c = search rules

add-ez : tie.Need-overflow_add-ez
add-ez c = search rules

even : (l : ℕ) → l % 2 ^ 20 ≡ 0 → l % 2 ≡ 0
even l e = omega arith

combine-requires : tie.Need-combine-requires
combine-requires c κs =
    let p = c.before.before.before.before in
    let z = p.significand-z.ensures in
    record {
      x-low = (product p).low;
      x-high = (product p).high;
      x-even = even (lo p) (product p).clear;
      y-low = le_trans (lit≤ tt) z.low;
      y-high = z.high;
      y-clear = refl;
      e-low = omega (arith, c.if-ez-ep.true);
      e-high = omega (arith, p.significand-x.ensures.small, p.significand-y.ensures.small);
      within = omega arith;
    }

sub-combine : tie.Need-overflow_sub-ez
sub-combine c = search rules

combine-requires-2 : tie.Need-combine-requires-else-ez-ep
combine-requires-2 c κs =
    let p = c.before.before.before.before in
    let z = p.significand-z.ensures in
    record {
      x-low = le_trans (lit≤ tt) z.low;
      x-high = z.high;
      x-even = refl;
      y-low = (product p).low;
      y-high = (product p).high;
      y-clear = (product p).clear;
      e-low = omega arith;
      e-high = omega (arith, z.small);
      within = omega arith;
    }

returns : tie.Need-returns-then-ez-ep
returns c =
    let p = c.before.before.before.before.before in
    let a = (start p).args in
    c.combine.ensures
    ∙ ap (λ (x : ℕ). sum binary64 (unlike (leb (2 ^ 63) (to_bits binary64 a.a)) (leb (2 ^ 63) (to_bits binary64 a.b))) (words (hi p) (lo p) * 2 ^ ep p) (leb (2 ^ 63) (to_bits binary64 a.c)) (words (mz p) 0 * 2 ^ x) (2 ^ 2272)) (sub-sub_self c.if-ez-ep.true)
    ∙ whole p

returns-2 : tie.Need-returns-else-ez-ep
returns-2 c =
    let p = c.before.before.before.before.before in
    let a = (start p).args in
    let np = unlike (leb (2 ^ 63) (to_bits binary64 a.a)) (leb (2 ^ 63) (to_bits binary64 a.b)) in
    let nz = leb (2 ^ 63) (to_bits binary64 a.c) in
    c.combine-else-ez-ep.ensures
    ∙ ap (λ (x : ℕ). sum binary64 nz (words (mz p) 0 * 2 ^ ez p) np (words (hi p) (lo p) * 2 ^ x) (2 ^ 2272)) (sub-sub_self (le_of_lt c.if-ez-ep.false))
    ∙ sum_comm binary64 nz np (words (mz p) 0 * 2 ^ ez p) (words (hi p) (lo p) * 2 ^ ep p) (2 ^ 2272)
    ∙ whole p

pub general_spec : {M : Type 1} → statement M
general_spec =
    tie.close
    (tie.spec
    float-to-bits-i
    float-to-bits-j
    float-to-bits-k
    significand-requires
    significand-requires-2
    significand-requires-3
    product-requires
    add-ep
    add-ez
    combine-requires
    sub-combine
    combine-requires-2
    returns
    returns-2)
