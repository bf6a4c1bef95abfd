-- The bits of a double's upper part: the last 27 rounded away, with a carry that may raise the exponent. The two parts are halves for a product, and the last step of a number
-- that is not too small is 2 ^ 537 units at least. Assumes nothing.
use mathlib.Core.Path.{◌≡◌, refl, sym, ap, ◌∙◌, subst}
use mathlib.Core.Logic.{◌⊎◌, inl, inr}
use mathlib.Core.Bool.{Bool, true, false, not, cond, ◌||◌}
use Prim.Native.Nat.{ℕ, suc, ◌+◌, ◌-◌, ◌*◌, ◌/◌, ◌%◌, ◌^◌, ◌≤◌, ◌<◌}
use native.Mathlib.Omega.{arith}
use lib.Bits.{and_high}
use lib.Dec.{T, eqb, leb, eqb→eq, leb→le, lit≤}
use lib.Ieee.{Float, binary64, fits, is_nan, of_bits, to_bits, sub}
use lib.Ieee.Bits.{of_bits-fits, of_bits-to_bits, to_bits-lt}
use lib.Ieee.Scale.{finite}
use borrow.Author.Tests.{le-leb, lt-leb}
use Rattle.exact.specs.Value.{Units}
use Rattle.exact.proofs.Naturals.{below_or}
use Rattle.exact.proofs.Truth.{both}
use Rattle.exact.proofs.Valued.{sub-finite}
use Rattle.ieee.proofs.Bits.{number-bits, finite-bits, value_low, value-normal, value-carried}
use Rattle.roundoff.proofs.Product.{Halved}
use Rattle.roundoff.proofs.Halving.{InSteps, halved}
use Rattle.quick_fma.specs.Quick.{roomy_of, upper_bits, upper_of}

-- ---- the pattern as a number
pub upper_is : (b : ℕ) → b < 2 ^ 64 → b % 2 ^ 63 ≤ 2047 * 2 ^ 52 → upper_bits b ≡ (b + 2 ^ 26) / 2 ^ 27 * 2 ^ 27
unfolding upper_bits
upper_is b h l = and_high (b + 2 ^ 26) 37 27 ∙ ap (λ (z : ℕ). z * 2 ^ 27) (short ((b + 2 ^ 26) / 2 ^ 27) (omega arith))
  where
    short : (n : ℕ) → n < 2 ^ 37 → n % 2 ^ 37 ≡ n
    short n h = omega arith

-- its sign, and the rest of it
upper_sign : (b c : ℕ) → b < 2 ^ 64 → b % 2 ^ 63 ≤ 2047 * 2 ^ 52 → c ≡ (b + 2 ^ 26) / 2 ^ 27 * 2 ^ 27 → b / 2 ^ 63 ≡ c / 2 ^ 63
upper_sign b c h l e = omega arith

pub upper-size : (b c : ℕ) → b < 2 ^ 64 → b % 2 ^ 63 ≤ 2047 * 2 ^ 52 → c ≡ (b + 2 ^ 26) / 2 ^ 27 * 2 ^ 27 → c % 2 ^ 63 ≡ (b % 2 ^ 63 + 2 ^ 26) / 2 ^ 27 * 2 ^ 27
upper-size b c h l e = omega arith

same_sign : (b c : ℕ) → b / 2 ^ 63 ≡ c / 2 ^ 63 → leb (2 ^ 63) c ≡ leb (2 ^ 63) b
same_sign b c e = elim (below_or b (2 ^ 63)) [ inl l ↦ lt-leb (2 ^ 63) c (omega arith) ∙ sym (lt-leb (2 ^ 63) b l) | inr l ↦ le-leb (2 ^ 63) c (omega arith) ∙ sym (le-leb (2 ^ 63) b l) ]

-- ---- the steps of a number and of its upper part
record UpperSteps (b : ℕ) : Type 0 where
  i : ℕ
  A : ℕ
  B : ℕ
  steps : InSteps (of_bits binary64 b) (of_bits binary64 (upper_bits b)) i (leb (2 ^ 63) b) A B
  far : 537 ≤ i

module _ (b : ℕ) (h : b < 2 ^ 64) (n : b % 2 ^ 63 ≤ 2047 * 2 ^ 52) where
  abbrev c : ℕ
  c = upper_bits b

  c-is : c ≡ (b + 2 ^ 26) / 2 ^ 27 * 2 ^ 27
  c-is = upper_is b h n

  sign : leb (2 ^ 63) c ≡ leb (2 ^ 63) b
  sign = same_sign b c (upper_sign b c h n c-is)

  -- the digits of the upper part
  abbrev u : ℕ
  u = (b % 2 ^ 52 + 2 ^ 26) / 2 ^ 27 * 2 ^ 27

  -- a normal one
  normal : (i : ℕ) → b % 2 ^ 63 / 2 ^ 52 ≡ suc i → 537 ≤ i → T (finite (of_bits binary64 b)) → T (finite (of_bits binary64 c)) → UpperSteps b
  normal i f far tb tc =
      record {
        i = i;
        A = 2 ^ 52 + b % 2 ^ 52;
        B = 2 ^ 52 + u;
        steps =
            record {
              x_fits = of_bits-fits binary64 b;
              h_fits = of_bits-fits binary64 c;
              x-units = value-normal b i (b % 2 ^ 52) f refl (under (b % 2 ^ 63 / 2 ^ 52) f (finite-bits b tb));
              h-units = subst (λ (s : Bool). Units (of_bits binary64 c) s ((2 ^ 52 + u) * 2 ^ i)) sign (elim (below_or i 2045) [ inl l ↦ value-carried c i u size u-most l | inr l ↦ last l ]);
              upper = (2 ^ 25 + (b % 2 ^ 52 + 2 ^ 26) / 2 ^ 27, omega arith);
              x-most = omega arith;
              h-most = omega arith;
              over = omega arith;
              under = omega arith;
              large = inr (omega arith);
            };
        far = far;
      }
    where
      under : (x : ℕ) → x ≡ suc i → x < 2047 → i < 2046
      under x e l = omega arith

      u-most : u ≤ 2 ^ 52
      u-most = omega arith

      size : c % 2 ^ 63 ≡ suc i * 2 ^ 52 + u
      size = upper-size b c h n c-is ∙ parts (b % 2 ^ 63) (b % 2 ^ 52) f (omega arith)
        where
          parts : (m t : ℕ) → m / 2 ^ 52 ≡ suc i → t ≡ m % 2 ^ 52 → (m + 2 ^ 26) / 2 ^ 27 * 2 ^ 27 ≡ suc i * 2 ^ 52 + (t + 2 ^ 26) / 2 ^ 27 * 2 ^ 27
          parts m t f e = omega arith

      -- of the largest exponent: no carry, since the upper part is finite
      last : 2045 ≤ i → Units (of_bits binary64 c) (leb (2 ^ 63) c) ((2 ^ 52 + u) * 2 ^ i)
      last l = let g = no-carry (c % 2 ^ 63) u size (finite-bits c tc) in value-normal c i u (field (c % 2 ^ 63) u size g) (digits c (c % 2 ^ 63) u size g (omega arith)) (under (b % 2 ^ 63 / 2 ^ 52) f (finite-bits b tb))
        where
          no-carry : (m u : ℕ) → m ≡ suc i * 2 ^ 52 + u → m / 2 ^ 52 < 2047 → u < 2 ^ 52
          no-carry m u e k = omega arith

          field : (m u : ℕ) → m ≡ suc i * 2 ^ 52 + u → u < 2 ^ 52 → m / 2 ^ 52 ≡ suc i
          field m u e k = omega arith

          digits : (c m u : ℕ) → m ≡ suc i * 2 ^ 52 + u → u < 2 ^ 52 → m ≡ c % 2 ^ 63 → c % 2 ^ 52 ≡ u
          digits c m u e k j = omega arith

  -- a zero
  zero : b % 2 ^ 63 ≡ 0 → UpperSteps b
  zero z =
      record {
        i = 1074;
        A = 0;
        B = 0;
        steps =
            record {
              x_fits = of_bits-fits binary64 b;
              h_fits = of_bits-fits binary64 c;
              x-units = units b refl z;
              h-units = units c sign (upper-size b c h n c-is ∙ ap (λ (m : ℕ). (m + 2 ^ 26) / 2 ^ 27 * 2 ^ 27) z);
              upper = (0, refl);
              x-most = lit≤ tt;
              h-most = lit≤ tt;
              over = lit≤ tt;
              under = lit≤ tt;
              large = inl refl;
            };
        far = lit≤ tt;
      }
    where
      units : (c : ℕ) → leb (2 ^ 63) c ≡ leb (2 ^ 63) b → c % 2 ^ 63 ≡ 0 → Units (of_bits binary64 c) (leb (2 ^ 63) b) (0 * 2 ^ 1074)
      units c e z = subst (λ (s : Bool). Units (of_bits binary64 c) s (0 * 2 ^ 1074)) e (subst (λ (n : ℕ). Units (of_bits binary64 c) (leb (2 ^ 63) c) n) (none c z) (value_low c (omega arith)))
        where
          none : (c : ℕ) → c % 2 ^ 63 ≡ 0 → c % 2 ^ 52 ≡ 0
          none c e = omega arith

-- ---- A NUMBER WITH ROOM, and its upper part
module _ (x : Float) (f : T (fits binary64 x)) (r : roomy_of x ≡ true) where
  abbrev b : ℕ
  b = to_bits binary64 x

  pub is_number : T (not (is_nan x))
  is_number = subst T (sym (both (not (is_nan x)) (eqb (b % 2 ^ 63) 0 || leb 0x21a0_0000_0000_0000 (b % 2 ^ 63)) r).0) tt

  size : (b % 2 ^ 63 ≡ 0) ⊎ (0x21a0_0000_0000_0000 ≤ b % 2 ^ 63)
  size = by (eqb (b % 2 ^ 63) 0) (leb 0x21a0_0000_0000_0000 (b % 2 ^ 63)) (both (not (is_nan x)) (eqb (b % 2 ^ 63) 0 || leb 0x21a0_0000_0000_0000 (b % 2 ^ 63)) r).1 (eqb→eq (b % 2 ^ 63) 0) (leb→le 0x21a0_0000_0000_0000 (b % 2 ^ 63))
    where
      by : (p q : Bool) → (p || q) ≡ true → (T p → b % 2 ^ 63 ≡ 0) → (T q → 0x21a0_0000_0000_0000 ≤ b % 2 ^ 63) → (b % 2 ^ 63 ≡ 0) ⊎ (0x21a0_0000_0000_0000 ≤ b % 2 ^ 63)
      by true q e g k = inl (g tt)
      by false q e g k = inr (k (subst T (sym e) tt))

  upper-bits : upper_of x ≡ of_bits binary64 (upper_bits b)
  upper-bits = by (is_nan x) is_number
    where
      by : (t : Bool) → T (not t) → cond t x (of_bits binary64 (upper_bits b)) ≡ of_bits binary64 (upper_bits b)
      by true n = absurd n
      by false n = refl

  pub upper_halves : T (finite (sub binary64 x (upper_of x))) → (i : ℕ) × Halved x (upper_of x) (sub binary64 x (upper_of x)) i × (537 ≤ i)
  upper_halves t =
      subst (λ (h : Float). T (finite (sub binary64 x h)) → (i : ℕ) × Halved x h (sub binary64 x h) i × (537 ≤ i)) (sym upper-bits)
      (subst (λ (y : Float). T (finite (sub binary64 y (of_bits binary64 (upper_bits b)))) → (i : ℕ) × Halved y (of_bits binary64 (upper_bits b)) (sub binary64 y (of_bits binary64 (upper_bits b))) i × (537 ≤ i)) (of_bits-to_bits binary64 x f) at_bits)
      t
    where
      h : b < 2 ^ 64
      h = to_bits-lt binary64 x f

      n : b % 2 ^ 63 ≤ 2047 * 2 ^ 52
      n = number-bits x f is_number

      field : (m : ℕ) → 0x21a0_0000_0000_0000 ≤ m → (m / 2 ^ 52 ≡ suc (m / 2 ^ 52 - 1)) × (537 ≤ m / 2 ^ 52 - 1)
      field m l = (omega arith, omega arith)

      at_bits : T (finite (sub binary64 (of_bits binary64 b) (of_bits binary64 (upper_bits b)))) → (i : ℕ) × Halved (of_bits binary64 b) (of_bits binary64 (upper_bits b)) (sub binary64 (of_bits binary64 b) (of_bits binary64 (upper_bits b))) i × (537 ≤ i)
      at_bits t =
          let o = sub-finite binary64 (of_bits binary64 b) (of_bits binary64 (upper_bits b)) t in
          let p : UpperSteps b = elim size [ inl z ↦ zero b h n z | inr l ↦ normal b h n (b % 2 ^ 63 / 2 ^ 52 - 1) (field (b % 2 ^ 63) l).0 (field (b % 2 ^ 63) l).1 o.0 o.1 ] in
          (p.i, halved (of_bits binary64 b) (of_bits binary64 (upper_bits b)) p.i (leb (2 ^ 63) b) p.A p.B p.steps t, p.far)
