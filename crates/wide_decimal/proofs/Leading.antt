-- The leading bits of a number of 32-bit digits: what holds while the digits are gone through from the top. Assumes nothing.
use mathlib.Core.Path.{◌≡◌, refl, ap}
use mathlib.Core.List.{List}
use mathlib.Core.Logic.{◌⊎◌, inl, inr}
use Prim.Native.Nat.{ℕ, suc, ◌+◌, ◌-◌, ◌*◌, ◌%◌, ◌^◌, ◌≤◌, ◌<◌}
use native.Mathlib.Nat.{le_trans, le_of_eq, pow-suc, zero-add, add-zero, eq-zero-or-pos}
use native.Mathlib.Omega.{arith}
use lib.ListN.{length, get_or, drop}
use lib.Seq.{drop-length}
use lib.Pow.{pow-add, pow_pos, pow_mono}
use lib.Dec.{lit<}
use lib.Bits.{bit_or}
use Rattle.std.proofs.lemmas.Grind.{or_after_shift}
use Rattle.fma.specs.Sticky.{odd-of, Whole}
use Rattle.fma.proofs.StickyBit.{sticky-scale, sticky-ge}
use Rattle.wide_decimal.specs.Limbs.{value, weight}
use Rattle.wide_decimal.specs.Near.{Near, Top}
use Rattle.wide_decimal.proofs.Digits.{upper}

near-more : (w p N : ℕ) → Near w p N → Near w (p * 2 ^ 32) (N * 2 ^ 32)
near-more w p N (inl e) = inl (omega arith)
near-more w p N (inr h) = inr (h.0, omega arith, omega arith)

near-jam : (w p N x : ℕ) → 0 < p → 0 < x → x < 2 ^ 32 → Near w p N → Near (odd-of w) (p * 2 ^ 32) (N * 2 ^ 32 + x)
near-jam w p N x P h k n = by (odd-of w) (next w (odd-of w) refl) n
  where
    next : (w o : ℕ) → o ≡ odd-of w → ((w % 2 ≡ 1) × (o ≡ w)) ⊎ ((w % 2 ≡ 0) × (o ≡ suc w))
    next w o e = elim (eq-zero-or-pos (w % 2)) [ inl z ↦ inr (z, omega arith) | inr z ↦ inl (omega arith, omega arith) ]

    by : (o : ℕ) → ((w % 2 ≡ 1) × (o ≡ w)) ⊎ ((w % 2 ≡ 0) × (o ≡ suc w)) → Near w p N → Near o (p * 2 ^ 32) (N * 2 ^ 32 + x)
    by o (inl e) (inl y) = let f : o * p ≡ w * p = ap (λ (z : ℕ). z * p) e.1 in inr (omega arith, omega arith, omega arith)
    by o (inl e) (inr y) = let f : o * p ≡ w * p = ap (λ (z : ℕ). z * p) e.1 in inr (omega arith, omega arith, omega arith)
    by o (inr e) (inl y) = let f : o * p ≡ suc w * p = ap (λ (z : ℕ). z * p) e.1 in inr (omega arith, omega arith, omega arith)
    by o (inr e) (inr y) = absurd (omega arith)

sticky : (n lost s : ℕ) → Top n lost s → Near n (2 ^ lost) s
sticky n lost s t = by t.stands
  where
    by : ((lost ≡ 0) × (n ≡ s)) ⊎ ((2 ^ 64 ≤ n) × Near n (2 ^ lost) s) → Near n (2 ^ lost) s
    by (inl e) = inl (rw e.0 (omega (arith, e.1)))
    by (inr k) = k.1

-- moved up by p bits
pub whole : (n lost s p : ℕ) → Top n lost s → Whole n (lost + p) (s * 2 ^ p)
whole n lost s p t = record { sticky = sticky-scale n lost p s (sticky n lost s t); clean = clean t.stands }
  where
    clean : ((lost ≡ 0) × (n ≡ s)) ⊎ ((2 ^ 64 ≤ n) × Near n (2 ^ lost) s) → n < 2 ^ 64 → n * 2 ^ (lost + p) ≡ s * 2 ^ p
    clean (inl e) k = rw (e.0, zero-add p) (ap (λ (x : ℕ). x * 2 ^ p) e.1)
    clean (inr m) k = absurd (omega (arith, m.0))

pub two-words : (n lost s : ℕ) → 2 ^ 64 ≤ n → Top n lost s → 2 ^ 64 ≤ s
two-words n lost s many t = by t.stands
  where
    further : (a b : ℕ) → a ≤ a + b
    further a b = omega arith

    by : ((lost ≡ 0) × (n ≡ s)) ⊎ ((2 ^ 64 ≤ n) × Near n (2 ^ lost) s) → 2 ^ 64 ≤ s
    by (inl e) = le_trans many (le_of_eq e.1)
    by (inr m) = le_trans (pow_mono (further 64 lost)) (sticky-ge n s lost 64 (lit< tt) many m.1)

-- ---- one digit more
module _ (n lost N x : ℕ) (t : Top n lost N) where
  more-whole : n < 2 ^ 64 → Top (n * 2 ^ 32 + x) lost (N * 2 ^ 32 + x)
  more-whole z = by t.stands
    where
      by : ((lost ≡ 0) × (n ≡ N)) ⊎ ((2 ^ 64 ≤ n) × Near n (2 ^ lost) N) → Top (n * 2 ^ 32 + x) lost (N * 2 ^ 32 + x)
      by (inl e) = record { stands = inl (e.0, omega (arith, e.1)) }
      by (inr m) = absurd (omega (arith, z, m.0))

  more_same : 2 ^ 64 ≤ n → x ≡ 0 → Top n (lost + 32) (N * 2 ^ 32 + x)
  more_same p z = rw z (record { stands = inr (p, rw (pow-add 2 lost 32, add-zero (N * 2 ^ 32)) (near-more n (2 ^ lost) N (sticky n lost N t))) })

  more-jam : 2 ^ 64 ≤ n → 0 < x → x < 2 ^ 32 → Top (odd-of n) (lost + 32) (N * 2 ^ 32 + x)
  more-jam p k b = record { stands = inr (odd-ge n p, rw (pow-add 2 lost 32) (near-jam n (2 ^ lost) N x (pow_pos lost) k b (sticky n lost N t))) }
    where
      odd-ge : (n : ℕ) → 2 ^ 64 ≤ n → 2 ^ 64 ≤ odd-of n
      odd-ge n p = omega arith

-- the code's way to put a digit behind a word
pub shifted : (n x : ℕ) → n < 2 ^ 64 → x < 2 ^ 32 → bit_or (n * 2 ^ 32 % 2 ^ 128) x ≡ n * 2 ^ 32 + x
shifted n x h k = or_after_shift n (2 ^ 32) (2 ^ 128) x refl k (omega arith)

-- ---- n is that of s with the digits from i on behind it
pub record Leads (a : List ℕ) (n₀ lost₀ n lost i : ℕ) : Type 0 where
  pub within : i ≤ length a
  pub small : n < 2 ^ 96
  pub few : lost + 32 * i ≤ lost₀ + 32 * length a
  pub top : (s : ℕ) → Top n₀ lost₀ s → Top n lost (s * weight (length a - i) + value (drop i a))

pub leads-none : (a : List ℕ) (n lost : ℕ) → n < 2 ^ 96 → Leads a n lost n lost (length a)
unfolding value
leads-none a n lost s =
    record {
      within = omega arith;
      small = s;
      few = omega arith;
      top = λ m t. rw (drop-length a, none (length a)) (rw (one m) t);
    }
  where
    none : (n : ℕ) → n - n ≡ 0
    none n = omega arith

    one : (n : ℕ) → n * weight 0 + 0 ≡ n
    one n = omega arith

module _ (a : List ℕ) (n₀ lost₀ n lost i j : ℕ) (e : i ≡ suc j) (q : Leads a n₀ lost₀ n lost i) where
  p : Leads a n₀ lost₀ n lost (suc j)
  p = rw e at q

  abbrev so-far : ℕ → ℕ
  so-far s = s * weight (length a - suc j) + value (drop (suc j) a)

  -- what stands there with the digit at j
  next : (s : ℕ) → so-far s * 2 ^ 32 + get_or a j 0 ≡ s * weight (length a - j) + value (drop j a)
  next s =
      let u = upper a j p.within in
      let d : length a - j ≡ suc (length a - suc j) = omega (arith, p.within) in
      rw (d, pow-suc (2 ^ 32) (length a - suc j)) (omega arith)

  pub leads-whole : n < 2 ^ 64 → get_or a j 0 < 2 ^ 32 → Leads a n₀ lost₀ (n * 2 ^ 32 + get_or a j 0) lost j
  leads-whole z b =
      record {
        within = omega (arith, p.within);
        small = omega arith;
        few = omega (arith, p.few);
        top = λ s t. rw (next s) at (more-whole n lost (so-far s) (get_or a j 0) (p.top s t) z);
      }

  pub leads-same : 2 ^ 64 ≤ n → get_or a j 0 ≡ 0 → Leads a n₀ lost₀ n (lost + 32) j
  leads-same k z =
      record {
        within = omega (arith, p.within);
        small = p.small;
        few = omega (arith, p.few);
        top = λ s t. rw (next s) at (more_same n lost (so-far s) (get_or a j 0) (p.top s t) k z);
      }

  pub leads-jam : 2 ^ 64 ≤ n → 0 < get_or a j 0 → get_or a j 0 < 2 ^ 32 → Leads a n₀ lost₀ (odd-of n) (lost + 32) j
  leads-jam k x b =
      record {
        within = omega (arith, p.within);
        small = odd-lt n p.small;
        few = omega (arith, p.few);
        top = λ s t. rw (next s) at (more-jam n lost (so-far s) (get_or a j 0) (p.top s t) k x b);
      }
    where
      odd-lt : (n : ℕ) → n < 2 ^ 96 → odd-of n < 2 ^ 96
      odd-lt n h = omega arith
