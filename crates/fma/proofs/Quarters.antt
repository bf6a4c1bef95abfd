-- THE STICKY LAW: a number cut with two bits to spare and a sticky last bit rounds to the nearest as the whole number does. Assumes nothing.
use Rattle.std.proofs.Common.{◌≡◌, ℕ, zero, suc, ◌+◌, ◌*◌, ◌/◌, ◌%◌, ◌^◌, ◌<◌, ◌≤◌, sym, refl, ap, ◌∙◌, subst, inl, inr, mod-lt, mul_comm, eq-zero-or-pos, div-add-mod', arith, pow_pos, pow-add}
use Prim.Native.Nat.{compare, Ordering}
use lib.Arith.{digits_lt, digits_div, digits_mod}
use lib.Ieee.{nearest}
use lib.Ieee.Nearest.{closest}
use Rattle.exact.proofs.Order.{Stands, compared}
use Rattle.fma.specs.Sticky.{Sticky}
use Rattle.fma.specs.Pack.{quarter}
use Rattle.fma.proofs.StickyBit.{Parted, parted}

-- s is (4 a + i) p + r. By 4 p its whole part is a and its rest is i p + r; m is 4 a + i, or the odd one of it and the next where r is not 0.
abbrev Rounds : ℕ → ℕ → ℕ → ℕ → Type 0
Rounds a rest p m = (o : Ordering) → Stands o (rest * 2) (4 * p) → nearest a o ≡ quarter m

tie : (a m : ℕ) → m ≡ 4 * a + 2 → a + a % 2 ≡ quarter m
tie a m e =
    let d : m / 4 ≡ a = omega arith in
    subst (λ (x : ℕ). a + a % 2 ≡ (m + 1 + x % 2) / 4) (sym d) (elim (eq-zero-or-pos (a % 2)) [ inl z ↦ omega arith | inr z ↦ omega arith ])

-- no quarter or one: down
low : (a i rest p r m : ℕ) → i ≤ 1 → rest ≡ i * p + r → i * p ≤ p → r < p → Parted m (4 * a + i) r → Rounds a rest p m
low a i rest p r m I f j h (inl k) Ordering.lt c = omega arith
low a i rest p r m I f j h (inr k) Ordering.lt c = omega arith
low a i rest p r m I f j h k Ordering.eq c = absurd (omega arith)
low a i rest p r m I f j h k Ordering.gt c = absurd (omega arith)

-- two: a tie, or up
mid : (a rest p r m : ℕ) → rest ≡ 2 * p + r → r < p → Parted m (4 * a + 2) r → Rounds a rest p m
mid a rest p r m f h k Ordering.lt c = absurd (omega arith)
mid a rest p r m f h (inl k) Ordering.eq c = tie a m (omega arith)
mid a rest p r m f h (inr k) Ordering.eq c = absurd (omega arith)
mid a rest p r m f h (inl k) Ordering.gt c = absurd (omega arith)
mid a rest p r m f h (inr k) Ordering.gt c = omega arith

-- three: up
high : (a rest p r m : ℕ) → rest ≡ 3 * p + r → 0 < p → Parted m (4 * a + 3) r → Rounds a rest p m
high a rest p r m f h k Ordering.lt c = absurd (omega arith)
high a rest p r m f h k Ordering.eq c = absurd (omega arith)
high a rest p r m f h (inl k) Ordering.gt c = omega arith
high a rest p r m f h (inr k) Ordering.gt c = omega arith

by-quarter : (a i p r m : ℕ) → i < 4 → r < p → 0 < p → Parted m (4 * a + i) r → Rounds a (i * p + r) p m
by-quarter a zero p r m l h P k = low a 0 (0 * p + r) p r m (omega arith) refl (omega arith) h k
by-quarter a (suc zero) p r m l h P k = low a 1 (1 * p + r) p r m (omega arith) refl (omega arith) h k
by-quarter a (suc (suc zero)) p r m l h P k = mid a (2 * p + r) p r m refl h k
by-quarter a (suc (suc (suc zero))) p r m l h P k = high a (3 * p + r) p r m refl P k
by-quarter a (suc (suc (suc (suc i)))) p r m l h P k = absurd (omega (arith, l))

pub sticky-rounds : (m j s : ℕ) → Sticky m j s → closest s (2 ^ (j + 2)) ≡ quarter m
sticky-rounds m j s h =
    let p = 2 ^ j in
    let P : 0 < p = pow_pos j in
    let t = s / p in
    let r = s % p in
    let a = t / 4 in
    let i = t % 4 in
    let R : r < p = mod-lt s P in
    let I : i < 4 = mod-lt t (omega arith) in
    let four : 2 ^ (j + 2) ≡ 4 * p = pow-add 2 j 2 ∙ mul_comm p 4 in
    let quarters : t ≡ 4 * a + i = omega arith in
    let whole : s ≡ a * (4 * p) + (i * p + r) = group a i p r t s quarters (div-add-mod' s p) in
    let rest : i * p + r < 4 * p = digits_lt {q = i} {m = 4} {r = r} {c = p} I R in
    ap (λ (x : ℕ). closest s x) four
    ∙ ap (λ (x : ℕ). nearest x (compare (s % (4 * p) * 2) (4 * p))) (ap (λ (x : ℕ). x / (4 * p)) whole ∙ digits_div a rest)
    ∙ ap (λ (x : ℕ). nearest a (compare (x * 2) (4 * p))) (ap (λ (x : ℕ). x % (4 * p)) whole ∙ digits_mod a rest)
    ∙ by-quarter a i p r m I R P (subst (λ (x : ℕ). Parted m x r) quarters (parted m j s h)) (compare ((i * p + r) * 2) (4 * p)) (compared ((i * p + r) * 2) (4 * p))
  where
    group : (a i p r t s : ℕ) → t ≡ 4 * a + i → t * p + r ≡ s → s ≡ a * (4 * p) + (i * p + r)
    group a i p r t s e f = let g : t * p ≡ (4 * a + i) * p = ap (λ (x : ℕ). x * p) e in omega arith
