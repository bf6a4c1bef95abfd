-- The two parts of a decimal, nine figures at a time: what holds after each step, and what so many zeros leave. Assumes nothing.
use mathlib.Core.Path.{◌≡◌, refl, sym, ap, ◌∙◌}
use mathlib.Core.Bool.{true, false}
use mathlib.Core.List.{List}
use mathlib.Core.Logic.{inl, inr}
use Prim.Native.Nat.{ℕ, zero, suc, ◌+◌, ◌-◌, ◌*◌, ◌%◌, ◌^◌, ◌≤◌, ◌<◌, min}
use native.Mathlib.Nat.{le_trans, le_of_eq, lt_of_lt_of_le, mul_assoc, one-mul, zero-mul, mul-le-mul_left, mul-le-mul_right, not-le_of_lt}
use native.Mathlib.Omega.{arith}
use lib.Dec.{lit≤}
use lib.ListN.{length, take, drop, drop_of_length-le}
use lib.Pow.{pow-add}
use Rattle.exact.proofs.Naturals.{below_or}
use Rattle.wide_decimal.specs.Figures.{worth_from, worth}
use Rattle.wide_decimal.specs.Limbs.{weight, Held}
use Rattle.wide_decimal.specs.Near.{Near}
use Rattle.wide_decimal.proofs.Nears.{near-via}
use Rattle.wide_decimal.proofs.Powers.{ten_pos, ten_more, ten_even, even-times, weight-more}
use Rattle.wide_decimal.proofs.Worth.{worth-upto, worth-from}

-- ---- before the point
pub worth-grows : (a : List ℕ) (i j : ℕ) → i ≤ j → j ≤ length a → worth (take i a) ≤ worth (take j a)
worth-grows a i j h l =
    let e : i + (j - i) ≡ j = omega arith in
    let u = rw e at (worth-upto a i (j - i) (omega arith)) in
    let more : worth (take i a) * 1 ≤ worth (take i a) * 10 ^ (j - i) = mul-le-mul_left (worth (take i a)) (ten_pos (j - i)) in
    omega arith

-- what does not fit
pub spills : (v r x w : ℕ) → v + r * w ≡ x → (r ≡ 0 → ⊥) → w ≤ x
spills v zero x w e n = absurd (n refl)
spills v (suc r) x w e n = omega arith

pub none-over : (v r w : ℕ) → r ≡ 0 → v ≡ v + r * w
none-over v r w z = rw z (omega arith)

pub fitting : (v x w : ℕ) → v ≡ x → Held true v x w
fitting v x w e = record { is = λ t. e; over = λ t. let z : ◌≡◌ {A = ℕ} 0 1 = cc in absurd (omega (arith, z)) }

pub spilling : (v x w : ℕ) → w ≤ x → Held false v x w
spilling v x w l = record { is = λ t. cc; over = λ t. l }

-- ---- zeros behind a whole number; beyond 400 only nothing fits
pub ten_behind : (v i n : ℕ) → v * 10 ^ i * 10 ^ n ≡ v * 10 ^ (i + n)
ten_behind v i n = mul_assoc v (10 ^ i) (10 ^ n) ∙ ap (λ (x : ℕ). v * x) (sym (pow-add 10 i n))

pub zeros-more : (v i j w : ℕ) → i ≤ j → w ≤ v * 10 ^ i → w ≤ v * 10 ^ j
zeros-more v i j w h l = le_trans l (mul-le-mul_left v (ten_more i j h))

pub all-zeros : (v x k zeros n : ℕ) → n ≤ 33 → x ≡ v * 10 ^ k → k ≡ min zeros 400 → (0 < k → x < weight n) → x ≡ v * 10 ^ zeros
all-zeros v x k zeros n w e m small = elim (below_or 400 zeros) [
  | inr h ↦ (let same : k ≡ zeros = omega arith in rw same at e)
  | inl h ↦ (
      let most : k ≡ 400 = omega arith in
      let none : v ≡ 0 = empty v (rw most at e) (lt_of_lt_of_le (small (omega arith)) (weight-more n 33 w)) in
      e ∙ rw none (zero-mul (10 ^ k) ∙ sym (zero-mul (10 ^ zeros)))
      )
]
  where
    empty : (v : ℕ) → x ≡ v * 10 ^ 400 → x < weight 33 → v ≡ 0
    empty zero e s = refl
    empty (suc v) e s =
        let some : 1 ≤ suc v = omega arith in
        let more : 1 * 10 ^ 400 ≤ suc v * 10 ^ 400 = mul-le-mul_right (10 ^ 400) some in
        absurd (not-le_of_lt s (le_trans (lit≤ tt) (le_trans (le_of_eq (sym (one-mul (10 ^ 400)))) (le_trans more (le_of_eq (sym e))))))

-- ---- behind the point
pub near_add : (e w b s : ℕ) → e % 2 ≡ 0 → Near w b s → Near (e + w) b (e * b + s)
near_add e w b s h (inl x) = inl (omega arith)
near_add e w b s h (inr x) = inr (omega arith, omega arith, omega arith)

-- c above what stands for s / b, cut by m
pub near_step : (v' v m b s e : ℕ) → m % 2 ≡ 0 → 0 < b → e % 2 ≡ 0 → Near v' m (e + v) → Near v b s → Near v' (m * b) (e * b + s)
near_step v' v m b s e E B h x y = near-via v' (e + v) (e * b + s) m b E B x (near_add e v b s h y)

-- n figures more stand behind the point
pub behind-next : (a : List ℕ) (i n w v v' : ℕ) → 0 < n → i + n ≤ length a → w % 2 ≡ 0
    → Near v' (10 ^ n) (worth (take n (drop i a)) * w + v) → Near v (10 ^ (length a - (i + n))) (worth (drop (i + n) a) * w) → Near v' (10 ^ (length a - i)) (worth (drop i a) * w)
behind-next a i n w v v' some fit even x y =
    let c = worth (take n (drop i a)) in
    let b = 10 ^ (length a - (i + n)) in
    let all : 10 ^ n * b ≡ 10 ^ (length a - i) = sym (pow-add 10 n (length a - (i + n))) ∙ ap (λ (z : ℕ). 10 ^ z) (rest (length a) i n fit) in
    let sum : c * w * b + worth (drop (i + n) a) * w ≡ worth (drop i a) * w = regroup c w b (worth (drop (i + n) a)) ∙ ap (λ (z : ℕ). z * w) (sym (worth-from a i n fit)) in
    rw (← all, ← sum) (near_step v' v (10 ^ n) b (worth (drop (i + n) a) * w) (c * w) (ten_even n some) (ten_pos (length a - (i + n))) (even-times c w even) x y)
  where
    rest : (l i n : ℕ) → i + n ≤ l → n + (l - (i + n)) ≡ l - i
    rest l i n h = omega arith

    regroup : (c w b d : ℕ) → c * w * b + d * w ≡ (c * b + d) * w
    regroup c w b d = omega arith

pub behind-none : (a : List ℕ) (i w v : ℕ) → i ≡ length a → v ≡ 0 → Near v (10 ^ (length a - i)) (worth (drop i a) * w)
unfolding worth_from
behind-none a i w v e z =
    let past : length a ≤ i = omega arith in
    inl (rw (z, drop_of_length-le a past) (zero-mul (10 ^ (length a - i)) ∙ sym (zero-mul w)))

-- ---- zeros between the point and them; beyond 400 only the last bit is left
pub lower-next : (v' v s i n w : ℕ) → 0 < n → Near v' (10 ^ n) (0 * w + v) → Near v (10 ^ i) s → Near v' (10 ^ (i + n)) s
lower-next v' v s i n w some x y =
    let sum : 10 ^ n * 10 ^ i ≡ 10 ^ (i + n) = sym (pow-add 10 n i) ∙ ap (λ (z : ℕ). 10 ^ z) (swap n i) in
    let none : 0 * w + v ≡ v = omega arith in
    rw (← sum) (near-via v' v s (10 ^ n) (10 ^ i) (ten_even n some) (ten_pos i) (rw none at x) y)
  where
    swap : (n i : ℕ) → n + i ≡ i + n
    swap n i = omega arith

near-far : (w b b' s : ℕ) → s < b → b ≤ b' → Near w b s → Near w b' s
near-far zero b b' s h l (inl e) = inl (omega arith)
near-far (suc w) b b' s h l (inl e) = absurd (omega arith)
near-far zero b b' s h l (inr e) = absurd (omega (arith, e.0))
near-far (suc zero) b b' s h l (inr e) = inr (e.0, omega arith, omega arith)
near-far (suc (suc w)) b b' s h l (inr e) = absurd (omega (arith, e.1))

pub lower-all : (w v k zeros n : ℕ) → n ≤ 34 → v < weight n → k ≡ min zeros 400 → Near w (10 ^ k) v → Near w (10 ^ zeros) v
lower-all w v k zeros l h s m n = elim (below_or 400 zeros) [
  | inr o ↦ (let same : k ≡ zeros = omega arith in rw same at n)
  | inl o ↦ (
      let most : k ≡ 400 = omega arith in
      near-far w (10 ^ 400) (10 ^ zeros) v (lt_of_lt_of_le s (le_trans (weight-more l 34 h) (lit≤ tt))) (ten_more 400 zeros (omega arith)) (rw most at n)
      )
]
