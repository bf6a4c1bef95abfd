-- A number of 32-bit digits times one digit, and over one: what holds while the digits are gone through. Assumes nothing.
use mathlib.Core.Path.{◌≡◌, refl, ap, ◌∙◌}
use mathlib.Core.List.{List}
use Prim.Native.Nat.{ℕ, suc, ◌+◌, ◌-◌, ◌*◌, ◌/◌, ◌%◌, ◌^◌, ◌≤◌, ◌<◌}
use native.Mathlib.Nat.{pow-suc, mul-le-mul_right, mod-lt, div-add-mod'}
use native.Mathlib.Numerals.{add-one}
use native.Mathlib.Omega.{arith}
use lib.ListN.{length, get_or, set, take, drop, length-set}
use lib.Seq.{take-length, drop-length}
use Rattle.wide_decimal.specs.Limbs.{value, weight}
use Rattle.wide_decimal.proofs.Digits.{upper, lower, upper-set, lower-set, above-set, below_set}

-- ---- times m and c: the digits below i are the product's, and the carry is not yet added
pub record Times (a₀ : List ℕ) (m c : ℕ) (a : List ℕ) (carry i : ℕ) : Type 0 where
  pub within : i ≤ length a
  pub long : length a ≡ length a₀
  pub small : carry < 2 ^ 32
  pub below : value (take i a) < weight i
  pub is : value (take i a) + (carry + m * value (drop i a)) * weight i ≡ value a₀ * m + c

pub times_none : (a : List ℕ) (m c : ℕ) → c < 2 ^ 32 → Times a m c a c 0
unfolding value
times_none a m c h = record { within = omega arith; long = refl; small = h; below = omega arith; is = omega arith }

pub times-fits : (x m c : ℕ) → x < 2 ^ 32 → m < 2 ^ 32 → c < 2 ^ 32 → x * m + c < 2 ^ 64
times-fits x m c hx hm hc = let k : x * m ≤ (2 ^ 32 - 1) * m = mul-le-mul_right m (omega arith) in omega arith

times-step : (T c m U W x q v w w' A : ℕ) → T + (c + m * U) * w ≡ A → U ≡ W * 2 ^ 32 + x → q * 2 ^ 32 + v ≡ x * m + c → w' ≡ w * 2 ^ 32 → T + v * w + (q + m * W) * w' ≡ A
times-step T c m U W x q v w w' A e u t d =
    let f : U * (m * w) ≡ (W * 2 ^ 32 + x) * (m * w) = ap (λ (z : ℕ). z * (m * w)) u in
    let g : (q * 2 ^ 32 + v) * w ≡ (x * m + c) * w = ap (λ (z : ℕ). z * w) t in
    rw d (omega arith)

below_step : (T v w w' : ℕ) → T < w → v < 2 ^ 32 → w' ≡ w * 2 ^ 32 → T + v * w < w'
below_step T v w w' t h d = let k : suc v * w ≤ 2 ^ 32 * w = mul-le-mul_right w h in omega arith

module _ (a₀ : List ℕ) (m c : ℕ) (a : List ℕ) (carry i : ℕ) (p : Times a₀ m c a carry i) where
  pub times-next : m < 2 ^ 32 → i < length a → get_or a i 0 < 2 ^ 32
      → Times a₀ m c (set a i ((get_or a i 0 * m + carry) % 2 ^ 32)) ((get_or a i 0 * m + carry) / 2 ^ 32) (i + 1)
  times-next M l x =
      let t = get_or a i 0 * m + carry in
      let v = t % 2 ^ 32 in
      let big : t < 2 ^ 64 = times-fits (get_or a i 0) m carry x M p.small in
      record {
        within = simp length-set (omega arith);
        long = length-set a i v ∙ p.long;
        small = omega arith;
        below = rw (add-one i, lower-set a i l v) (below_step (value (take i a)) v (weight i) (weight (suc i)) p.below (omega arith) (pow-suc (2 ^ 32) i));
        is =
            rw (add-one i, lower-set a i l v, above-set a i l v)
            (times-step (value (take i a)) carry m (value (drop i a)) (value (drop (suc i) a)) (get_or a i 0) (t / 2 ^ 32) v (weight i) (weight (suc i)) (value a₀ * m + c) p.is (upper a i l) (div-add-mod' t (2 ^ 32)) (pow-suc (2 ^ 32) i));
      }

  pub times_below : length a ≤ i → value a < weight (length a₀)
  times_below l =
      let e : i ≡ length a = omega (arith, p.within) in
      rw (← p.long) (rw (e, take-length a) at p.below)

  pub times-done : length a ≤ i → value a + carry * weight (length a₀) ≡ value a₀ * m + c
  unfolding value
  times-done l =
      let e : i ≡ length a = omega (arith, p.within) in
      let f : i ≡ length a₀ = e ∙ p.long in
      let k = rw (e, take-length a, drop-length a) at p.is in
      rw (← p.long) (omega (arith, k))

-- ---- c above a, over m: the digits from i on are the quotient's, and the rest stands before the digits below
pub record Over (a₀ : List ℕ) (m c : ℕ) (a : List ℕ) (rest i : ℕ) : Type 0 where
  pub within : i ≤ length a
  pub long : length a ≡ length a₀
  pub small : rest < m
  pub is : (m * value (drop i a) + rest) * weight i + value (take i a) ≡ c * weight (length a₀) + value a₀

pub over_none : (a : List ℕ) (m c : ℕ) → c < m → Over a m c a c (length a)
unfolding value
over_none a m c h = record { within = omega arith; long = refl; small = h; is = rw (take-length a, drop-length a) (omega arith) }

over-step : (m W rest w w' T L x v r A : ℕ) → (m * W + rest) * w' + L ≡ A → L ≡ T + x * w → w' ≡ w * 2 ^ 32 → v * m + r ≡ rest * 2 ^ 32 + x → (m * (W * 2 ^ 32 + v) + r) * w + T ≡ A
over-step m W rest w w' T L x v r A e l d t =
    let f : (v * m + r) * w ≡ (rest * 2 ^ 32 + x) * w = ap (λ (z : ℕ). z * w) t in
    let g : (m * W + rest) * w' ≡ (m * W + rest) * (w * 2 ^ 32) = ap (λ (z : ℕ). (m * W + rest) * z) d in
    omega arith

module _ (a₀ : List ℕ) (m c : ℕ) (a : List ℕ) (rest i j : ℕ) (e : i ≡ suc j) (q : Over a₀ m c a rest i) where
  pub over-next : Over a₀ m c (set a j ((rest * 2 ^ 32 + get_or a j 0) / m)) ((rest * 2 ^ 32 + get_or a j 0) % m) j
  over-next =
      let p : Over a₀ m c a rest (suc j) = rw e at q in
      let t = rest * 2 ^ 32 + get_or a j 0 in
      let v = t / m in
      let l : j < length a = p.within in
      record {
        within = simp length-set (omega arith);
        long = length-set a j v ∙ p.long;
        small = mod-lt t (omega (arith, p.small));
        is =
            rw (upper-set a j l v, below_set a j l v)
            (over-step m (value (drop (suc j) a)) rest (weight j) (weight (suc j)) (value (take j a)) (value (take (suc j) a)) (get_or a j 0) v (t % m) (c * weight (length a₀) + value a₀) p.is (lower a j l) (pow-suc (2 ^ 32) j) (div-add-mod' t m));
      }

pub over_done : (a₀ : List ℕ) (m c : ℕ) (a : List ℕ) (rest : ℕ) → Over a₀ m c a rest 0 → value a * m + rest ≡ c * weight (length a₀) + value a₀
unfolding value
over_done a₀ m c a rest p = let e = p.is in omega arith
