-- A number and its bytes, the least significant first: each way round, and what stands at each place of two words' sixteen.
-- Assumes nothing.
use Prim.Native.Nat.{ℕ, zero, suc, ◌+◌, ◌*◌, ◌/◌, ◌%◌, ◌^◌, ◌<◌}
use mathlib.Core.Path.{◌≡◌, refl, ap, sym}
use mathlib.Core.List.{List, [], ◌∷◌}
use native.Mathlib.Omega.{arith}
use native.Mathlib.Nat.{div-one, div-div-eq-div-mul, le_of_suc-le-suc, not-suc-le-zero, pow-succ'}
use lib.Dec.{lit<}
use lib.ListN.{length, get_or, length-append, get_or-append}
use lib.Pow.{pow-add}
use lib.Seq.{get_or-append-add}
use Rattle.naming.specs.Name.{word_of, low_bytes, bytes_of_word, sixteen}

-- ---- the bytes of a number

pub length-low : (k w : ℕ) → length (low_bytes k w) ≡ k
unfolding low_bytes
length-low zero w = refl
length-low (suc k) w = ap suc (length-low k (w / 256))

pub low-at : (k w i : ℕ) → i < k → get_or (low_bytes k w) i 0 ≡ w / 2 ^ (8 * i) % 256
unfolding low_bytes
low-at zero w i h = absurd (not-suc-le-zero h)
low-at (suc k) w zero h = sym (ap (λ (n : ℕ). n % 256) (div-one w))
low-at (suc k) w (suc i) h =
    let up : 8 * suc i ≡ 8 + 8 * i = omega arith in
    rw (low-at k (w / 256) i (le_of_suc-le-suc h), up, pow-add, div-div-eq-div-mul)

-- a number of at most k bytes is that of its k bytes
pub word-of-low : (k w : ℕ) → w < 256 ^ k → word_of (low_bytes k w) ≡ w
unfolding word_of low_bytes
word-of-low zero w h = omega arith
word-of-low (suc k) w h =
    let below : w < 256 * 256 ^ k = rw pow-succ' at h in
    rw (word-of-low k (w / 256) (omega arith)) (omega arith)

-- ---- the number of bytes

-- bytes that agree at every place are one number: zeros behind them change nothing
pub word_same : (a b : List ℕ) → ((k : ℕ) → get_or a k 0 ≡ get_or b k 0) → word_of a ≡ word_of b
unfolding word_of
word_same [] [] h = refl
word_same [] (y ∷ ys) h = let rest : 0 ≡ word_of ys = word_same [] ys (λ k. h (suc k)) in omega (arith, h 0)
word_same (x ∷ xs) [] h = let rest : word_of xs ≡ 0 = word_same xs [] (λ k. h (suc k)) in omega (arith, h 0)
word_same (x ∷ xs) (y ∷ ys) h = let rest = word_same xs ys (λ k. h (suc k)) in omega (arith, h 0)

pub word_lt : (l : List ℕ) → ((k : ℕ) → get_or l k 0 < 256) → word_of l < 256 ^ length l
unfolding word_of
word_lt [] h = lit< tt
word_lt (b ∷ bs) h = let rest = word_lt bs (λ k. h (suc k)) in rw pow-succ' (omega (arith, h 0))

-- the k bytes of that number are the bytes themselves, with zeros behind them
pub low-of-word : (k : ℕ) (l : List ℕ) → ((j : ℕ) → get_or l j 0 < 256) → (i : ℕ) → i < k → get_or (low_bytes k (word_of l)) i 0 ≡ get_or l i 0
unfolding word_of low_bytes
low-of-word zero l h i m = absurd (not-suc-le-zero m)
low-of-word (suc k) [] h zero m = refl
low-of-word (suc k) [] h (suc i) m = low-of-word k [] h i (le_of_suc-le-suc m)
low-of-word (suc k) (b ∷ bs) h zero m = omega (arith, h 0)
low-of-word (suc k) (b ∷ bs) h (suc i) m =
    let up : (b + 256 * word_of bs) / 256 ≡ word_of bs = omega (arith, h 0) in
    rw up (low-of-word k bs (λ j. h (suc j)) i (le_of_suc-le-suc m))

-- ---- the sixteen bytes of two words

module _ (first second : ℕ) where
  pub length-sixteen : length (sixteen first second) ≡ 16
  unfolding sixteen bytes_of_word
  length-sixteen = simp (length-append, length-low)

  pub first-at : (i : ℕ) → i < 8 → get_or (sixteen first second) i 0 ≡ get_or (bytes_of_word first) i 0
  unfolding sixteen bytes_of_word
  first-at i h = get_or-append (low_bytes 8 first) (low_bytes 8 second) 0 i (rw length-low h)

  pub second_at : (i : ℕ) → get_or (sixteen first second) (8 + i) 0 ≡ get_or (bytes_of_word second) i 0
  unfolding sixteen bytes_of_word
  second_at i = rw (length-low 8 first) at (get_or-append-add (low_bytes 8 first) (low_bytes 8 second) i 0)
