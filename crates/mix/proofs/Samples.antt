-- The rows that a call leaves, sample by sample: in the part, the sample that was there and the wave at its place; outside it, the sample that was
-- there. Assumes nothing.
use Prim.Native.Nat.{ℕ, zero, suc, ◌+◌, ◌-◌, ◌≤◌, ◌<◌}
use native.Mathlib.Omega.{arith}
use native.Mathlib.Nat.{le_of_suc-le-suc, not-suc-le-zero}
use mathlib.Core.Path.{◌≡◌, refl, sym, ap, ◌∙◌}
use mathlib.Core.Bool.{and-false}
use mathlib.Core.List.{List, [], ◌∷◌, ◌++◌}
use lib.ListN.{length, get_or, take, drop, replicate, get_or-replicate, length-drop, length-replicate, get_or-append}
use lib.Seq.{get_or-take, get_or-drop, get_or-append-add, length-take-le}
use lib.Ieee.{Float, nan, binary64, add}
use Rattle.exact.specs.Doubles.{nought}
use Rattle.quant.specs.declared.complex.Complex.{Complex}
use Rattle.quant.specs.Complex.{times_c}
use Rattle.mix.specs.Plateau.{carried, carrier_after}
use Rattle.mix.specs.Envelope.{wave_of, shaped, shaped_by}
use Rattle.mix.specs.Part.{holds, on_part, second_row}

-- ---- the carrier, and the samples of a part

-- the first step may be taken at once
pub carrier-first : (n : ℕ) (z d : Complex) → carrier_after (suc n) z d ≡ carrier_after n (times_c z d) d
unfolding carrier_after
carrier-first zero z d = refl
carrier-first (suc n) z d = ap (λ (y : Complex). times_c y d) (carrier-first n z d)

pub carried-length : (part : Complex → Float) (z d : Complex) (xs : List Float) → length (carried part z d xs) ≡ length xs
unfolding carried
carried-length part z d [] = refl
carried-length part z d (x ∷ xs) = ap suc (carried-length part (times_c z d) d xs)

pub carried-at : (part : Complex → Float) (z d : Complex) (xs : List Float) (k : ℕ) → k < length xs
    → get_or (carried part z d xs) k nan ≡ add binary64 (get_or xs k nan) (part (carrier_after k z d))
unfolding carried carrier_after
carried-at part z d [] k h = absurd (not-suc-le-zero h)
carried-at part z d (x ∷ xs) zero h = refl
carried-at part z d (x ∷ xs) (suc k) h =
    carried-at part (times_c z d) d xs k (le_of_suc-le-suc h)
    ∙ ap (λ (y : Complex). add binary64 (get_or xs k nan) (part y)) (sym (carrier-first k z d))

pub shaped-length : (part : Complex → Float) (amp drag d : Complex) (left : Float) (es : List Float) (z : Complex) (xs : List Float)
    → length (shaped part amp drag d left es z xs) ≡ length xs
unfolding shaped
shaped-length part amp drag d left [] z xs = refl
shaped-length part amp drag d left (e ∷ es) z [] = refl
shaped-length part amp drag d left (e ∷ es) z (x ∷ xs) = ap suc (shaped-length part amp drag d e es (times_c z d) xs)

-- the neighbours of point k: the one before it, where `left` stands before the first, and the one after it, where 0.0 stands behind the last
abbrev pub wave_at : Complex → Complex → Float → List Float → Complex → Complex → ℕ → Complex
wave_at amp drag left es z d k = wave_of (carrier_after k z d) amp drag (get_or (left ∷ es) k nought) (get_or es k nought) (get_or es (suc k) nought)

pub shaped-at : (part : Complex → Float) (amp drag d : Complex) (left : Float) (es : List Float) (z : Complex) (xs : List Float) (k : ℕ) → k < length xs → k < length es
    → get_or (shaped part amp drag d left es z xs) k nan ≡ add binary64 (get_or xs k nan) (part (wave_at amp drag left es z d k))
unfolding shaped carrier_after
shaped-at part amp drag d left [] z xs k h g = absurd (not-suc-le-zero g)
shaped-at part amp drag d left (e ∷ es) z [] k h g = absurd (not-suc-le-zero h)
shaped-at part amp drag d left (e ∷ es) z (x ∷ xs) zero h g = refl
shaped-at part amp drag d left (e ∷ es) z (x ∷ xs) (suc k) h g =
    shaped-at part amp drag d e es (times_c z d) xs k (le_of_suc-le-suc h) (le_of_suc-le-suc g)
    ∙ ap (λ (y : Complex). add binary64 (get_or xs k nan) (part (wave_of y amp drag (get_or (e ∷ es) k nought) (get_or es k nought) (get_or es (suc k) nought)))) (sym (carrier-first k z d))

-- ---- a part within a row

-- past the seam of two lists
past : (p q : List Float) (s k : ℕ) → length p ≡ s → get_or (p ++ q) (s + k) nan ≡ get_or q k nan
past p q s k e = ap (λ (j : ℕ). get_or (p ++ q) (j + k) nan) (sym e) ∙ get_or-append-add p q k nan

module _ (s n : ℕ) (f : List Float → List Float) (row : List Float) (fits : s + n ≤ length row) (same : length (f (take n (drop s row))) ≡ n) where
  abbrev changed : List Float
  changed = f (take n (drop s row))

  abbrev rest : List Float
  rest = drop (s + n) row

  pub before-part : (k : ℕ) → k < s → get_or (on_part s n f row) k nan ≡ get_or row k nan
  unfolding on_part
  before-part k h =
      let front : length (take s row) ≡ s = length-take-le s row (omega arith) in
      get_or-append (take s row) (changed ++ rest) nan k (omega (arith, front)) ∙ get_or-take s row k nan h

  from_start : (k : ℕ) → get_or (on_part s n f row) (s + k) nan ≡ get_or (changed ++ rest) k nan
  unfolding on_part
  from_start k = past (take s row) (changed ++ rest) s k (length-take-le s row (omega arith))

  in_part : (k : ℕ) → k < n → get_or (on_part s n f row) (s + k) nan ≡ get_or changed k nan
  in_part k h = from_start k ∙ get_or-append changed rest nan k (omega (arith, same))

  pub behind-part : (k : ℕ) → s + n ≤ k → get_or (on_part s n f row) k nan ≡ get_or row k nan
  behind-part k h =
      let j = k - (s + n) in
      let at : s + (n + j) ≡ k = omega arith in
      ap (λ (m : ℕ). get_or (on_part s n f row) m nan) (sym at)
      ∙ from_start (n + j)
      ∙ past changed rest n j same
      ∙ get_or-drop (s + n) row j nan
      ∙ ap (λ (m : ℕ). get_or row m nan) (omega arith)

part_length : (s n : ℕ) (row : List Float) → s + n ≤ length row → length (take n (drop s row)) ≡ n
part_length s n row fits = length-take-le n (drop s row) (simp length-drop (omega arith))

part_at : (s n : ℕ) (row : List Float) (k : ℕ) → k < n → get_or (take n (drop s row)) k nan ≡ get_or row (s + k) nan
part_at s n row k h = get_or-take n (drop s row) k nan h ∙ get_or-drop s row k nan

-- ---- sample k of a plateau
module _ (part : Complex → Float) (z d : Complex) (s n : ℕ) (row : List Float) (fits : s + n ≤ length row) where
  plateau-length : length (carried part z d (take n (drop s row))) ≡ n
  plateau-length = carried-length part z d (take n (drop s row)) ∙ part_length s n row fits

  pub plateau-at : (k : ℕ) → k < n → get_or (on_part s n (carried part z d) row) (s + k) nan ≡ add binary64 (get_or row (s + k) nan) (part (carrier_after k z d))
  plateau-at k h =
      in_part s n (carried part z d) row fits plateau-length k h
      ∙ carried-at part z d (take n (drop s row)) k (omega (arith, part_length s n row fits))
      ∙ ap (λ (x : Float). add binary64 x (part (carrier_after k z d))) (part_at s n row k h)

  pub plateau-before : (k : ℕ) → k < s → get_or (on_part s n (carried part z d) row) k nan ≡ get_or row k nan
  plateau-before k h = before-part s n (carried part z d) row fits plateau-length k h

  pub plateau-behind : (k : ℕ) → s + n ≤ k → get_or (on_part s n (carried part z d) row) k nan ≡ get_or row k nan
  plateau-behind k h = behind-part s n (carried part z d) row fits plateau-length k h

-- on a row of zeros
pub plateau-on-zeros : (part : Complex → Float) (z d : Complex) (len s n k : ℕ) → s + n ≤ len → k < n
    → get_or (on_part s n (carried part z d) (replicate len nought)) (s + k) nan ≡ add binary64 nought (part (carrier_after k z d))
plateau-on-zeros part z d len s n k fits h =
    plateau-at part z d s n (replicate len nought) (simp length-replicate fits) k h
    ∙ ap (λ (x : Float). add binary64 x (part (carrier_after k z d))) (get_or-replicate len (s + k) nought nan (omega arith))

-- ---- sample k of an envelope of n points
module _ (part : Complex → Float) (amp drag d : Complex) (points : List Float) (z : Complex) (s : ℕ) (row : List Float) (fits : s + length points ≤ length row) where
  abbrev f : List Float → List Float
  f xs = shaped_by part amp drag d points z xs

  abbrev n : ℕ
  n = length points

  envelope-length : length (f (take n (drop s row))) ≡ n
  envelope-length = shaped-length part amp drag d nought points z (take n (drop s row)) ∙ part_length s n row fits

  pub envelope-at : (k : ℕ) → k < n → get_or (on_part s n f row) (s + k) nan ≡ add binary64 (get_or row (s + k) nan) (part (wave_at amp drag nought points z d k))
  envelope-at k h =
      in_part s n f row fits envelope-length k h
      ∙ shaped-at part amp drag d nought points z (take n (drop s row)) k (omega (arith, part_length s n row fits)) h
      ∙ ap (λ (x : Float). add binary64 x (part (wave_at amp drag nought points z d k))) (part_at s n row k h)

  pub envelope-before : (k : ℕ) → k < s → get_or (on_part s n f row) k nan ≡ get_or row k nan
  envelope-before k h = before-part s n f row fits envelope-length k h

  pub envelope-behind : (k : ℕ) → s + n ≤ k → get_or (on_part s n f row) k nan ≡ get_or row k nan
  envelope-behind k h = behind-part s n f row fits envelope-length k h

-- ---- one row: the second stays, whatever it holds
pub second-stays : (s n : ℕ) (i q : List Float) (g : List Float → List Float) → second_row 1 s n i q g ≡ q
second-stays s n i q g = rw (and-false (holds (length i) s n))
