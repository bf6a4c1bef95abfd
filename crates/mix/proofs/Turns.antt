-- One turn of a mixing loop, said of what is left: the samples laid so far and what is to come of the rest make up the whole. Assumes nothing.
use Prim.Native.Nat.{ℕ, suc, ◌+◌, ◌≤◌, ◌<◌}
use native.Mathlib.Omega.{arith}
use native.Mathlib.Numerals.{add-one}
use mathlib.Core.Path.{◌≡◌, ap, ◌∙◌}
use mathlib.Core.List.{List, [], ◌∷◌, ◌++◌, append-nil}
use lib.ListN.{length, get_or, take, drop, set, length-set, drop_of_length-le}
use lib.Seq.{drop-cons, drop-set-lt, get_or-drop, take_all, take-suc-set, append_snoc}
use lib.Ieee.{Float, nan, binary64, add}
use Rattle.exact.specs.Doubles.{nought}
use Rattle.quant.specs.declared.complex.Complex.{Complex}
use Rattle.quant.specs.Complex.{times_c}
use Rattle.mix.specs.Plateau.{carried}
use Rattle.mix.specs.Envelope.{wave_of, shaped}

-- k samples of the row are laid, and with the rest they make up `all`
pub record Laid (all row₀ row : List Float) (k : ℕ) (rest : List Float) : Type 0 where
  pub within : k ≤ length row
  pub same : length row ≡ length row₀
  pub whole : take k row ++ rest ≡ all

-- sample k is stored, and the rest is worked out from what is left
stored : (all row₀ row : List Float) (k : ℕ) (y : Float) (todo : List Float → List Float) → k < length row
    → Laid all row₀ row k (y ∷ todo (drop (suc k) row))
    → Laid all row₀ (set row k y) (suc k) (todo (drop (suc k) (set row k y)))
stored all row₀ row k y todo h laid =
    let under : k < suc k = omega arith in
    record {
      within = simp length-set (omega arith);
      same = simp length-set laid.same;
      whole =
          rw (take-suc-set row k y h, drop-set-lt (suc k) row k y under)
          (append_snoc (take k row) y (todo (drop (suc k) row)) ∙ laid.whole);
    }

-- nothing is left
pub landed : (all row₀ row : List Float) (k : ℕ) (rest : List Float) → length row ≤ k → rest ≡ [] → Laid all row₀ row k rest → row ≡ all
landed all row₀ row k rest h none laid = rw (none, take_all k row h, append-nil) at laid.whole

-- ---- a plateau
module _ (part : Complex → Float) (all row₀ row : List Float) (k : ℕ) (z d : Complex) where
  pub plateau-turn : k < length row → Laid all row₀ row k (carried part z d (drop k row))
      → let row' = set row k (add binary64 (get_or row k nan) (part z)) in Laid all row₀ row' (k + 1) (carried part (times_c z d) d (drop (k + 1) row'))
  unfolding carried
  plateau-turn h laid =
      rw (add-one k)
      (stored all row₀ row k (add binary64 (get_or row k nan) (part z)) (carried part (times_c z d) d) h
      (rw (drop-cons row k nan h) at laid))

  pub plateau-end : length row ≤ k → Laid all row₀ row k (carried part z d (drop k row)) → row ≡ all
  unfolding carried
  plateau-end h laid = landed all row₀ row k (carried part z d (drop k row)) h (rw (drop_of_length-le row h)) laid

-- ---- an envelope
module _ (part : Complex → Float) (amp drag d : Complex) (points all row₀ row : List Float) (k : ℕ) (left : Float) (z : Complex) where
  pub envelope-turn : (here right : Float) → here ≡ get_or points k nought → right ≡ get_or points (k + 1) nought → k < length row → k < length points
      → Laid all row₀ row k (shaped part amp drag d left (drop k points) z (drop k row))
      → let row' = set row k (add binary64 (get_or row k nan) (part (wave_of z amp drag left here right))) in
      Laid all row₀ row' (k + 1) (shaped part amp drag d here (drop (k + 1) points) (times_c z d) (drop (k + 1) row'))
  unfolding shaped
  envelope-turn here right e f h g laid =
      let next : get_or (drop (suc k) points) 0 nought ≡ get_or points (suc k) nought = get_or-drop (suc k) points 0 nought ∙ ap (λ (j : ℕ). get_or points j nought) (omega arith) in
      rw (e, f, add-one k)
      (stored all row₀ row k (add binary64 (get_or row k nan) (part (wave_of z amp drag left (get_or points k nought) (get_or points (suc k) nought)))) (shaped part amp drag d (get_or points k nought) (drop (suc k) points) (times_c z d)) h
      (rw (drop-cons row k nan h, drop-cons points k nought g, next) at laid))

  pub envelope-end : length row ≤ k → length points ≤ k → Laid all row₀ row k (shaped part amp drag d left (drop k points) z (drop k row)) → row ≡ all
  unfolding shaped
  envelope-end h g laid = landed all row₀ row k (shaped part amp drag d left (drop k points) z (drop k row)) h (rw (drop_of_length-le points g, drop_of_length-le row h)) laid
