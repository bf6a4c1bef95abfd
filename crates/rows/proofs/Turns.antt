-- A loop that puts a new row into the place of an old one, sample by sample: after k turns the first k samples are new. Assumes nothing.
use mathlib.Core.Path.{◌≡◌, refl, sym, ap, ◌∙◌}
use mathlib.Core.List.{List, [], ◌∷◌}
use Prim.Native.Nat.{ℕ, zero, suc, ◌+◌, ◌<◌}
use native.Mathlib.Nat.{le_of_suc-le-suc, not-suc-le-zero, suc-ne-zero, suc_inj}
use native.Mathlib.Numerals.{add-one}
use lib.ListN.{length, get_or, set}

module _ {A : Type 0} where
  -- the first k of `new`, then what `old` has from k on
  unfoldable pub upto : List A → List A → ℕ → List A
  upto new old zero = old
  upto [] old (suc k) = old
  upto (x ∷ new) [] (suc k) = []
  upto (x ∷ new) (y ∷ old) (suc k) = x ∷ upto new old k

  pub upto-length : (new old : List A) (k : ℕ) → length (upto new old k) ≡ length old
  unfolding upto
  upto-length new old zero = refl
  upto-length [] old (suc k) = refl
  upto-length (x ∷ new) [] (suc k) = refl
  upto-length (x ∷ new) (y ∷ old) (suc k) = ap suc (upto-length new old k)

  -- the k-th is still the old one
  pub upto-get : (new old : List A) (k : ℕ) (d : A) → get_or (upto new old k) k d ≡ get_or old k d
  unfolding upto
  upto-get new old zero d = refl
  upto-get [] old (suc k) d = refl
  upto-get (x ∷ new) [] (suc k) d = refl
  upto-get (x ∷ new) (y ∷ old) (suc k) d = upto-get new old k d

  next : (new old : List A) (k : ℕ) (d v : A) → k < length old → length new ≡ length old → get_or new k d ≡ v → set (upto new old k) k v ≡ upto new old (suc k)
  unfolding upto
  next [] [] k d v h e g = absurd (not-suc-le-zero h)
  next [] (y ∷ old) k d v h e g = absurd (suc-ne-zero (length old) (sym e))
  next (x ∷ new) [] k d v h e g = absurd (not-suc-le-zero h)
  next (x ∷ new) (y ∷ old) zero d v h e g = ap (λ (z : A). z ∷ old) (sym g)
  next (x ∷ new) (y ∷ old) (suc k) d v h e g = ap (λ (l : List A). x ∷ l) (next new old k d v (le_of_suc-le-suc h) (suc_inj e) g)

  pub upto_next : (new old : List A) (k : ℕ) (d v : A) → k < length old → length new ≡ length old → get_or new k d ≡ v → set (upto new old k) k v ≡ upto new old (k + 1)
  upto_next new old k d v h e g = next new old k d v h e g ∙ ap (upto new old) (sym (add-one k))

  pub upto-end : (new old : List A) → length new ≡ length old → upto new old (length old) ≡ new
  unfolding upto
  upto-end [] [] e = refl
  upto-end [] (y ∷ old) e = absurd (suc-ne-zero (length old) (sym e))
  upto-end (x ∷ new) [] e = absurd (suc-ne-zero (length new) e)
  upto-end (x ∷ new) (y ∷ old) e = ap (λ (l : List A). x ∷ l) (upto-end new old (suc_inj e))
