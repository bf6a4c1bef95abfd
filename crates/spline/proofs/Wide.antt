-- The differences hi - lo of the steps, tested one at a time. Assumes nothing.
use Rattle.std.proofs.Common.{◌≡◌, ℕ, zero, suc, ◌+◌, ◌-◌, ◌<◌, ◌≤◌, Bool, true, false, List, ◌∙◌, ⊎_elim, eq-or-lt_of_le, add-one, arith}
use lib.Ieee.{Float}
use lib.Ieee.Scale.{finite}
use Rattle.spline.specs.Walk.{wide_at, wide_round, wide_rounds}

-- what stays false once it is
stays : (f : ℕ → Bool) → ((n : ℕ) → f n ≡ false → f (suc n) ≡ false) → (m n : ℕ) → m ≤ n → f m ≡ false → f n ≡ false
stays f s m zero h e = let same : m ≡ 0 = omega arith in rw same at e
stays f s m (suc n) h e = ⊎_elim (λ (q : m ≡ suc n). rw q at e) (λ (q : m < suc n). s n (stays f s m n (omega arith) e)) (eq-or-lt_of_le h)

module _ (row : List Float) (p k r : ℕ) where
  -- d[r+1] to d[j] in round r + 1
  pub round-more : (j : ℕ) → r < j → wide_round row p k r (j - 1 - r) ≡ true → wide_round row p k r (j - r) ≡ finite (wide_at row p k r j)
  unfolding wide_round
  round-more j h e =
      let m : ℕ = j - 1 - r in
      let more : j - r ≡ suc m = omega arith in
      let last : r + suc m ≡ j = omega arith in
      rw (more, e, last)

  -- and the round's end
  pub rounds-more : wide_rounds row p k r ≡ true → wide_rounds row p k (r + 1) ≡ wide_round row p k r (p - r)
  unfolding wide_rounds
  rounds-more e = rw (add-one, e)

  pub not_wide : (j : ℕ) → r < j → j ≤ p → wide_rounds row p k r ≡ true → wide_round row p k r (j - 1 - r) ≡ true → finite (wide_at row p k r j) ≡ false
      → wide_rounds row p k p ≡ false
  unfolding wide_round wide_rounds
  not_wide j h g a e f =
      let round = stays (wide_round row p k r) (λ n z. rw z) (j - r) (p - r) (omega arith) (round-more j h e ∙ f) in
      stays (wide_rounds row p k) (λ n z. rw z) (r + 1) p (omega arith) (rounds-more a ∙ round)
