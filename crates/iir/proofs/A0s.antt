-- What is told of the sections' a0: 22 at section k exactly where k is the first whose a0 does not equal 1, and nothing exactly where each does, by
-- induction over the sections that are left. Where each does, each section runs as it was designed. Assumes nothing.
use Rattle.quant.specs.Refusal.{Answer, refuse}
use Rattle.std.specs.Prelude.{Ok}
use Prim.Native.Nat.{ℕ, zero, suc, ◌+◌, ◌*◌, ◌/◌, ◌≤◌, ◌<◌}
use native.Mathlib.Omega.{arith}
use mathlib.Core.Path.{◌≡◌, refl, sym, ap, subst}
use mathlib.Core.Bool.{Bool, true, false, cond}
use mathlib.Core.Logic.{◌⊎◌, inl, inr}
use mathlib.Core.List.{List}
use lib.Dec.{T}
use lib.ListN.{length, get_or}
use lib.Ieee.{Float, nan, binary64, div, eq, fits}
use Rattle.exact.specs.Doubles.{nought, one}
use Rattle.exact.proofs.Naturals.{below_or, first-once}
use Rattle.exact.proofs.Truth.{never}
use Rattle.exact.proofs.Unit.{over-one, is_one}
use Rattle.quant.specs.declared.refusal.Refusal.TheVariants.{WrongA0}
use Rattle.iir.specs.Section.{section_at, a0_at, a0s_from, a0s_judged}
use Rattle.iir.specs.A0.{FirstWrong, EachRight, designed_at}

module _ (l : List Float) where
  -- each a0 from section k up to section m equals 1
  abbrev Right : ℕ → ℕ → Type 0
  Right k m = (j : ℕ) → k ≤ j → j < m → eq (a0_at l j) one ≡ true

  right-from : (k m : ℕ) → eq (a0_at l k) one ≡ true → Right (suc k) m → Right k m
  right-from k m e rest j low high = go (below_or k j)
    where
      go : (k < j) ⊎ (j ≤ k) → eq (a0_at l j) one ≡ true
      go (inl h) = rest j h high
      go (inr h) = let same : k ≡ j = omega arith in subst (λ (x : ℕ). eq (a0_at l x) one ≡ true) same e

  -- ---- of the sections from k up to m

  data ToldFrom (k m : ℕ) : Answer → Type 0 where
    none_from : Right k m → ToldFrom k m (Ok 0)
    first-from : (p : ℕ) → k ≤ p → p < m → eq (a0_at l p) one ≡ false → Right k p → ToldFrom k m (refuse WrongA0 p)

  one_more : (k m : ℕ) → eq (a0_at l k) one ≡ true → (a : Answer) → ToldFrom (suc k) m a → ToldFrom k m a
  one_more k m e a (none_from h) = none_from (right-from k m e h)
  one_more k m e a (first-from p low high wrong h) = first-from p (omega arith) high wrong (right-from k p e h)

  told-from : (n k m : ℕ) → k + n ≡ m → ToldFrom k m (a0s_from l n k)
  unfolding a0s_from
  told-from zero k m e = none_from (λ j low high. absurd (omega arith))
  told-from (suc n) k m e = go (eq (a0_at l k) one) refl (told-from n (suc k) m (omega arith))
    where
      go : (b : Bool) → eq (a0_at l k) one ≡ b → ToldFrom (suc k) m (a0s_from l n (suc k)) → ToldFrom k m (cond b (a0s_from l n (suc k)) (refuse WrongA0 k))
      go true right later = one_more k m right (a0s_from l n (suc k)) later
      go false wrong later = first-from k (omega arith) (omega arith) wrong (λ j low high. absurd (omega arith))

  -- ---- of all

  pub data A0sTold : Answer → Type 0 where
    none-wrong : EachRight l → A0sTold (Ok 0)
    first-wrong : (k : ℕ) → FirstWrong l k → A0sTold (refuse WrongA0 k)

  pub told : A0sTold (a0s_judged l)
  told = go (a0s_judged l) (told-from (length l / 6) 0 (length l / 6) (omega arith))
    where
      go : (a : Answer) → ToldFrom 0 (length l / 6) a → A0sTold a
      go a (none_from h) = none-wrong (λ k under. h k (omega arith) under)
      go a (first-from p low high wrong h) = first-wrong p (record { there = high; wrong = wrong; right-before = λ j under. h j (omega arith) under })

  -- ---- and back

  one-first : (p k : ℕ) → FirstWrong l p → FirstWrong l k → p ≡ k
  one-first p k h f =
      first-once (λ j. eq (a0_at l j) one ≡ false) p k h.wrong (λ j under. never (h.right-before j under)) f.wrong (λ j under. never (f.right-before j under))

  pub none_is : EachRight l → a0s_judged l ≡ Ok 0
  none_is each = go (a0s_judged l) told
    where
      go : (a : Answer) → A0sTold a → a ≡ Ok 0
      go a (none-wrong h) = refl
      go a (first-wrong k h) = absurd (never (each k h.there) h.wrong)

  pub first-is : (k : ℕ) → FirstWrong l k → a0s_judged l ≡ refuse WrongA0 k
  first-is k f = go (a0s_judged l) told
    where
      go : (a : Answer) → A0sTold a → a ≡ refuse WrongA0 k
      go a (none-wrong h) = absurd (never (h k f.there) f.wrong)
      go a (first-wrong p h) = ap (refuse WrongA0) (one-first p k h f)

-- ---- what equals 1 is 1.0, and a number over 1.0 is itself: so sections that are accepted run as they were designed

module _ (l : List Float) (doubles : (j : ℕ) → T (fits binary64 (get_or l j nan))) (each : EachRight l) (k : ℕ) (under : k < length l / 6) where
  pub a0-is-one : a0_at l k ≡ one
  a0-is-one = is_one (a0_at l k) (doubles (6 * k + 3)) (each k under)

  over : (j : ℕ) → get_or l j nan ≡ div binary64 (get_or l j nan) (a0_at l k)
  over j = rw a0-is-one (sym (over-one (get_or l j nan) (doubles j)))

  pub as_designed : section_at l k ≡ designed_at l k
  as_designed =
      λ z.
      record {
        b0 = over (6 * k) z;
        b1 = over (6 * k + 1) z;
        b2 = over (6 * k + 2) z;
        a1 = over (6 * k + 4) z;
        a2 = over (6 * k + 5) z;
        s1 = nought;
        s2 = nought;
        y = nought;
      }
