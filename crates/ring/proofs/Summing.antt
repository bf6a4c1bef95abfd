-- Eight sums over one slot more: a slot outside the eight, where all outputs find the same sample, or one of them. Assumes nothing.
use borrow.Author.Tests.{le-leb, lt-leb}
use mathlib.Core.Path.{◌≡◌, refl, ap, ◌∙◌, subst}
use mathlib.Core.Logic.{◌≢◌, inl, inr}
use mathlib.Core.List.{List}
use Prim.Native.Nat.{ℕ, ◌+◌, ◌-◌, ◌≤◌, ◌<◌}
use native.Mathlib.Omega.{arith}
use lib.ListN.{length, get_or, replicate, get_or-replicate}
use lib.Ieee.{Float, nan, binary64, mul}
use Rattle.exact.proofs.Naturals.{below_or}
use Rattle.exact.specs.Doubles.{nought}
use Rattle.ring.specs.Ring.{delay, sum_to}
use Rattle.ring.specs.Inside.{Ready, Outside, crossed, EachAdded, Summed}
use Rattle.ring.proofs.Tap.{delay-back, delay-round}
use Rattle.ring.proofs.Slots.{ready-room, product, more, at_before, at_after, at_new, at_old}

module _ (taps ring : List Float) (s : ℕ) (xs : List Float) (ready : Ready taps ring) (turn : s + 8 ≤ length taps) (eight : length xs ≡ 8) where
  width : s + length xs ≤ length taps
  width = omega (arith, eight)

  room : length taps ≤ length ring
  room = ready-room ready

  each_more : (j : ℕ) (f : ℕ → Float) {sums sums' : List Float} → ((p : ℕ) → p < length xs → f p ≡ product taps ring s xs j p) → Summed taps ring s xs j sums → EachAdded f sums sums' → Summed taps ring s xs (j + 1) sums'
  each_more j f e i a = record { room = a.room; each = λ p h. let g : p < length xs = omega (arith, eight) in a.each p h ∙ more taps ring s xs width room p g j (j + 1) refl (e p g) (i.each p h) }

  pub summed-slot : (j t : ℕ) {sums sums' : List Float} → t ≡ delay (length taps) s j → j < length taps → Outside s j → j ≢ s → Summed taps ring s xs j sums → EachAdded (λ p. mul binary64 (get_or taps (t + p) nan) (get_or ring j nan)) sums sums' → Summed taps ring s xs (j + 1) sums'
  summed-slot j t e h (inl l) other =
      let at : delay (length taps) s j ≡ s - j = delay-back (length taps) s j (omega arith) l in
      each_more j _ (λ p g. at_before taps ring s xs width room p g j (t + p) (omega arith) (omega (arith, e, at)))
  summed-slot j t e h (inr l) other =
      let at : delay (length taps) s j ≡ length taps + s - j = delay-round (length taps) s j (omega arith) h in
      each_more j _ (λ p g. at_after taps ring s xs width room p g j (t + p) (omega (arith, eight)) h (omega (arith, e, at)))

  pub summed-crossed : (m : ℕ) {sums sums' : List Float} → m < 8 → Summed taps ring s xs (s + m) sums → EachAdded (crossed taps m (get_or ring (s + m) nan) (get_or xs m nan)) sums sums' → Summed taps ring s xs (s + m + 1) sums'
  summed-crossed m h = each_more (s + m) _ (λ p g. elim (below_or p m) [
    | inl l ↦ rw (lt-leb m p l) (at_old taps ring s xs width room p g (s + m) _ m refl l (omega (arith, eight)) (omega arith))
    | inr l ↦ rw (le-leb m p l) (at_new taps ring s xs width room p g (s + m) _ m refl l (omega arith))
  ])

  -- over no slot
  pub summed-none : {sums : List Float} → sums ≡ replicate 8 nought → Summed taps ring s xs 0 sums
  unfolding sum_to
  summed-none e = record { room = ap length e; each = λ p h. ap (λ (l : List Float). get_or l p nan) e ∙ get_or-replicate 8 p nought nan h }

-- over as many slots as said otherwise
pub summed_at : {taps ring : List Float} {s : ℕ} {xs : List Float} {i j : ℕ} {sums : List Float} → i ≡ j → Summed taps ring s xs i sums → Summed taps ring s xs j sums
summed_at {taps} {ring} {s} {xs} {sums = sums} e = subst (λ (n : ℕ). Summed taps ring s xs n sums) e
