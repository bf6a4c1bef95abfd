-- What a run has left: the pulse at the first row with its mark, and what is behind that row. By the rows in turn. Assumes nothing.
use Prim.Native.Nat.{ℕ, zero, suc, ◌+◌, ◌-◌, ◌≤◌, ◌<◌}
use native.Mathlib.Omega.{arith}
use native.Mathlib.Numerals.{add-one}
use mathlib.Core.Path.{◌≡◌, refl, sym, ap, ◌∙◌}
use mathlib.Core.Bool.{Bool, true, false, cond}
use mathlib.Core.List.{List, [], ◌∷◌, map}
use lib.Dec.{eqb}
use lib.Ieee.{Float}
use lib.ListN.{length, take, drop, get_or}
use Rattle.pulse.specs.declared.list.Pulse.{Pulse}
use Rattle.merge.specs.Sum.{scaled_p}
use Rattle.mixdown.specs.declared.runs.Run.{Run}
use Rattle.mixdown.specs.Runs.{pulse_at, pulses_in, of_mark, run_in, advanced, advanced_by, behind}
use Rattle.mixdown.proofs.Spans.{span-cons, span_none, advanced-here, advanced-later, advanced-over}

-- ---- the work rows as pulses

pub pulses-length : (work : List (List Float)) (marks : List ℕ) → length work ≡ length marks → length (pulses_in work marks) ≡ length work
unfolding pulses_in
pulses-length [] marks e = refl
pulses-length (r ∷ rs) [] e = absurd (omega arith)
pulses-length (r ∷ rs) (m ∷ ms) e = ap suc (pulses-length rs ms (omega arith))

pub pulses-at : (work : List (List Float)) (marks : List ℕ) (at : ℕ) (d : Pulse) → at < length work → at < length marks → get_or (pulses_in work marks) at d ≡ pulse_at work marks at
unfolding pulses_in
pulses-at [] marks at d h k = absurd (omega arith)
pulses-at (r ∷ rs) [] at d h k = absurd (omega arith)
pulses-at (r ∷ rs) (m ∷ ms) zero d h k = refl
pulses-at (r ∷ rs) (m ∷ ms) (suc at) d h k = pulses-at rs ms at d (omega arith) (omega arith)

-- ---- those with a mark, from one row up to another
module _ (work : List (List Float)) (marks : List ℕ) (same : length work ≡ length marks) (end mark : ℕ) (within : end ≤ length marks) where
  abbrev left : ℕ → List Pulse
  left at = of_mark mark (take (end - at) (drop at (pulses_in work marks)))

  abbrev next : ℕ → ℕ
  next at = advanced marks at end mark

  pub record Front (at : ℕ) : Type 0 where
    pub found : next at < end → left at ≡ pulse_at work marks (next at) ∷ left (suc (next at))
    pub none : end ≤ next at → left at ≡ []
    pub moved : left at ≡ left (next at)

  head : (at : ℕ) → at < end → left at ≡ cond (eqb (get_or marks at 0) mark) (pulse_at work marks at ∷ left (suc at)) (left (suc at))
  unfolding of_mark
  head at h = rw (span-cons (pulses_in work marks) at end (pulse_at work marks at) h (rw (pulses-length work marks same) (omega (arith, same, within))), pulses-at work marks at (pulse_at work marks at) (omega (arith, same, within)) (omega (arith, within))) refl

  over : (at : ℕ) → end ≤ at → left at ≡ []
  unfolding of_mark
  over at h = rw (span_none (pulses_in work marks) at end h) refl

  by_rows : (n at : ℕ) → end - at ≡ n → Front at
  by_rows zero at e =
      let done : end ≤ at = omega arith in
      let here = advanced-over marks at end mark done in
      record { found = λ h. absurd (omega (arith, here)); none = λ h. over at done; moved = rw here refl }
  by_rows (suc n) at e = go (eqb (get_or marks at 0) mark) refl (by_rows n (suc at) (omega arith))
    where
      before : at < end
      before = omega arith

      go : (b : Bool) → eqb (get_or marks at 0) mark ≡ b → Front (suc at) → Front at
      go true t later =
          let here = advanced-here marks at end mark before within t in
          record { found = λ h. rw here (head at before ∙ rw t refl); none = λ h. absurd (omega (arith, here, h, before)); moved = rw here refl }
      go false t later =
          let there : next (suc at) ≡ next at = ap next (sym (add-one at)) ∙ advanced-later marks at end mark before within t in
          let skip : left at ≡ left (suc at) = head at before ∙ rw t refl in
          record {
            found = λ h. skip ∙ later.found (omega (arith, there, h)) ∙ ap (λ (n : ℕ). pulse_at work marks n ∷ left (suc n)) there;
            none = λ h. skip ∙ later.none (omega (arith, there, h));
            moved = skip ∙ later.moved ∙ ap left there;
          }

  pub front : (at : ℕ) → Front at
  front at = by_rows (end - at) at refl

-- ---- a run
module _ (work : List (List Float)) (marks : List ℕ) (same : length work ≡ length marks) (r : Run) (within : r.end ≤ length marks) where
  pub run-next : advanced_by marks r < r.end → run_in (pulses_in work marks) r ≡ scaled_p r.factor (pulse_at work marks (advanced_by marks r)) ∷ run_in (pulses_in work marks) (behind marks (advanced_by marks r) r)
  run-next h =
      let f = front work marks same r.end r.mark within in
      ap (map (scaled_p r.factor)) ((f r.at).found h ∙ ap (λ (ps : List Pulse). pulse_at work marks (advanced_by marks r) ∷ ps) (ap (left work marks same r.end r.mark within) (sym (add-one (advanced_by marks r))) ∙ (f (advanced_by marks r + 1)).moved))

  pub run_none : r.end ≤ advanced_by marks r → run_in (pulses_in work marks) r ≡ []
  run_none h = ap (map (scaled_p r.factor)) ((front work marks same r.end r.mark within r.at).none h)
