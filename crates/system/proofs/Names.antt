-- A sampling call is refused by 17 or 18 exactly when the crosstalk's names have a first that is at fault, and by that one, and never by 19; so where
-- no name is at fault, none of the three is given. Assumes nothing.
use Prim.Native.Nat.{ℕ}
use mathlib.Core.Path.{◌≡◌, refl, sym, subst, ◌∙◌}
use mathlib.Core.Bool.{false, true≢false}
use mathlib.Core.Logic.{◌↔◌}
use mathlib.Core.List.{List, [], ◌∷◌}
use lib.Ieee.{Float}
use lib.ListN.{length}
use Rattle.exact.specs.Among.{among}
use Rattle.quant.specs.declared.refusal.Refusal.{Refusal}
use Rattle.quant.specs.declared.refusal.Refusal.TheVariants.{DoubledName, NoList, NoColumn}
use Rattle.quant.specs.Refusal.{number_of, Answer, refuse}
use Rattle.crosstalk.specs.declared.names.Crosstalk.{Crosstalk}
use Rattle.crosstalk.specs.Crosstalk.{names_in}
use Rattle.crosstalk.specs.Faults.{AtFault, NoneBefore, FirstAtFault}
use Rattle.crosstalk.proofs.Laws.{name-planned}
use Rattle.sampler.specs.declared.Request.{Request}
use Rattle.sampler.specs.Sampler.{Left, sampled}
use Rattle.system.specs.System.{State, outcome, has_sampled}
use Rattle.system.specs.Said.{pulse_numbers, AtName, SampleSaid, before-any, at_name, at_one}
use Rattle.system.proofs.Sampling.{sample-said}
use Rattle.system.proofs.Twelve.{Answers}

-- the three numbers that speak of names
pub data OfNames : Refusal → Type 0 where
  seventeen : OfNames DoubledName
  eighteen : OfNames NoList
  nineteen : OfNames NoColumn

module _ (s : State) (r : Request) (c : Crosstalk) (factors : List Float) where
  abbrev result : Left
  result = sampled s.tables r c factors s.bins s.pulses s.rows s.work s.marks

  -- none of the three is among the other numbers of the call
  no_other : (q : Refusal) → OfNames q → (among (1 ∷ 13 ∷ 2 ∷ 7 ∷ []) (number_of q) ≡ false) × (among pulse_numbers (number_of q) ≡ false)
  unfolding among
  no_other q seventeen = (refl, refl)
  no_other q eighteen = (refl, refl)
  no_other q nineteen = (refl, refl)

  told_at : (q : Refusal) (k : ℕ) → OfNames q → Answers s r c factors (refuse q k) → AtName s r c factors q k
  unfolding outcome
  told_at q k of e = by (subst (λ (a : Answer). SampleSaid s r c factors a (has_sampled s result).after) e (sample-said s r c factors))
    where
      by : SampleSaid s r c factors (refuse q k) (has_sampled s result).after → AtName s r c factors q k
      by (before-any h) = absurd (true≢false (sym h.number ∙ (no_other q of).0))
      by (at_name h _) = h
      by (at_one h) = absurd (true≢false (sym h.number ∙ (no_other q of).1))

  at_told : (q : Refusal) (k : ℕ) → AtName s r c factors q k → Answers s r c factors (refuse q k)
  unfolding sampled outcome
  at_told q k h =
      let plan = name-planned s.tables r.channel c factors h.each-factor h.fine q k h.first in
      rw (h.fit, h.sizes, plan)

  -- exactly when, of all three
  pub name-refused : (q : Refusal) (k : ℕ) → OfNames q → Answers s r c factors (refuse q k) ↔ AtName s r c factors q k
  name-refused q k of = (told_at q k of, at_told q k)

  -- 19 is a sheet's alone
  pub never-no-column : (k : ℕ) → Answers s r c factors (refuse NoColumn k) → ⊥
  never-no-column k e = none (told_at NoColumn k nineteen e).first
    where
      no_way : (i : ℕ) → AtFault s.tables (names_in c) i NoColumn → ⊥
      no_way i = elim [ ]

      none : FirstAtFault s.tables (names_in c) NoColumn k → ⊥
      none f = no_way f.place f.fault

  -- no name is at fault: none of the three
  pub no-name-refused : NoneBefore s.tables (names_in c) (length (names_in c)) → (q : Refusal) (k : ℕ) → OfNames q → Answers s r c factors (refuse q k) → ⊥
  no-name-refused none q k of e = let first = (told_at q k of e).first in none first.place first.there q first.fault
