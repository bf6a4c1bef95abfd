-- The steps on rows: accepted, the count is 0; refused, all is as it came: by 13 or 2 at place 0, of sections by 22 too, with the section as place.
-- By what is found, in the order of the refusals. Assumes nothing.
use Rattle.quant.specs.Refusal.{Answer, refuse}
use Prim.Native.Nat.{ℕ}
use mathlib.Core.Path.{◌≡◌, refl}
use mathlib.Core.Bool.{Bool, true, false}
use mathlib.Core.Logic.{◌↔◌}
use mathlib.Core.List.{List}
use lib.Ieee.{Float}
use Rattle.exact.specs.Among.{among}
use Rattle.quant.specs.declared.refusal.Refusal.TheVariants.{WrongA0}
use Rattle.rows.specs.Rows.{answer_of}
use Rattle.iir.specs.Section.{sections_of}
use Rattle.iir.specs.Filter.{filtered}
use Rattle.iir.specs.A0.{AtSection}
use Rattle.iir.proofs.Calls as filter
use Rattle.system.specs.System.{State, iir, Step, stepped, iir_step, outcome}
use Rattle.system.specs.Said.{StepSaid, IirSaid, as_a-step, at-section}

-- a step with these rows, where it is done, and this answer
abbrev leaving : List Float → List Float → Answer → Step
leaving i q a = record { answer = a; i = i; q = q }

module _ (s : State) where
  pub step-said : (i q : List Float) (fits fine : Bool) → let x = leaving i q (answer_of fits fine) in StepSaid s (stepped s x).answer (stepped s x).after
  unfolding among
  step-said i q false fine = record { number = refl; place = refl; left = refl }
  step-said i q true false = record { number = refl; place = refl; left = refl }
  step-said i q true true = refl

  pub iir-said : (n : ℕ) (sections : List Float) → let x = iir_step s.rows n sections in IirSaid s n sections (stepped s x).answer (stepped s x).after
  unfolding among
  iir-said n sections = by (iir_step s.rows n sections).answer (filter.way n s.rows.i s.rows.q sections)
    where
      by : (a : Answer) → filter.Way n s.rows.i s.rows.q sections a
          → let x = leaving (filtered (sections_of sections) s.rows.i) (filtered (sections_of sections) s.rows.q) a in IirSaid s n sections (stepped s x).answer (stepped s x).after
      by a (filter.wrong_size e) = as_a-step (record { number = refl; place = refl; left = refl })
      by a (filter.malformed e f) = as_a-step (record { number = refl; place = refl; left = refl })
      by a (filter.at-section k h) = at-section h (record { number = refl; place = refl; left = refl })
      by a (filter.accepted h) = refl

  -- exactly when by 22, from any state
  pub section-refused : (n : ℕ) (sections : List Float) (k : ℕ) → ((outcome s (iir n sections)).answer ≡ refuse WrongA0 k) ↔ AtSection n s.rows.i s.rows.q sections k
  unfolding outcome
  section-refused n sections k = filter.section-told n s.rows.i s.rows.q sections k
