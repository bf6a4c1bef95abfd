-- Demand 1 of the public calls that can refuse: every input has one answer, and what is refused is refused by document 01's numbers and leaves what
-- was lent. Call by call. Assumes nothing.
use Rattle.quant.specs.Refusal.{Answer, refuse}
use Rattle.tables.specs.declared.Untold.{Untold}
use Rattle.executor.specs.declared.osc.OscState.{OscState}
use Rattle.quant.specs.declared.aligned.Misplaced.{Misplaced}
use Rattle.quant.specs.declared.aligned.Start.{Start}
use Rattle.std.specs.Prelude.{Option, Some, None, Result, Err, Ok, Float}
use Rattle.tables.specs.declared.Untold.TheVariants as told
use Rattle.quant.specs.declared.aligned.Misplaced.TheVariants as placed
use Rattle.quant.specs.declared.complex.Complex.{Complex}
use Rattle.pulse.specs.declared.weight.Weight.{Weight}
use Rattle.naming.specs.declared.Name.{Name}
use Rattle.quant.specs.declared.settings.Settings.{Settings}
use Prim.Native.Nat.{ℕ}
use mathlib.Core.Path.{◌≡◌, refl, sym, ap, subst, ◌∙◌}
use mathlib.Core.Bool.{Bool, true, false, cond}
use mathlib.Core.List.{List, [], ◌∷◌}
use lib.ListN.{length}
use Rattle.exact.specs.Among.{among}
use Rattle.quant.specs.declared.refusal.Refusal.TheVariants.{NotFinite}
use Rattle.quant.specs.Aligned.{aligned_answer, placed_answer}
use Rattle.quant.specs.Phaser.{phased_answer}
use Rattle.quant.specs.Settings.{fitting_answer}
use Rattle.rows.specs.Rows.{answer_of}
use Rattle.executor.specs.Osc.{moved_answer, swapped_answer}
use Rattle.pulse.specs.Weight.{weighed_answer}
use Rattle.tables.specs.Tables.{told_answer, naming_answer}
use Rattle.shape.specs.Envelope.{least, limit_of, enveloped_of, scratch_after, enveloped_answer}
use Rattle.mixdown.specs.Sampled.{Out}
use Rattle.sheet.specs.Sheet as sheet
use Rattle.sheet.specs.Sheet.{outcome, names_of, matrix_of, printed_of, bytes_after, printed_answer}
use Rattle.sheet_answer.specs.Answer.{answer_prints, answer_left}
use Rattle.stand_ins.specs.Buffers.{parts_laid, mixed_for}
use Rattle.stand_ins.specs.StandIns.{equation}
use Rattle.every_call.specs.Demand.{Said, Answers, Which, align, place, phaser, set-up, shift-phase, set-phase, shift_freq, set_freq, swap-phase, weigh, lay-out, measure, envelope, judge, state, plan, steps, name-read, sheet-read, sheet-print, sheet-answer, mix-lists, execute-owned, none, refusing}
use Rattle.every_call.proofs.Numbers.{parted-said, points-said, measured-said, judged-said, planned-said, mixed-said, owned-said}
use Rattle.every_call.proofs.Sheets.{read-said, print-said, answer-said}

-- ---- a call whose promise is one equation, and that is lent nothing
module _ {A B : Type 0} (f : A → B) (accepted : B → Bool) (answer : B → Answer) (numbers : List ℕ) where
  pub by-equation : ((x : A) → Said numbers Unit (answer (f x))) → Answers (record { call = equation f accepted; answer = answer; numbers = numbers; Kept = none })
  by-equation h =
      record {
        answered = λ x. (f x, refl);
        only = λ x y z p q. p ∙ sym q;
        said = λ x y p. subst (λ (w : B). Said numbers Unit (answer w)) (sym p) (h x);
      }

  -- where each case is refused as said, whatever the call is given
  pub by_cases : ((y : B) → Said numbers Unit (answer y)) → Answers (record { call = equation f accepted; answer = answer; numbers = numbers; Kept = none })
  by_cases h = by-equation (λ x. h (f x))

-- the same of what a promise says is equal
moved : {K L : Type 0} (numbers : List ℕ) (a b : Answer) → b ≡ a → (K → L) → Said numbers K a → Said numbers L b
moved {L = L} numbers (Ok n) b e f h = subst (Said numbers L) (sym e) tt
moved {L = L} numbers (Err r) b e f h = subst (Said numbers L) (sym e) (h.0, f h.1)

-- ---- what each case says

aligned-said : (y : Option Float) → Said (8 ∷ []) Unit (aligned_answer y)
unfolding among
aligned-said (Some a) = tt
aligned-said None = (refl, tt)

placed-said : (y : Result Start Misplaced) → Said (8 ∷ 9 ∷ 10 ∷ []) Unit (placed_answer y)
unfolding among
placed-said (Ok p) = tt
placed-said (Err placed.NotFinite) = (refl, tt)
placed-said (Err placed.Before) = (refl, tt)
placed-said (Err placed.Beyond) = (refl, tt)

phased-said : (y : Option Complex) → Said (8 ∷ []) Unit (phased_answer y)
unfolding among
phased-said (Some z) = tt
phased-said None = (refl, tt)

fitting-said : (y : Option Settings) → Said (1 ∷ []) Unit (fitting_answer y)
unfolding among
fitting-said (Some s) = tt
fitting-said None = (refl, tt)

flag-said : (b : Bool) → Said (8 ∷ []) Unit (cond b (refuse NotFinite 0) (Ok 0))
unfolding among
flag-said true = (refl, tt)
flag-said false = tt

weighed-said : (y : Option Weight) → Said (8 ∷ []) Unit (weighed_answer y)
unfolding among
weighed-said (Some w) = tt
weighed-said None = (refl, tt)

told-said : (y : Result OscState Untold) → Said (2 ∷ 7 ∷ []) Unit (told_answer y)
unfolding among
told-said (Ok o) = tt
told-said (Err told.Malformed) = (refl, tt)
told-said (Err told.Unknown) = (refl, tt)

naming-said : (y : Option Name) → Said (2 ∷ []) Unit (naming_answer y)
unfolding among
naming-said (Some n) = tt
naming-said None = (refl, tt)

steps-said : (fits fine : Bool) → Said (13 ∷ 2 ∷ []) Unit (answer_of fits fine)
unfolding among
steps-said false fine = (refl, tt)
steps-said true false = (refl, tt)
steps-said true true = tt

-- ---- every call

pub every_call : (w : Which) → Answers (refusing w)
unfolding refusing
every_call align = by_cases _ _ aligned_answer _ aligned-said
every_call place = by_cases _ _ placed_answer _ placed-said
every_call phaser = by_cases _ _ phased_answer _ phased-said
every_call set-up = by_cases _ _ fitting_answer _ fitting-said
every_call shift-phase = by_cases _ _ moved_answer _ (λ y. flag-said y.refused)
every_call set-phase = by_cases _ _ moved_answer _ (λ y. flag-said y.refused)
every_call shift_freq = by_cases _ _ moved_answer _ (λ y. flag-said y.refused)
every_call set_freq = by_cases _ _ moved_answer _ (λ y. flag-said y.refused)
every_call swap-phase = by_cases _ _ swapped_answer _ (λ y. flag-said y.refused)
every_call weigh = by_cases _ _ weighed_answer _ weighed-said
every_call lay-out = by-equation _ _ _ _ (λ x. parted-said x.width x.plateau x.offset x.rate x.dt x.room)
every_call measure = by-equation _ _ _ _ (λ x. let c = x.curve in measured-said x.shape x.numbers c.width c.plateau c.offset c.rate c.dt (least c.room 65536))
every_call envelope =
    record {
      answered = λ x.
          let b = x.bent in
          (record { answer = enveloped_of b.shape b.numbers (parts_laid x); scratch = scratch_after b.shape b.numbers (parts_laid x) x.scratch }, (refl, refl));
      only = λ x y z p q i. record { answer = (p.0 ∙ sym q.0) i; scratch = (p.1 ∙ sym q.1) i };
      said = λ x y p.
          let b = x.bent in
          let c = b.curve in
          moved _ _ _ (ap enveloped_answer p.0) (λ k. p.1 ∙ k)
          (points-said b.shape b.numbers c.width c.plateau c.offset c.rate c.dt (limit_of c.room (length x.scratch)) x.scratch);
    }
every_call judge = by-equation _ _ _ _ (λ x. judged-said x.settings x.bin x.numbers x.pulse x.len)
every_call state = by_cases _ _ told_answer _ told-said
every_call plan = by-equation _ _ _ _ (λ x. planned-said x.tables x.channel x.cross x.factors)
every_call steps = by-equation _ _ _ _ (λ x. steps-said x.fits x.fine)
every_call name-read = by_cases _ _ naming_answer _ naming-said
every_call sheet-read =
    record {
      answered = λ x.
          let o = outcome x.text (length x.matrix) in
          (record { reading = record { answer = sheet.answer_of o; names = names_of o }; matrix = matrix_of o x.matrix }, record { answered = refl; named = refl; left = refl });
      only = λ x y z p q i.
          record {
            reading = record { answer = (p.answered ∙ sym q.answered) i; names = (p.named ∙ sym q.named) i };
            matrix = (p.left ∙ sym q.left) i;
          };
      said = λ x y p. moved _ _ _ p.answered (λ k. p.left ∙ k) (read-said x.matrix x.text);
    }
every_call sheet-print =
    record {
      answered = λ x.
          let r = printed_of x.count x.names x.matrix (length x.out) in
          (record { printed = r; out = bytes_after x.count x.names x.matrix r x.out }, record { answered = refl; left = refl });
      only = λ x y z p q i. record { printed = (p.answered ∙ sym q.answered) i; out = (p.left ∙ sym q.left) i };
      said = λ x y p. moved _ _ _ (ap printed_answer p.answered) (λ k. p.left ∙ k) (print-said x.count x.names x.matrix x.out);
    }
every_call sheet-answer =
    record {
      answered = λ x. (record { printed = answer_prints x.text (length x.out); out = answer_left x.text x.out }, record { answer = refl; left = refl });
      only = λ x y z p q i. record { printed = (p.answer ∙ sym q.answer) i; out = (p.left ∙ sym q.left) i };
      said = λ x y p. moved _ _ _ (ap printed_answer p.answer) (λ k. p.left ∙ k) (answer-said x.text x.out);
    }
every_call mix-lists =
    record {
      answered = λ x. (record { out = mixed_for x; work = x.work; marks = x.marks }, (refl, (refl, refl)));
      only = λ x y z p q i. record { out = (p.0 ∙ sym q.0) i; work = (p.1.0 ∙ sym q.1.0) i; marks = (p.1.1 ∙ sym q.1.1) i };
      said = λ x y p.
          moved _ _ _ (ap (λ (o : Out). o.answer) p.0) (λ k. p.1)
          (mixed-said x.settings x.tables x.taking x.ends x.bins x.work x.marks x.rows x.lent);
    }
every_call execute-owned = by-equation _ _ _ _ (λ x. owned-said x.state x.commands x.count)
