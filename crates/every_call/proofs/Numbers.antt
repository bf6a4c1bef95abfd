-- Which numbers the definitions of the calls can refuse with: by their cases and tests. Assumes nothing.
use Rattle.std.specs.Prelude.{Result, Ok, Err}
use Prim.Native.Nat.{ℕ}
use mathlib.Core.Path.{◌≡◌, refl, sym, subst, ◌∙◌}
use mathlib.Core.Bool.{Bool, true, false, ◌||◌, cond, true≢false}
use mathlib.Core.List.{List, [], ◌∷◌}
use mathlib.Core.Logic.{◌⊎◌, inl, inr}
use lib.Dec.{leb, ltb, eqb}
use lib.Ieee.{Float, lt, eq}
use lib.ListN.{length, take}
use Rattle.exact.specs.Among.{among}
use Rattle.exact.specs.Doubles.{nought}
use Rattle.naming.specs.declared.Name.{Name}
use Rattle.quant.specs.declared.refusal.Refusal.{Refusal}
use Rattle.quant.specs.declared.refusal.Refusal.TheVariants as why
use Rattle.quant.specs.declared.settings.Settings.{Settings}
use Rattle.quant.specs.Refusal.{number_of, Answer, refuse}
use Rattle.pulse.specs.declared.bin.Bin.{Bin}
use Rattle.pulse.specs.declared.envelope.Shape.{Shape}
use Rattle.pulse.specs.declared.list.Pulse.{Pulse}
use Rattle.tables.specs.declared.Tables.{Tables}
use Rattle.merge.specs.Taking.{parts_in}
use Rattle.crosstalk.specs.declared.names.Crosstalk.{Crosstalk}
use Rattle.crosstalk.specs.Crosstalk.{Plan, names_in, planned, plan_answer}
use Rattle.crosstalk.specs.Faults.{AtFault, doubled, no-list}
use Rattle.crosstalk.proofs.Laws.{Way, wrong_size, malformed, at-fault, unknown, accepted, way}
use Rattle.shape.specs.declared.parts.Parts.{Parts}
use Rattle.shape.specs.Parts.{index_at, t1, t3, unbroken, broken, in_order, parted_of, parted_answer}
use Rattle.shape.specs.Envelope.{enveloped_of, scratch_after, enveloped_answer}
use Rattle.shape.proofs.Envelopes.{refused-by, refused-stays}
use Rattle.placing.specs.declared.Judged.{Judged}
use Rattle.placing.specs.declared.Judged.TheVariants as judgement
use Rattle.placing.specs.Judged.{judged, judged_answer}
use Rattle.mixdown.specs.Bins.{all_rows, firsts_after}
use Rattle.mixdown.specs.Starts.{merged_in}
use Rattle.mixdown.specs.Sampled.{Rowed, out, ran_bins, mix_fits, mixed_down}
use Rattle.merge.specs.declared.taking.Taking.{Taking}
use Rattle.merge.specs.declared.work.Ends.{Ends}
use Rattle.commands.specs.declared.command.Arranged.{Arranged}
use Rattle.commands.specs.Run.{Ran, ran_to, refused_at, executed}
use Rattle.owned.specs.Owned.{executed_owned}
use Rattle.sampler_laws.specs.Added.{all_dues}
use Rattle.system.specs.System.{State, with_stored}
use Rattle.system.specs.Said.{command_numbers, pulse_numbers, CommandsSaid, before-any, at_one}
use Rattle.system.proofs.Commands.{commands-said}
use Rattle.system.proofs.Verdict.{judged-number, fewer, bins-verdict}
use Rattle.every_call.specs.Demand.{Said}

-- ---- one number more in front

in_front : (m n : ℕ) (numbers : List ℕ) → among numbers n ≡ true → among (m ∷ numbers) n ≡ true
unfolding among
in_front m n numbers h = go (eqb n m)
  where
    go : (b : Bool) → (b || among numbers n) ≡ true
    go true = refl
    go false = h

-- ---- an envelope's parts, its points, and a pulse

pub parted-said : (w p o rate dt : Float) (room : ℕ) → Said (11 ∷ 12 ∷ []) Unit (parted_answer (parted_of w p o rate dt room))
unfolding parted_of among
parted-said w p o rate dt room =
    let n = index_at (t3 w p o rate dt) rate in
    let v = broken w p o rate dt n in
    go (unbroken w p o rate dt n) v (lt (t1 w p o rate dt) nought) (ltb room n) (eq p nought) (in_order v.start v.end n)
  where
    go : (u v : Parts) (a b c d : Bool)
        → Said (11 ∷ 12 ∷ []) Unit
        (parted_answer (cond a (Err why.ShapeTooShort) (cond b (Err why.EndPastRow) (cond c (Ok u) (cond d (Ok v) (Err why.EndPastRow))))))
    go u v true b c d = (refl, tt)
    go u v false true c d = (refl, tt)
    go u v false false true d = tt
    go u v false false false true = tt
    go u v false false false false = (refl, tt)

module _ (shape : Shape) (numbers : List Float) (w p o rate dt : Float) (room : ℕ) where
  abbrev points : Result ℕ Refusal
  points = enveloped_of shape numbers (parted_of w p o rate dt room)

  number-of : (r : Refusal) → (r ≡ why.ShapeTooShort) ⊎ ((r ≡ why.EndPastRow) ⊎ (r ≡ why.NotFinite)) → among (11 ∷ 12 ∷ 8 ∷ []) (number_of r) ≡ true
  unfolding among
  number-of r (inl e) = subst (λ (x : Refusal). among (11 ∷ 12 ∷ 8 ∷ []) (number_of x) ≡ true) (sym e) refl
  number-of r (inr (inl e)) = subst (λ (x : Refusal). among (11 ∷ 12 ∷ 8 ∷ []) (number_of x) ≡ true) (sym e) refl
  number-of r (inr (inr e)) = subst (λ (x : Refusal). among (11 ∷ 12 ∷ 8 ∷ []) (number_of x) ≡ true) (sym e) refl

  -- the scratch, too
  pub points-said : (old : List Float) → Said (11 ∷ 12 ∷ 8 ∷ []) (scratch_after shape numbers (parted_of w p o rate dt room) old ≡ old) (enveloped_answer points)
  points-said old = by points refl
    where
      by : (e : Result ℕ Refusal) → points ≡ e → Said (11 ∷ 12 ∷ 8 ∷ []) (scratch_after shape numbers (parted_of w p o rate dt room) old ≡ old) (enveloped_answer e)
      by (Ok n) f = tt
      by (Err r) f = (number-of r (refused-by shape numbers w p o rate dt room r f), refused-stays shape numbers (parted_of w p o rate dt room) old r f)

  pub measured-said : Said (11 ∷ 12 ∷ 8 ∷ []) Unit (enveloped_answer points)
  measured-said = by points (points-said [])
    where
      by : (e : Result ℕ Refusal) → Said (11 ∷ 12 ∷ 8 ∷ []) (scratch_after shape numbers (parted_of w p o rate dt room) [] ≡ []) (enveloped_answer e) → Said (11 ∷ 12 ∷ 8 ∷ []) Unit (enveloped_answer e)
      by (Ok n) h = tt
      by (Err r) h = (h.0, tt)

pub judged-said : (s : Settings) (b : Bin) (numbers : List Float) (p : Pulse) (len : ℕ) → Said (8 ∷ 9 ∷ 10 ∷ 11 ∷ 12 ∷ []) Unit (judged_answer (judged s b numbers p len))
judged-said s b numbers p len = by (judged s b numbers p len) refl
  where
    by : (j : Result Judged Refusal) → judged s b numbers p len ≡ j → Said (8 ∷ 9 ∷ 10 ∷ 11 ∷ 12 ∷ []) Unit (judged_answer j)
    by (Ok (judgement.Plateau f)) e = tt
    by (Ok (judgement.Shaped f)) e = tt
    by (Err r) e = (judged-number r s b numbers p len e, tt)

-- ---- the plan of a sampling

pub planned-said : (t : Tables) (channel : Name) (c : Crosstalk) (factors : List Float) → Said (13 ∷ 2 ∷ 17 ∷ 18 ∷ 7 ∷ []) Unit (plan_answer (planned t channel c factors))
unfolding among
planned-said t channel c factors = by (planned t channel c factors) (way t channel c factors)
  where
    named : (q : Refusal) (i : ℕ) → AtFault t (names_in c) i q → among (13 ∷ 2 ∷ 17 ∷ 18 ∷ 7 ∷ []) (number_of q) ≡ true
    named q i (doubled _) = refl
    named q i (no-list _ _) = refl

    by : (p : Plan) → Way t channel c factors p → Said (13 ∷ 2 ∷ 17 ∷ 18 ∷ 7 ∷ []) Unit (plan_answer p)
    by p (wrong_size _) = (refl, tt)
    by p (malformed _ _) = (refl, tt)
    by p (at-fault _ _ q k first) = (named q first.place first.fault, tt)
    by p (unknown _ _ _ _) = (refl, tt)
    by p (accepted _) = tt

-- ---- pulses one after another, and commands

pub mixed-said : (s : Settings) (t : Tables) (taking : Taking) (ends : Ends) (bins work : List (List Float)) (marks : List ℕ) (rows : ℕ) (st : Rowed)
    → Said (13 ∷ pulse_numbers) Unit (mixed_down s t taking ends bins work marks rows st).answer
unfolding mixed_down among
mixed-said s t taking ends bins work marks rows st = go (mix_fits taking ends (length bins) (length work) (length marks) rows (length st.i) (length st.q) (length st.scratch))
  where
    merged : List Float → List Pulse
    merged = merged_in t bins work marks (parts_in taking) ends.ends

    firsts : List (List Float)
    firsts = firsts_after [] (all_rows t bins (parts_in taking))

    of : (a : Answer) → (ran_bins s rows merged firsts 0 st).answer ≡ a → Said (13 ∷ pulse_numbers) Unit a
    of (Ok n) e = tt
    of (Err x) e =
        (in_front 13 (number_of x.why) pulse_numbers (fewer s (length st.i) (all_dues merged firsts) 0 x.why x.place (sym (bins-verdict s rows merged firsts 0 st) ∙ e)).number, tt)

    go : (b : Bool) → Said (13 ∷ pulse_numbers) Unit (cond b (ran_bins s rows merged firsts 0 st) (out (refuse why.WrongSize 0) st)).answer
    go true = of (ran_bins s rows merged firsts 0 st).answer refl
    go false = (refl, tt)

pub owned-said : (s : State) (commands : List Arranged) (count : ℕ)
    → Said (13 ∷ command_numbers) Unit (executed_owned s.tables s.splines commands count s.bins s.pulses).result.answer
unfolding among
owned-said s commands count = go (leb count 1024)
  where
    ran : Ran
    ran = executed s.tables s.splines (take count commands) s.bins s.pulses

    of : (a : Answer) (u : State) → CommandsSaid s (take count commands) a u → Said (13 ∷ command_numbers) Unit a
    of (Ok n) u h = tt
    of (Err x) u (before-any size came) = (by_thirteen came.number, tt)
      where
        by_thirteen : among (13 ∷ []) (number_of x.why) ≡ true → among (13 ∷ command_numbers) (number_of x.why) ≡ true
        by_thirteen e = wider (eqb (number_of x.why) 13) e
          where
            wider : (b : Bool) → (b || false) ≡ true → (b || among command_numbers (number_of x.why)) ≡ true
            wider true f = refl
            wider false f = absurd (true≢false (sym f))
    of (Err e) u (at_one remain) = (in_front 13 (number_of e.why) command_numbers remain.number, tt)

    go : (b : Bool) → Said (13 ∷ command_numbers) Unit (cond b ran (ran_to (refused_at s.tables why.WrongSize 0) s.bins s.pulses)).result.answer
    go true = of ran.result.answer (with_stored s ran.result.tables ran.bins ran.pulses) (commands-said s (take count commands))
    go false = (refl, tt)
