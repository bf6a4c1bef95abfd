-- The command call: accepted, it counts its commands; refused with k commands run, these alone are accepted and leave just what it left, and from
-- there the next one is refused again. By the laws of `commands_laws` on a refused call and on two calls. Assumes nothing.
use Rattle.std.specs.Prelude.{Ok, Err}
use Prim.Native.Nat.{ℕ, suc, ◌+◌, ◌≤◌, ◌<◌}
use native.Mathlib.Omega.{arith}
use mathlib.Core.Path.{◌≡◌, refl, sym, ap, subst, ◌∙◌}
use mathlib.Core.Bool.{Bool, true, false, ◌&&◌, cond}
use mathlib.Core.List.{List, [], ◌∷◌}
use borrow.Author.Tests.{leb-true, eqb-true}
use lib.Dec.{leb, eqb}
use lib.Ieee.{Float}
use lib.ListN.{length, take, drop, take-append-drop}
use Rattle.exact.specs.Among.{among}
use Rattle.exact.proofs.Truth.{both}
use Rattle.quant.specs.declared.refusal.Refusal.{Refusal}
use Rattle.quant.specs.declared.refusal.Refusal.TheVariants.{WrongSize}
use Rattle.quant.specs.Refusal.{number_of, Answer, refuse}
use Rattle.quant.proofs.Refusals.{same-why, same-place}
use Rattle.pulse.specs.declared.list.Pulse.{Pulse}
use Rattle.tables.specs.declared.Tables.{Tables}
use Rattle.commands.specs.declared.command.Arranged.{Arranged}
use Rattle.commands.specs.declared.step.Step.{Step}
use Rattle.commands.specs.Step.{bins_after, pulses_after}
use Rattle.commands.specs.Run.{Ran, ran_to, refused_at, step_of, ran, sizes_fit, executed}
use Rattle.commands_laws.specs.Words.{further, second_call}
use Rattle.commands_laws.proofs.Calls.{as_done, in_two-calls, refused-call}
use Rattle.system.specs.System.{State, told, with_stored, has_run, outcome}
use Rattle.system.specs.Said.{command_numbers, CommandsRemain, before-any, at_one, CommandsSaid}
use Rattle.system.proofs.Numbers.{step-number}

-- how a run ends, of which k commands have run before: all are run, or it is refused behind fewer
data Ends (commands : List Arranged) (k : ℕ) (a : Answer) : Type 0 where
  all : (n : ℕ) → n ≡ k + length commands → a ≡ Ok n → Ends commands k a
  one : (why : Refusal) (n : ℕ) → n < k + length commands → among command_numbers (number_of why) ≡ true → a ≡ refuse why n → Ends commands k a

ran_ends : (k : ℕ) (t : Tables) (splines : List (List Float)) (commands : List Arranged) (bins : List (List Float)) (pulses : List Pulse)
    → Ends commands k (ran k t splines commands bins pulses).result.answer
unfolding ran
ran_ends k t splines [] bins pulses = all k (omega arith) refl
ran_ends k t splines (a ∷ more) bins pulses = go s.stop refl (ran_ends (suc k) s.tables splines more (bins_after s splines bins) (pulses_after s pulses))
  where
    s : Step
    s = step_of t splines bins a

    later : Ran
    later = ran (suc k) s.tables splines more (bins_after s splines bins) (pulses_after s pulses)

    go : (b : Bool) → s.stop ≡ b → Ends more (suc k) later.result.answer → Ends (a ∷ more) k (cond b (ran_to (refused_at t s.why k) bins pulses) later).result.answer
    go true e h = one s.why k (omega arith) (step-number t splines bins a e) refl
    go false e (all n is h) = all n (omega (arith, is)) h
    go false e (one why n below number h) = one why n (omega (arith, below)) number h

-- counted from k on, refused behind k commands: refused at once
none-further : (k : ℕ) (a : Answer) (why : Refusal) → further k a ≡ refuse why k → a ≡ refuse why 0
none-further k (Ok n) why e = let z : ◌≡◌ {A = ℕ} 0 1 = cc in absurd (omega arith)
none-further k (Err x) why e =
    let place = same-place x.why why (k + x.place) k e in
    let none : x.place ≡ 0 = omega (arith, place) in
    let same = same-why x.why why (k + x.place) k e in
    λ j. refuse (same j) (none j)

-- the sizes, one by one
pub record Sized (commands splines bins pulses : ℕ) : Type 0 where
  pub few : commands ≤ 1024
  pub shapes : splines ≡ 8
  pub rows : bins ≡ 512
  pub records : pulses ≡ 8192

pub fitting : (commands splines bins pulses : ℕ) → sizes_fit commands splines bins pulses ≡ true → Sized commands splines bins pulses
fitting commands splines bins pulses e =
    let three = both (leb commands 1024 && eqb splines 8 && eqb bins 512) (eqb pulses 8192) e in
    let two = both (leb commands 1024 && eqb splines 8) (eqb bins 512) three.0 in
    let one = both (leb commands 1024) (eqb splines 8) two.0 in
    record {
      few = leb-true commands 1024 one.0;
      shapes = eqb-true splines 8 one.1;
      rows = eqb-true bins 512 two.1;
      records = eqb-true pulses 8192 three.1;
    }

module _ (s : State) (commands : List Arranged) where
  abbrev run : Ran
  run = executed s.tables s.splines commands s.bins s.pulses

  abbrev sized : Bool
  sized = sizes_fit (length commands) (length s.splines) (length s.bins) (length s.pulses)

  abbrev Said : Ran → Type 0
  Said x = CommandsSaid s commands (has_run s x).answer (has_run s x).after

  module _ (fits : Sized (length commands) (length s.splines) (length s.bins) (length s.pulses)) where
    module _ (why : Refusal) (k : ℕ) (told-so : run.result.answer ≡ refuse why k) where
      -- the commands before the refused one, alone
      alone : executed s.tables s.splines (take k commands) s.bins s.pulses ≡ as_done k run
      alone = refused-call s.tables s.splines commands s.bins s.pulses why k fits.few fits.shapes fits.rows fits.records told-so

      abbrev rest : Ran
      rest = executed run.result.tables s.splines (drop k commands) run.bins run.pulses

      -- the whole call is those, and then the rest
      in_two : run ≡ second_call (Ok k) (as_done k run) s.splines (drop k commands)
      in_two =
          let cut = take-append-drop k commands in
          ap (λ (l : List Arranged). executed s.tables s.splines l s.bins s.pulses) (sym cut)
          ∙ in_two-calls s.tables s.splines (take k commands) (drop k commands) s.bins s.pulses (rw cut fits.few) fits.shapes fits.rows fits.records
          ∙ ap (λ (x : Ran). second_call x.result.answer x s.splines (drop k commands)) alone

      again : has_run (has_run s run).after rest ≡ told (refuse why 0) (has_run s run).after
      unfolding second_call
      again =
          let answer : rest.result.answer ≡ refuse why 0 = none-further k rest.result.answer why (sym (ap (λ (x : Ran). x.result.answer) in_two) ∙ told-so) in
          let back = sym in_two in
          λ j. told (answer j) (with_stored s (back j).result.tables (back j).bins (back j).pulses)

      remain : k < length commands → among command_numbers (number_of why) ≡ true → CommandsRemain s commands why k (has_run s run).after
      unfolding outcome
      remain below number = record { number = number; place = below; earlier = ap (has_run s) alone; next = again }

    by_end : Ends commands 0 run.result.answer → Said run
    by_end (all n is h) = subst (λ (a : Answer). CommandsSaid s commands a (has_run s run).after) (sym h) (omega (arith, is))
    by_end (one why n below number h) = subst (λ (a : Answer). CommandsSaid s commands a (has_run s run).after) (sym h) (at_one (remain why n h (omega (arith, below)) number))

  by_size : (b : Bool) → sized ≡ b → Said run
  unfolding among
  by_size true e =
      let is : run ≡ ran 0 s.tables s.splines commands s.bins s.pulses = rw e refl in
      by_end (fitting (length commands) (length s.splines) (length s.bins) (length s.pulses) e) (subst (λ (x : Ran). Ends commands 0 x.result.answer) (sym is) (ran_ends 0 s.tables s.splines commands s.bins s.pulses))
  by_size false e =
      let is : run ≡ ran_to (refused_at s.tables WrongSize 0) s.bins s.pulses = rw e refl in
      subst Said (sym is) (before-any e (record { number = refl; place = refl; left = refl }))

  pub commands-said : Said run
  commands-said = by_size sized refl
