-- The loop of `execute`: what is left after k commands is `ran k` of the list without its first k, so that a turn is one command of it.
-- Assumes nothing.
use Prim.Native.Nat.{ℕ, ◌+◌, ◌<◌, ◌≤◌}
use native.Mathlib.Numerals.{add-one}
use native.Mathlib.Omega.{arith}
use mathlib.Core.Path.{◌≡◌, sym}
use mathlib.Core.Bool.{true, false, cond}
use mathlib.Core.List.{List}
use lib.Ieee.{Float}
use lib.ListN.{length, get_or, drop, drop_of_length-le}
use lib.Seq.{drop-cons}
use Rattle.pulse.specs.declared.list.Pulse.{Pulse}
use Rattle.tables.specs.declared.Tables.{Tables}
use Rattle.commands.specs.declared.command.Arranged.{Arranged}
use Rattle.commands.specs.declared.step.Step.{Step}
use Rattle.commands.specs.Step.{bins_after, pulses_after}
use Rattle.commands.specs.Run.{Ran, ran_to, done_at, refused_at, step_of, ran}
use Rattle.commands.proofs.Cases.{refused-leaves}

module _ (cs : List Arranged) (k : ℕ) (u : Tables) (splines bins : List (List Float)) (pulses : List Pulse) where
  abbrev pub still : Ran
  still = ran k u splines (drop k cs) bins pulses

  pub at-end : k ≡ length cs → ran_to (done_at u (length cs)) bins pulses ≡ still
  unfolding ran
  at-end e =
      let past : length cs ≤ k = omega arith in
      rw (drop_of_length-le cs past, sym e)

  -- `none` is what would be read past the end
  module _ (none : Arranged) (more : k < length cs) where
    abbrev pub here : Step
    here = step_of u splines bins (get_or cs k none)

    one_more : still ≡ cond here.stop (ran_to (refused_at u here.why k) bins pulses) (ran (k + 1) here.tables splines (drop (k + 1) cs) (bins_after here splines bins) (pulses_after here pulses))
    unfolding ran
    one_more = rw (drop-cons cs k none more, add-one k)

    module _ (s : Step) (rows : List (List Float)) (es : s ≡ here) (er : rows ≡ bins_after here splines bins) where
      pub stopped : s.stop ≡ true → ran_to (refused_at u s.why k) rows pulses ≡ still
      stopped y = rw (er, es, (refused-leaves u splines bins (get_or cs k none) (rw es at y)).bins splines bins) (sym (rw (rw es at y) at one_more))

      pub turned : s.stop ≡ false → ran (k + 1) s.tables splines (drop (k + 1) cs) rows (pulses_after s pulses) ≡ still
      turned y = rw (er, es) (sym (rw (rw es at y) at one_more))
