-- Of commands alone: a command opens a bin only behind those that its channel has, in one of the channel's 64 places, and changes no name. So a bin
-- that is there stays there, with its row, through any list of commands, refused or not. By the kinds of a step. Assumes nothing.
use Prim.Native.Nat.{ℕ, zero, suc, ◌+◌, ◌*◌, ◌≤◌, ◌<◌}
use native.Mathlib.Omega.{arith}
use mathlib.Core.Path.{◌≡◌, refl, sym, subst, ◌∙◌}
use mathlib.Core.Bool.{Bool, true, false, cond}
use mathlib.Core.List.{List, [], ◌∷◌, ◌++◌}
use lib.Ieee.{Float}
use lib.ListN.{length, take, drop, get_or, set, length-take, length-drop}
use lib.Seq.{get_or-set_other}
use Rattle.quant.specs.declared.refusal.Refusal.TheVariants.{WrongSize}
use Rattle.executor.specs.declared.osc.OscState.{OscState}
use Rattle.pulse.specs.declared.list.Pulse.{Pulse}
use Rattle.tables.specs.declared.Channel.{Channel}
use Rattle.tables.specs.declared.Tables.{Tables}
use Rattle.tables.specs.Tables.{no_channel, channel_at}
use Rattle.commands.specs.declared.command.Command.{Command}
use Rattle.commands.specs.declared.command.Arranged.{Arranged}
use Rattle.commands.specs.declared.step.Step.{Step}
use Rattle.commands.specs.Step.{numbers_at, bins_after, pulses_after, with_osc}
use Rattle.commands.specs.Play.{rows_of, grown}
use Rattle.commands.specs.Run.{Ran, ran_to, refused_at, step_of, ran, sizes_fit, executed}
use Rattle.commands.proofs.Cases.{Kind, refuses, goes, turns, swaps, puts, step-kind}
use Rattle.commands_laws.proofs.Calls.{bins-size}
use Rattle.commands_laws.proofs.Standing.{same-field}
use Rattle.system.proofs.Commands.{fitting}

-- the channel at place i, which is there in t, is there in u, with its name; so is bin k of it, with its row
pub record Stays (t : Tables) (bins : List (List Float)) (i k : ℕ) (u : Tables) (rows : List (List Float)) : Type 0 where
  pub channel : i < u.count
  pub name : (channel_at u i).name ≡ (channel_at t i).name
  pub there : k < (channel_at u i).bins
  pub same : get_or rows (64 * i + k) [] ≡ get_or bins (64 * i + k) []

pub as_before : (t : Tables) (bins : List (List Float)) (i k : ℕ) → i < t.count → k < (channel_at t i).bins → Stays t bins i k t bins
as_before t bins i k channel there = record { channel = channel; name = refl; there = there; same = refl }

pub and_then : (t u v : Tables) (bins rows lines : List (List Float)) (i k : ℕ) → Stays t bins i k u rows → Stays u rows i k v lines
    → Stays t bins i k v lines
and_then t u v bins rows lines i k h g = record { channel = g.channel; name = g.name ∙ h.name; there = g.there; same = g.same ∙ h.same }

-- a channel that has no fewer bins than the one whose place it takes
grows : (l : List Channel) (j : ℕ) (c : Channel) → (get_or l j no_channel).bins ≤ c.bins → (i : ℕ)
    → (get_or l i no_channel).bins ≤ (get_or (set l j c) i no_channel).bins
grows [] j c h i = omega arith
grows (x ∷ xs) zero c h zero = h
grows (x ∷ xs) zero c h (suc i) = omega arith
grows (x ∷ xs) (suc j) c h zero = omega arith
grows (x ∷ xs) (suc j) c h (suc i) = grows xs j c h i

-- ---- one command

module _ (i k : ℕ) (under : i < 8) (low : k < 64) where
  -- an oscillator changed
  osc-stays : (t : Tables) (bins : List (List Float)) (j : ℕ) (o : OscState) → i < t.count → k < (channel_at t i).bins
      → Stays t bins i k (with_osc t j o) bins
  osc-stays t bins j o channel there =
      let c : Channel = record { name = (channel_at t j).name; osc = o; bins = (channel_at t j).bins; pulses = (channel_at t j).pulses } in
      record {
        channel = channel;
        name = same-field (λ (x : Channel). x.name) t.channels j c refl i;
        there = subst (λ (n : ℕ). k < n) (sym (same-field (λ (x : Channel). x.bins) t.channels j c refl i)) there;
        same = refl;
      }

  module _ (t : Tables) (splines bins : List (List Float)) (rows : length bins ≡ 512) (channel : i < t.count) (there : k < (channel_at t i).bins) where
    abbrev Left : Step → Type 0
    Left s = Stays t bins i k s.tables (bins_after s splines bins)

    -- a bin that is opened at a place behind the others of its channel
    elsewhere : (j place : ℕ) → (channel_at t j).bins < 64 → length (rows_of t bins j) ≤ place → place ≤ (channel_at t j).bins
        → 64 * i + k ≡ 64 * j + place → ⊥
    elsewhere j place room last most e =
        let is : i ≡ j = omega (arith, e, low, room, most) in
        let last' = subst (λ (n : ℕ). length (rows_of t bins n) ≤ place) (sym is) last in
        let room' = subst (λ (n : ℕ). (channel_at t n).bins < 64) (sym is) room in
        let zone = take 64 (drop (64 * i) bins) in
        let long = rw (length-take (channel_at t i).bins zone, length-take 64 (drop (64 * i) bins), length-drop (64 * i) bins) at last' in
        omega (arith, is, e, long, room', there, rows, under)

    opened : (j place : ℕ) (new : Bool) (row : List Float) → (new ≡ true → (channel_at t j).bins < 64)
        → (new ≡ true → length (rows_of t bins j) ≤ place) → place ≤ (channel_at t j).bins
        → get_or (cond new (set bins (64 * j + place) row) bins) (64 * i + k) [] ≡ get_or bins (64 * i + k) []
    opened j place true row room last most = get_or-set_other bins (64 * j + place) (64 * i + k) row [] (elsewhere j place (room refl) (last refl) most)
    opened j place false row room last most = refl

    more : (c : Channel) (new : Bool) → c.bins ≤ (grown c new).bins
    more c true = omega arith
    more c false = omega arith

    by_kind : (c : Command) (s : Step) → Kind t bins c s → Left s
    by_kind c _ (refuses r) = as_before t bins i k channel there
    by_kind c _ goes = as_before t bins i k channel there
    by_kind c _ (turns j o at) = osc-stays t bins j o channel there
    by_kind c _ (swaps j m o q swap) =
        let u = with_osc t j o in
        let one = osc-stays t bins j o channel there in
        and_then t u (with_osc u m q) bins bins bins i k one (osc-stays u bins m q one.channel one.there)
    by_kind c _ (puts j place new start w head spline at known most old room last few) =
        let g = grown (channel_at t j) new in
        let bigger = grows t.channels j g (more (channel_at t j) new) i in
        record {
          channel = channel;
          name = same-field (λ (x : Channel). x.name) t.channels j g refl i;
          there = omega (arith, bigger, there);
          same = opened j place new (head ++ numbers_at splines spline) room last most;
        }

    pub step_stays : (a : Arranged) → Left (step_of t splines bins a)
    step_stays a = by_kind a.command (step_of t splines bins a) (step-kind t splines bins a)

  -- ---- a list of commands

  ran-stays : (n : ℕ) (t : Tables) (splines : List (List Float)) (commands : List Arranged) (bins : List (List Float)) (pulses : List Pulse)
      → length bins ≡ 512 → i < t.count → k < (channel_at t i).bins → let r = ran n t splines commands bins pulses in Stays t bins i k r.result.tables r.bins
  unfolding ran
  ran-stays n t splines [] bins pulses rows channel there = as_before t bins i k channel there
  ran-stays n t splines (a ∷ more) bins pulses rows channel there =
      let long = bins-size s splines bins ∙ rows in
      go s.stop (ran-stays (suc n) s.tables splines more (bins_after s splines bins) (pulses_after s pulses) long one.channel one.there)
    where
      s : Step
      s = step_of t splines bins a

      one : Stays t bins i k s.tables (bins_after s splines bins)
      one = step_stays t splines bins rows channel there a

      later : Ran
      later = ran (suc n) s.tables splines more (bins_after s splines bins) (pulses_after s pulses)

      go : (b : Bool) → Stays s.tables (bins_after s splines bins) i k later.result.tables later.bins
          → let r = cond b (ran_to (refused_at t s.why n) bins pulses) later in Stays t bins i k r.result.tables r.bins
      go true h = as_before t bins i k channel there
      go false h = and_then t s.tables later.result.tables bins (bins_after s splines bins) later.bins i k one h

  pub commands-stay : (t : Tables) (splines : List (List Float)) (commands : List Arranged) (bins : List (List Float)) (pulses : List Pulse)
      → i < t.count → k < (channel_at t i).bins → let r = executed t splines commands bins pulses in Stays t bins i k r.result.tables r.bins
  commands-stay t splines commands bins pulses channel there = by (sizes_fit (length commands) (length splines) (length bins) (length pulses)) refl
    where
      by : (b : Bool) → sizes_fit (length commands) (length splines) (length bins) (length pulses) ≡ b
          → let r = cond b (ran 0 t splines commands bins pulses) (ran_to (refused_at t WrongSize 0) bins pulses) in
          Stays t bins i k r.result.tables r.bins
      by true e =
          let long = (fitting (length commands) (length splines) (length bins) (length pulses) e).rows in
          ran-stays 0 t splines commands bins pulses long channel there
      by false e = as_before t bins i k channel there
