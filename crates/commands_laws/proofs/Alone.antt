-- Channels do not meet, second half: a command for a channel goes by what that channel sees alone; so a list of commands without swaps
-- leaves each channel as its own commands do. Assumes nothing.
use Rattle.std.specs.Prelude.{Some}
use Prim.Native.Nat.{ℕ, suc, ◌+◌, ◌*◌, ◌≤◌, ◌<◌}
use native.Mathlib.Omega.{arith}
use native.Mathlib.Numerals.{add-one}
use mathlib.Core.Path.{◌≡◌, refl, sym, ap, subst, ◌∙◌}
use mathlib.Core.Bool.{Bool, true, false, not, cond, true≢false}
use mathlib.Core.List.{List, [], ◌∷◌, ◌++◌}
use borrow.Author.Tests.{not-true}
use lib.Ieee.{Float}
use lib.ListN.{length, take, drop, set, length-take, length-drop}
use lib.Seq.{get_or-set_same, take-suc-set, take-set-lt, drop-set-add}
use Rattle.exact.proofs.Truth.{both}
use Rattle.naming.specs.declared.Name.{Name}
use Rattle.naming.specs.Name.{is_name, same_name}
use Rattle.naming.proofs.Named.{same-exactly}
use Rattle.executor.specs.declared.osc.OscState.{OscState}
use Rattle.pulse.specs.declared.list.Pulse.{Pulse}
use Rattle.pulse.specs.declared.weight.Weight.{Weight}
use Rattle.pulse.specs.List.{placed, stored}
use Rattle.pulse.proofs.Stored.{stored-list}
use Rattle.tables.specs.declared.Channel.{Channel}
use Rattle.tables.specs.declared.Tables.{Tables}
use Rattle.tables.specs.Tables.{found, no_name, no_channel, channel_at, with_channel}
use Rattle.tables.proofs.Finding.{found-eight}
use Rattle.commands.specs.declared.command.Command.{Command}
use Rattle.commands.specs.declared.command.Command.TheVariants as C
use Rattle.commands.specs.declared.command.Arranged.{Arranged}
use Rattle.commands.specs.declared.step.Step.{Step}
use Rattle.commands.specs.Step.{numbers_at, bins_after, pulses_after, with_osc}
use Rattle.commands.specs.Play.{rows_of, grown, pulse_at, stores}
use Rattle.commands.specs.Run.{Ran, ran_to, refused_at, step_of, ran, executed}
use Rattle.commands_laws.specs.Sound.{list_of, Sound}
use Rattle.commands.specs.Command.{named, is_swap}
use Rattle.commands_laws.specs.Apart.{is_for, only_for, no_swaps, is_done, SameTo}
use Rattle.commands.proofs.Cases as Cases
use Rattle.commands.proofs.Cases.{Kind, step-kind}
use Rattle.commands_laws.proofs.Own.{View, view_of, Own, refuses, same, turns, puts, realize, own, own-step}
use Rattle.commands_laws.proofs.Apart.{found-stays, same-to, same_then, unmoved}
use Rattle.commands_laws.proofs.Calls.{fits}
use Rattle.commands_laws.proofs.Sound.{step-sound}

-- ---- what holds of a pulse that is stored

record PutFacts (t : Tables) (bins : List (List Float)) (i : ℕ) (s : Step) : Type 0 where
  most : s.pulse.bin ≤ (channel_at t i).bins
  room : s.opens ≡ true → (channel_at t i).bins < 64
  last : s.opens ≡ true → length (rows_of t bins i) ≤ s.pulse.bin
  few : (channel_at t i).pulses < 1024

at-inj : {i j : ℕ} → Some i ≡ Some j → i ≡ j
at-inj e = cc

put-facts : (t : Tables) (bins : List (List Float)) (c : Command) (i : ℕ) (s : Step) → Kind t bins c s → found t (named c) ≡ Some i → s.put ≡ true → PutFacts t bins i s
put-facts t bins c i _ (Cases.refuses r) e f = absurd (true≢false (sym f))
put-facts t bins c i _ Cases.goes e f = absurd (true≢false (sym f))
put-facts t bins c i _ (Cases.turns j o there) e f = absurd (true≢false (sym f))
put-facts t bins c i _ (Cases.swaps j k o q swap) e f = absurd (true≢false (sym f))
put-facts t bins c i _ (Cases.puts j place new time w head spline there known most old room last few) e f =
    let is = at-inj (sym there ∙ e) in
    subst (λ (k : ℕ). PutFacts t bins k (stores t j place new time w head spline)) is (record { most = most; room = room; last = last; few = few })

-- ---- one channel after its own step

module _ (n : Name) (i : ℕ) (t : Tables) (bins : List (List Float)) (pulses : List Pulse) (h : Sound t bins pulses) (here : found t n ≡ Some i) where
  under : i < 8
  under = found-eight t n i h.eight here

  set_here : (c : Channel) → channel_at (with_channel t i c) i ≡ c
  set_here c = get_or-set_same t.channels i c no_channel (omega (arith, under, h.eight))

  abbrev zone : List (List Float)
  zone = take 64 (drop (64 * i) bins)

  zone-long : length zone ≡ 64
  zone-long = rw (length-take 64 (drop (64 * i) bins), length-drop (64 * i) bins) (omega (arith, under, h.rows))

  module _ (splines : List (List Float)) (place : ℕ) (new : Bool) (time : Float) (w : Weight) (head : List Float) (spline : ℕ) (facts : PutFacts t bins i (stores t i place new time w head spline)) where
    abbrev row : List Float
    row = head ++ numbers_at splines spline

    abbrev c : Channel
    c = channel_at t i

    after : (b : Bool) → new ≡ b → rows_of (with_channel t i (grown c b)) (cond b (set bins (64 * i + place) row) bins) i ≡ cond b (rows_of t bins i ++ row ∷ []) (rows_of t bins i)
    after true e =
        let below = facts.room e in
        let most = facts.most in
        let long = rw (length-take c.bins zone, zone-long) at (facts.last e) in
        let is : place ≡ c.bins = omega (arith, long) in
        let at = ap (λ (x : Channel). x.bins) (set_here (grown c true)) in
        rw (at, drop-set-add (64 * i) bins place row, take-set-lt 64 (drop (64 * i) bins) place row (omega arith), is, add-one c.bins)
        (take-suc-set zone c.bins row (omega (arith, zone-long)))
    after false e = let at = ap (λ (x : Channel). x.bins) (set_here (grown c false)) in rw at

    list-after : list_of (with_channel t i (grown c new)) (stored (1024 * i) c.pulses (pulse_at place time w) pulses) i ≡ placed (pulse_at place time w) (list_of t pulses i)
    list-after =
        let few = facts.few in
        let at = ap (λ (x : Channel). x.pulses) (set_here (grown c new)) in
        rw at (stored-list (1024 * i) c.pulses (pulse_at place time w) pulses (omega (arith, under, h.records)))

-- ---- two channels that look the same, after the same step

module _ (n : Name) (i : ℕ) (t u : Tables) (splines bins rows : List (List Float)) (pulses records : List Pulse) (h : Sound t bins pulses) (k : Sound u rows records) (s : SameTo n i t u bins rows pulses records) where
  view-same : view_of t splines bins i ≡ view_of u splines rows i
  view-same = λ x. record { amp = s.amp x; time = s.time x; oversize = s.oversize x; shapes = s.shapes x; splines = splines; channel = s.channel x; rows = s.its-rows x }

  -- with the same new record in both
  with-same : (c d : Channel) → c ≡ d → c.name ≡ (channel_at t i).name → d.name ≡ (channel_at u i).name → (a b : List (List Float)) (p q : List Pulse)
      → rows_of (with_channel t i c) a i ≡ rows_of (with_channel u i d) b i → list_of (with_channel t i c) p i ≡ list_of (with_channel u i d) q i
      → SameTo n i (with_channel t i c) (with_channel u i d) a b p q
  with-same c d alike named-t named-u a b p q its-rows its-list =
      record {
        here = found-stays t i c named-t n ∙ s.here;
        there = found-stays u i d named-u n ∙ s.there;
        amp = s.amp;
        time = s.time;
        oversize = s.oversize;
        shapes = s.shapes;
        channel = set_here n i t bins pulses h s.here c ∙ alike ∙ sym (set_here n i u rows records k s.there d);
        its-rows = its-rows;
        its-list = its-list;
      }

  abbrev After : Step → Step → Type 0
  After x y = SameTo n i x.tables y.tables (bins_after x splines bins) (bins_after y splines rows) (pulses_after x pulses) (pulses_after y records)

  turned : (o : OscState) → SameTo n i (with_osc t i o) (with_osc u i o) bins rows pulses records
  turned o =
      let turn : Channel → Channel = λ (x : Channel). record { name = x.name; osc = o; bins = x.bins; pulses = x.pulses } in
      let c = turn (channel_at t i) in
      let d = turn (channel_at u i) in
      let at = set_here n i t bins pulses h s.here c in
      let there = set_here n i u rows records k s.there d in
      with-same c d (ap turn s.channel) refl refl bins rows pulses records
      (rw (ap (λ (x : Channel). x.bins) at, ap (λ (x : Channel). x.bins) there) s.its-rows)
      (rw (ap (λ (x : Channel). x.pulses) at, ap (λ (x : Channel). x.pulses) there) s.its-list)

  module _ (place : ℕ) (new : Bool) (time : Float) (w : Weight) (head : List Float) (spline : ℕ) (f : PutFacts t bins i (stores t i place new time w head spline))
      (g : PutFacts u rows i (stores u i place new time w head spline)) where
    put_same : After (stores t i place new time w head spline) (stores u i place new time w head spline)
    put_same =
        let p = pulse_at place time w in
        let row = head ++ numbers_at splines spline in
        let its = after n i t bins pulses h s.here splines place new time w head spline f new refl in
        let theirs = after n i u rows records k s.there splines place new time w head spline g new refl in
        with-same (grown (channel_at t i) new) (grown (channel_at u i) new) (ap (λ (x : Channel). grown x new) s.channel) refl refl
        (cond new (set bins (64 * i + place) row) bins) (cond new (set rows (64 * i + place) row) rows)
        (stored (1024 * i) (channel_at t i).pulses p pulses) (stored (1024 * i) (channel_at u i).pulses p records)
        (its ∙ ap (λ (l : List (List Float)). cond new (l ++ row ∷ []) l) s.its-rows ∙ sym theirs)
        (list-after n i t bins pulses h s.here splines place new time w head spline f ∙ ap (placed p) s.its-list ∙ sym (list-after n i u rows records k s.there splines place new time w head spline g))

  realized : (x : Own) → ((realize t i x).put ≡ true → PutFacts t bins i (realize t i x)) → ((realize u i x).put ≡ true → PutFacts u rows i (realize u i x))
      → (realize t i x).stop ≡ false → After (realize t i x) (realize u i x)
  realized (refuses r) f g e = absurd (true≢false e)
  realized same f g e = s
  realized (turns o) f g e = turned o
  realized (puts place new time w head spline) f g e = put_same place new time w head spline (f refl) (g refl)

  -- both stop, or both go on
  record Alongside (x y : Step) : Type 0 where
    stop : y.stop ≡ x.stop
    goes_on : x.stop ≡ false → After x y

  stops-alike : (x : Own) → (realize u i x).stop ≡ (realize t i x).stop
  stops-alike (refuses r) = refl
  stops-alike same = refl
  stops-alike (turns o) = refl
  stops-alike (puts place new time w head spline) = refl

  alongside : (x : Own) (p q : Step) → p ≡ realize t i x → q ≡ realize u i x → (p.put ≡ true → PutFacts t bins i p) → (q.put ≡ true → PutFacts u rows i q) → Alongside p q
  alongside x p q e f facts theirs =
      let at-t : (realize t i x).put ≡ true → PutFacts t bins i (realize t i x) = subst (λ (z : Step). z.put ≡ true → PutFacts t bins i z) e facts in
      let at-u : (realize u i x).put ≡ true → PutFacts u rows i (realize u i x) = subst (λ (z : Step). z.put ≡ true → PutFacts u rows i z) f theirs in
      let both : Alongside (realize t i x) (realize u i x) = record { stop = stops-alike x; goes_on = realized x at-t at-u } in
      subst (λ (z : Step). Alongside z q) (sym e) (subst (λ (z : Step). Alongside (realize t i x) z) (sym f) both)

  own-alike : (a : Arranged) → is_swap a.command ≡ false → named a.command ≡ n → Alongside (step_of t splines bins a) (step_of u splines rows a)
  own-alike a single is =
      let at-t : found t (named a.command) ≡ Some i = ap (found t) is ∙ s.here in
      let at-u : found u (named a.command) ≡ Some i = ap (found u) is ∙ s.there in
      let x = own (view_of t splines bins i) a in
      let theirs : own (view_of u splines rows i) a ≡ x = ap (λ (v : View). own v a) (sym view-same) in
      alongside x (step_of t splines bins a) (step_of u splines rows a) (own-step t splines bins i a single at-t) (own-step u splines rows i a single at-u ∙ ap (realize u i) theirs)
      (put-facts t bins a.command i (step_of t splines bins a) (step-kind t splines bins a) at-t)
      (put-facts u rows a.command i (step_of u splines rows a) (step-kind u splines rows a) at-u)

-- ---- a list of commands

-- a good name is not the empty one, so a barrier is for no channel
empty-not : is_name no_name ≡ false
unfolding is_name
empty-not = refl

no-empty : (n : Name) → is_name n ≡ true → (b : Bool) → same_name no_name n ≡ b → b ≡ false
no-empty n good true e = absurd (true≢false (sym good ∙ ap is_name (sym ((same-exactly no_name n).0 e)) ∙ empty-not))
no-empty n good false e = refl

not-for : (n : Name) → is_name n ≡ true → (c : Command) → is_swap c ≡ false → is_for n c ≡ false → same_name (named c) n ≡ false
unfolding is_swap is_for
not-for n good (C.Play p) e f = f
not-for n good (C.ShiftPhase m x) e f = f
not-for n good (C.SetPhase m x) e f = f
not-for n good (C.ShiftFreq m x) e f = f
not-for n good (C.SetFreq m x) e f = f
not-for n good (C.SwapPhase a b) e f = absurd (true≢false e)
not-for n good C.Barrier e f = no-empty n good (same_name no_name n) refl

is-for : (n : Name) (c : Command) → is_swap c ≡ false → is_for n c ≡ true → named c ≡ n
unfolding is_swap is_for
is-for n (C.Play p) e f = (same-exactly p.channel n).0 f
is-for n (C.ShiftPhase m x) e f = (same-exactly m n).0 f
is-for n (C.SetPhase m x) e f = (same-exactly m n).0 f
is-for n (C.ShiftFreq m x) e f = (same-exactly m n).0 f
is-for n (C.SetFreq m x) e f = (same-exactly m n).0 f
is-for n (C.SwapPhase a b) e f = absurd (true≢false e)
is-for n C.Barrier e f = absurd (true≢false (sym f))

-- two runs that end alike: both done, and the channel looks the same
pub record EndAlike (n : Name) (i : ℕ) (r q : Ran) : Type 0 where
  pub done : is_done q.result.answer ≡ true
  pub same : SameTo n i r.result.tables q.result.tables r.bins q.bins r.pulses q.pulses

module _ (n : Name) (good : is_name n ≡ true) (i : ℕ) where
  alone : (j k : ℕ) (t u : Tables) (splines : List (List Float)) (commands : List Arranged) (bins rows : List (List Float)) (pulses records : List Pulse)
      → Sound t bins pulses → Sound u rows records → SameTo n i t u bins rows pulses records → no_swaps commands ≡ true
      → is_done (ran j t splines commands bins pulses).result.answer ≡ true
      → EndAlike n i (ran j t splines commands bins pulses) (ran k u splines (only_for n commands) rows records)
  unfolding ran only_for no_swaps is_done
  alone j k t u splines [] bins rows pulses records h g s free done = record { done = refl; same = s }
  alone j k t u splines (a ∷ more) bins rows pulses records h g s free done =
      by_name (is_for n a.command) refl
      (alone (suc j) k p.tables u splines more (bins_after p splines bins) rows (pulses_after p pulses) records (step-sound t bins pulses h splines a) g)
      (alone (suc j) (suc k) p.tables q.tables splines more (bins_after p splines bins) (bins_after q splines rows) (pulses_after p pulses) (pulses_after q records) (step-sound t bins pulses h splines a) (step-sound u rows records g splines a))
    where
      p : Step
      p = step_of t splines bins a

      q : Step
      q = step_of u splines rows a

      later : Ran
      later = ran (suc j) p.tables splines more (bins_after p splines bins) (pulses_after p pulses)

      theirs : Ran
      theirs = ran (suc k) q.tables splines (only_for n more) (bins_after q splines rows) (pulses_after q records)

      parts : (not (is_swap a.command) ≡ true) × (no_swaps more ≡ true)
      parts = both (not (is_swap a.command)) (no_swaps more) free

      single : is_swap a.command ≡ false
      single = not-true (is_swap a.command) parts.0

      -- the step does not stop, since the run is done
      no_stop : (b : Bool) → is_done (cond b (ran_to (refused_at t p.why j) bins pulses) later).result.answer ≡ true → b ≡ false
      no_stop true e = sym e
      no_stop false e = refl

      goes_on : p.stop ≡ false
      goes_on = no_stop p.stop done

      done' : is_done later.result.answer ≡ true
      done' = rw goes_on at done

      by_name : (b : Bool) → is_for n a.command ≡ b
          → (SameTo n i p.tables u (bins_after p splines bins) rows (pulses_after p pulses) records → no_swaps more ≡ true → is_done later.result.answer ≡ true
          → EndAlike n i later (ran k u splines (only_for n more) rows records))
          → (SameTo n i p.tables q.tables (bins_after p splines bins) (bins_after q splines rows) (pulses_after p pulses) (pulses_after q records) → no_swaps more ≡ true
          → is_done later.result.answer ≡ true → EndAlike n i later theirs)
          → EndAlike n i (cond p.stop (ran_to (refused_at t p.why j) bins pulses) later) (ran k u splines (cond b (a ∷ only_for n more) (only_for n more)) rows records)
      by_name false e other own' =
          let left = unmoved n i t bins pulses h s.here splines a.command p single (not-for n good a.command single e) (step-kind t splines bins a) goes_on in
          rw goes_on (other (same_then n i p.tables t u (bins_after p splines bins) bins rows (pulses_after p pulses) pulses records left s) parts.1 done')
      by_name true e other own' =
          let both = own-alike n i t u splines bins rows pulses records h g s a single (is-for n a.command single e) in
          let stop' : q.stop ≡ false = both.stop ∙ goes_on in
          rw (goes_on, stop') (own' (both.goes_on goes_on) parts.1 done')

-- ---- the law

few-for : (n : Name) (commands : List Arranged) → length (only_for n commands) ≤ length commands
unfolding only_for
few-for n [] = omega arith
few-for n (a ∷ more) = go (is_for n a.command) (few-for n more)
  where
    go : (b : Bool) → length (only_for n more) ≤ length more → length (cond b (a ∷ only_for n more) (only_for n more)) ≤ suc (length more)
    go true h = omega arith
    go false h = omega arith

-- Where a call without swaps is done, a call with only the commands for the channel n and the same shapes' rows is done too, and the channel's
-- state and counts, its bins' rows and its records are the same after both.
pub channels_apart : (n : Name) (i : ℕ) (t : Tables) (splines : List (List Float)) (commands : List Arranged) (bins : List (List Float)) (pulses : List Pulse) → is_name n ≡ true
    → found t n ≡ Some i → Sound t bins pulses → length splines ≡ 8 → length commands ≤ 1024 → no_swaps commands ≡ true → is_done (executed t splines commands bins pulses).result.answer ≡ true
    → EndAlike n i (executed t splines commands bins pulses) (executed t splines (only_for n commands) bins pulses)
channels_apart n i t splines commands bins pulses good here h shapes few free done =
    let whole = fits splines commands bins pulses t few shapes h.rows h.records in
    let less = few-for n commands in
    rw (whole, fits splines (only_for n commands) bins pulses t (omega arith) shapes h.rows h.records)
    (alone n good i 0 0 t t splines commands bins bins pulses pulses h h (same-to n i t bins pulses here) free (rw whole at done))
