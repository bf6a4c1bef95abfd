-- A step refuses, or goes on with nothing to store, or stores a pulse for which there is room. So a refused step
-- changes nothing, and what a step writes lies within what is lent. Assumes nothing.
use Rattle.std.specs.Prelude.{Option, Some, None}
use Prim.Native.Nat.{ℕ, ◌+◌, ◌*◌, ◌≤◌, ◌<◌}
use native.Mathlib.Omega.{arith}
use mathlib.Core.Path.{◌≡◌, refl, sym, ap, ◌∙◌}
use mathlib.Core.Bool.{Bool, true, false, ◌&&◌, cond, true≢false}
use mathlib.Core.List.{List, ◌++◌}
use lib.Ieee.{Float, lt}
use lib.Ieee.Scale.{finite}
use lib.ListN.{length, take, drop, length-take}
use borrow.Author.Tests.{leb-true, leb-false}
use Rattle.exact.specs.Doubles.{nought}
use Rattle.naming.specs.declared.Name.{Name}
use Rattle.naming.specs.Name.{same_name}
use Rattle.quant.specs.declared.refusal.Refusal.{Refusal}
use Rattle.quant.specs.declared.refusal.Refusal.TheVariants.{Malformed, Full, Oversize, UnknownShape, NegativePlateau, UnknownChannel, NotFinite}
use Rattle.executor.specs.declared.osc.OscState.{OscState}
use Rattle.executor.specs.declared.osc.Moved.{Moved}
use Rattle.executor.specs.declared.osc.Swapped.{Swapped}
use Rattle.executor.specs.Osc.{swapped_phases}
use Rattle.pulse.specs.declared.envelope.Shape.{Shape}
use Rattle.pulse.specs.declared.envelope.Shape.TheVariants.{Plain}
use Rattle.pulse.specs.declared.list.Pulse.{Pulse}
use Rattle.pulse.specs.declared.weight.Weight.{Weight}
use Rattle.pulse.specs.Bin.{head_of, kind_of, place_of}
use Rattle.pulse.specs.Weight.{negligible, weighed_of}
use Rattle.pulse.proofs.Place.{place-first}
use Rattle.tables.specs.declared.Tables.{Tables}
use Rattle.tables.specs.Tables.{found, shape_found, channel_at}
use Rattle.tables.proofs.Finding.{found-eight}
use Rattle.commands.specs.declared.command.Play.{Play}
use Rattle.commands.specs.declared.command.Command.{Command}
use Rattle.commands.specs.declared.command.Command.TheVariants as C
use Rattle.commands.specs.declared.command.Arranged.{Arranged}
use Rattle.commands.specs.declared.step.Step.{Step}
use Rattle.commands.specs.Command.{good, well_formed, too_long, named, is_swap}
use Rattle.commands.specs.Step.{no_spline, numbers_at, stops, goes_on, bins_after, pulses_after, with_osc, turned, moved_by, turned_at, swapped_to, swapped_at, swapped_between}
use Rattle.commands.specs.Play.{rows_of, is_new, is_full, stores, stored_at, stored_with, plateau_of, bin_for, spline_for, pushed, played_at, played_as, played_by, played, played_with}
use Rattle.commands.specs.Run.{acted, step_of}
use Rattle.commands.proofs.Rows.{not_full}

-- What the step of a command c from the tables t comes to. A pulse is stored with a start that is finite, in a bin that is there or the
-- next, where both have room.
pub data Kind (t : Tables) (bins : List (List Float)) (c : Command) : Step → Type 0 where
  refuses : (r : Refusal) → Kind t bins c (stops t r)
  goes : Kind t bins c (goes_on t)
  turns : (i : ℕ) (o : OscState) → found t (named c) ≡ Some i → Kind t bins c (goes_on (with_osc t i o))
  swaps : (i j : ℕ) (o q : OscState) → is_swap c ≡ true → Kind t bins c (goes_on (with_osc (with_osc t i o) j q))
  puts : (i place : ℕ) (new : Bool) (start : Float) (w : Weight) (head : List Float) (spline : ℕ) → found t (named c) ≡ Some i → finite start ≡ true
      → place ≤ (channel_at t i).bins → (new ≡ false → place < (channel_at t i).bins) → (new ≡ true → (channel_at t i).bins < 64)
      → (new ≡ true → length (rows_of t bins i) ≤ place) → (channel_at t i).pulses < 1024 → Kind t bins c (stores t i place new start w head spline)

-- ---- the cases of a step

module _ (t : Tables) (bins : List (List Float)) (c : Command) where
  one_of : (b : Bool) (x y : Step) → (b ≡ true → Kind t bins c x) → (b ≡ false → Kind t bins c y) → Kind t bins c (cond b x y)
  one_of true x y h k = h refl
  one_of false x y h k = k refl

  turned-kind : (i : ℕ) (m : Moved) → found t (named c) ≡ Some i → Kind t bins c (turned t i m)
  turned-kind i m there =
      one_of m.refused (stops t NotFinite) (goes_on (with_osc t i m.osc)) (λ _. refuses NotFinite) (λ _. turns i m.osc there)

  turned-at-kind : (f : Option ℕ) → found t (named c) ≡ f → (time : Float) → Kind t bins c (turned_at t f c time)
  unfolding turned_at
  turned-at-kind None e time = refuses UnknownChannel
  turned-at-kind (Some i) e time = turned-kind i (moved_by c time (channel_at t i).osc) e

  module _ (swap : is_swap c ≡ true) where
    swapped-to-kind : (i j : ℕ) (s : Swapped) → Kind t bins c (swapped_to t i j s)
    swapped-to-kind i j s =
        one_of s.refused (stops t NotFinite) (goes_on (with_osc (with_osc t i s.one) j s.two)) (λ _. refuses NotFinite) (λ _. swaps i j s.one s.two swap)

    swapped-at-kind : (f g : Option ℕ) (time : Float) → Kind t bins c (swapped_at t f g time)
    unfolding swapped_at
    swapped-at-kind None g time = refuses UnknownChannel
    swapped-at-kind (Some i) None time = refuses UnknownChannel
    swapped-at-kind (Some i) (Some j) time = swapped-to-kind i j (swapped_phases (channel_at t i).osc (channel_at t j).osc time)

    swapped-kind : (n m : Name) (time : Float) → Kind t bins c (swapped_between t n m time)
    swapped-kind n m time =
        let s = swapped_at t (found t n) (found t m) time in
        one_of (same_name n m) (goes_on t) s (λ _. goes) (λ _. swapped-at-kind (found t n) (found t m) time)

  module _ (splines : List (List Float)) (start : Float) (known : finite start ≡ true) where
    module _ (i : ℕ) (there : found t (named c) ≡ Some i) (head : List Float) (spline : ℕ) where
      abbrev row : List Float
      row = head ++ numbers_at splines spline

      abbrev place : ℕ
      place = place_of row (rows_of t bins i)

      few-rows : length (rows_of t bins i) ≤ (channel_at t i).bins
      few-rows = rw (length-take (channel_at t i).bins (take 64 (drop (64 * i) bins))) (omega arith)

      stored-kind : (w : Weight) → Kind t bins c (stored_at t splines bins i start w head spline)
      stored-kind w =
          let new = is_new t bins i place in
          one_of (is_full t bins i place) (stops t Full) (stores t i place new start w head spline)
          (λ _. refuses Full)
          (λ e.
          let room = not_full new (channel_at t i).bins (channel_at t i).pulses e in
          let within = (place-first row (rows_of t bins i)).within in
          let few = few-rows in
          puts i place new start w head spline there known (omega arith) (λ old. let under = leb-false (length (rows_of t bins i)) place old in omega arith) room.0 (leb-true (length (rows_of t bins i)) place) room.1)

      stored-with-kind : (w : Option Weight) → Kind t bins c (stored_with t splines bins i start w head spline)
      unfolding stored_with
      stored-with-kind None = refuses NotFinite
      stored-with-kind (Some w) = stored-kind w

    module _ (span : Float) (p : Play) (is : named c ≡ p.channel) where
      pushed-kind : (kind : Shape) (k i : ℕ) → found t p.channel ≡ Some i → Kind t bins c (pushed t splines bins i start p (bin_for t i kind p span) k)
      pushed-kind kind k i there =
          let b = bin_for t i kind p span in
          let w = weighed_of p.amplitude.0 p.phase.0 p.drag in
          let spline = spline_for b.envelope.shape k in
          let storing = stored_with t splines bins i start w (head_of b) spline in
          let quiet = negligible p.amplitude.0 t.amp.0 in
          one_of (finite b.global.0 && finite b.envelope.plateau.0) (cond quiet (goes_on t) storing) (stops t NotFinite)
          (λ _. one_of quiet (goes_on t) storing (λ _. goes) (λ _. stored-with-kind i (ap (found t) is ∙ there) (head_of b) spline w))
          (λ _. refuses NotFinite)

      played-at-kind : (kind : Shape) (k : ℕ) (f : Option ℕ) → found t p.channel ≡ f → Kind t bins c (played_at t splines bins f start span p kind k)
      unfolding played_at
      played-at-kind kind k None e = refuses UnknownChannel
      played-at-kind kind k (Some i) e = pushed-kind kind k i e

      played_as_kind : (kind : Shape) (k : ℕ) → Kind t bins c (played_as t splines bins start span p kind k)
      played_as_kind kind k =
          let f = found t p.channel in
          one_of (lt (plateau_of p span) nought) (stops t NegativePlateau) (played_at t splines bins f start span p kind k)
          (λ _. refuses NegativePlateau)
          (λ _. played-at-kind kind k f refl)

      played-by-kind : (f : Option ℕ) → Kind t bins c (played_by t splines bins f start span p)
      unfolding played_by
      played-by-kind None = refuses UnknownShape
      played-by-kind (Some k) = played_as_kind (kind_of (numbers_at splines k)) k

      played-kind : Kind t bins c (played t splines bins start span p)
      played-kind = by p.shape
        where
          by : (n : Option Name) → Kind t bins c (played_with t splines bins n start span p)
          by None = played_as_kind Plain no_spline
          by (Some n) = played-by-kind (shape_found t n)

module _ (t : Tables) (splines bins : List (List Float)) where
  acted-kind : (start : Float) → finite start ≡ true → (span : Float) (c : Command) → Kind t bins c (acted t splines bins start span c)
  unfolding acted is_swap
  acted-kind start known span (C.Play p) = played-kind t bins (C.Play p) splines start known span p refl
  acted-kind start known span (C.ShiftPhase n x) = turned-at-kind t bins (C.ShiftPhase n x) (found t n) refl start
  acted-kind start known span (C.SetPhase n x) = turned-at-kind t bins (C.SetPhase n x) (found t n) refl start
  acted-kind start known span (C.ShiftFreq n x) = turned-at-kind t bins (C.ShiftFreq n x) (found t n) refl start
  acted-kind start known span (C.SetFreq n x) = turned-at-kind t bins (C.SetFreq n x) (found t n) refl start
  acted-kind start known span (C.SwapPhase n m) = swapped-kind t bins (C.SwapPhase n m) refl n m start
  acted-kind start known span C.Barrier = goes

  and_left : (x y : Bool) → (x && y) ≡ true → x ≡ true
  and_left true y e = refl
  and_left false y e = e

  -- a well-formed command has a finite start
  start-known : (a : Arranged) → well_formed a ≡ true → finite a.start.0 ≡ true
  start-known a e = and_left (finite a.start.0) (finite a.span.0) (and_left (finite a.start.0 && finite a.span.0) (good a.command) e)

  pub step-kind : (a : Arranged) → Kind t bins a.command (step_of t splines bins a)
  step-kind a =
      let s = acted t splines bins a.start.0 a.span.0 a.command in
      one_of t bins a.command (well_formed a) (cond (too_long t a) (stops t Oversize) s) (stops t Malformed)
      (λ e. one_of t bins a.command (too_long t a) (stops t Oversize) s (λ _. refuses Oversize) (λ _. acted-kind a.start.0 (start-known a e) a.span.0 a.command))
      (λ _. refuses Malformed)

-- ---- what follows

-- a refused step leaves all as it came
pub record Leaves (t : Tables) (s : Step) : Type 0 where
  pub tables : s.tables ≡ t
  pub bins : (splines bins : List (List Float)) → bins_after s splines bins ≡ bins
  pub pulses : (pulses : List Pulse) → pulses_after s pulses ≡ pulses

leaves : (t : Tables) (bins : List (List Float)) (c : Command) (s : Step) → Kind t bins c s → s.stop ≡ true → Leaves t s
leaves t bins c _ (refuses r) e = record { tables = refl; bins = λ _ _. refl; pulses = λ _. refl }
leaves t bins c _ goes e = absurd (true≢false (sym e))
leaves t bins c _ (turns i o there) e = absurd (true≢false (sym e))
leaves t bins c _ (swaps i j o q swap) e = absurd (true≢false (sym e))
leaves t bins c _ (puts i place new start w head spline there known most old room last pulses) e = absurd (true≢false (sym e))

pub refused-leaves : (t : Tables) (splines bins : List (List Float)) (a : Arranged) → (step_of t splines bins a).stop ≡ true → Leaves t (step_of t splines bins a)
refused-leaves t splines bins a = leaves t bins a.command (step_of t splines bins a) (step-kind t splines bins a)

-- where the channels have their eight places, what a step writes lies within 512 rows and 8,192 records
pub record Within (s : Step) : Type 0 where
  pub row : s.opens ≡ true → s.at < 512
  pub pulse : s.put ≡ true → s.from + s.count < 8192

kept-within : (t : Tables) (bins : List (List Float)) (c : Command) (s : Step) → length t.channels ≡ 8 → Kind t bins c s → Within s
kept-within t bins c _ eight (refuses r) = record { row = λ e. absurd (true≢false (sym e)); pulse = λ e. absurd (true≢false (sym e)) }
kept-within t bins c _ eight goes = record { row = λ e. absurd (true≢false (sym e)); pulse = λ e. absurd (true≢false (sym e)) }
kept-within t bins c _ eight (turns i o there) = record { row = λ e. absurd (true≢false (sym e)); pulse = λ e. absurd (true≢false (sym e)) }
kept-within t bins c _ eight (swaps i j o q swap) = record { row = λ e. absurd (true≢false (sym e)); pulse = λ e. absurd (true≢false (sym e)) }
kept-within t bins c _ eight (puts i place new start w head spline there known most old room last pulses) =
    let h = found-eight t (named c) i eight there in
    record { row = λ e. let below = room e in omega arith; pulse = λ _. omega arith }

pub step-within : (t : Tables) (splines bins : List (List Float)) → length t.channels ≡ 8 → (a : Arranged) → Within (step_of t splines bins a)
step-within t splines bins eight a = kept-within t bins a.command (step_of t splines bins a) eight (step-kind t splines bins a)
