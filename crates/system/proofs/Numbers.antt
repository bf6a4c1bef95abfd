-- Which numbers a command can be refused with: 2, 4, 5, 6, 7, 8 and 3, and no other. By the cases of a command. Assumes nothing.
use Rattle.std.specs.Prelude.{Option, Some, None}
use Rattle.pulse.specs.declared.weight.Weight.{Weight}
use Prim.Native.Nat.{ℕ}
use mathlib.Core.Path.{◌≡◌, refl, sym}
use mathlib.Core.Bool.{Bool, true, false, ◌&&◌, cond, true≢false}
use mathlib.Core.List.{List, ◌++◌}
use lib.Ieee.{Float, lt}
use lib.Ieee.Scale.{finite}
use Rattle.exact.specs.Doubles.{nought}
use Rattle.exact.specs.Among.{among}
use Rattle.naming.specs.declared.Name.{Name}
use Rattle.quant.specs.declared.refusal.Refusal.TheVariants.{Malformed, Full, Oversize, NegativePlateau, NotFinite}
use Rattle.naming.specs.Name.{same_name}
use Rattle.quant.specs.Refusal.{number_of}
use Rattle.executor.specs.declared.osc.Moved.{Moved}
use Rattle.executor.specs.declared.osc.Swapped.{Swapped}
use Rattle.executor.specs.Osc.{swapped_phases}
use Rattle.pulse.specs.declared.envelope.Shape.{Shape}
use Rattle.pulse.specs.declared.envelope.Shape.TheVariants.{Plain}
use Rattle.pulse.specs.Bin.{head_of, kind_of, place_of}
use Rattle.pulse.specs.Weight.{negligible, weighed_of}
use Rattle.tables.specs.declared.Tables.{Tables}
use Rattle.tables.specs.Tables.{found, shape_found, channel_at}
use Rattle.commands.specs.declared.command.Play.{Play}
use Rattle.commands.specs.declared.command.Command.{Command}
use Rattle.commands.specs.declared.command.Command.TheVariants as C
use Rattle.commands.specs.declared.command.Arranged.{Arranged}
use Rattle.commands.specs.declared.step.Step.{Step}
use Rattle.commands.specs.Command.{well_formed, too_long}
use Rattle.commands.specs.Step.{no_spline, numbers_at, stops, goes_on, with_osc, turned, moved_by, turned_at, swapped_to, swapped_at, swapped_between}
use Rattle.commands.specs.Play.{rows_of, is_new, is_full, stores, stored_with, plateau_of, bin_for, spline_for, played_at, played_as, played_by, played, played_with}
use Rattle.commands.specs.Run.{acted, step_of}
use Rattle.system.specs.Said.{command_numbers}

-- a step that stops has one of the numbers
abbrev Numbered : Step → Type 0
Numbered x = x.stop ≡ true → among command_numbers (number_of x.why) ≡ true

one_of : (b : Bool) (x y : Step) → Numbered x → Numbered y → Numbered (cond b x y)
one_of true x y h k = h
one_of false x y h k = k

-- a step that goes on
on : {A : Type 0} → false ≡ true → A
on e = absurd (true≢false (sym e))

module _ (t : Tables) where
  turned-number : (i : ℕ) (m : Moved) → Numbered (turned t i m)
  unfolding among
  turned-number i m = one_of m.refused (stops t NotFinite) (goes_on (with_osc t i m.osc)) (λ e. refl) on

  turned-at-number : (f : Option ℕ) (c : Command) (time : Float) → Numbered (turned_at t f c time)
  unfolding turned_at among
  turned-at-number None c time = λ e. refl
  turned-at-number (Some i) c time = turned-number i (moved_by c time (channel_at t i).osc)

  swapped-to-number : (i j : ℕ) (x : Swapped) → Numbered (swapped_to t i j x)
  unfolding among
  swapped-to-number i j x = one_of x.refused (stops t NotFinite) (goes_on (with_osc (with_osc t i x.one) j x.two)) (λ e. refl) on

  swapped-at-number : (f g : Option ℕ) (time : Float) → Numbered (swapped_at t f g time)
  unfolding swapped_at among
  swapped-at-number None g time = λ e. refl
  swapped-at-number (Some i) None time = λ e. refl
  swapped-at-number (Some i) (Some j) time = swapped-to-number i j (swapped_phases (channel_at t i).osc (channel_at t j).osc time)

  swapped-number : (n m : Name) (time : Float) → Numbered (swapped_between t n m time)
  swapped-number n m time =
      let f = found t n in
      let g = found t m in
      one_of (same_name n m) (goes_on t) (swapped_at t f g time) on (swapped-at-number f g time)

  module _ (splines bins : List (List Float)) where
    stored-with-number : (i : ℕ) (start : Float) (w : Option Weight) (head : List Float) (spline : ℕ) → Numbered (stored_with t splines bins i start w head spline)
    unfolding stored_with among
    stored-with-number i start None head spline = λ e. refl
    stored-with-number i start (Some w) head spline =
        let place = place_of (head ++ numbers_at splines spline) (rows_of t bins i) in
        one_of (is_full t bins i place) (stops t Full) (stores t i place (is_new t bins i place) start w head spline) (λ e. refl) on

    module _ (start span : Float) (p : Play) where
      played-at-number : (f : Option ℕ) (kind : Shape) (k : ℕ) → Numbered (played_at t splines bins f start span p kind k)
      unfolding played_at among
      played-at-number None kind k = λ e. refl
      played-at-number (Some i) kind k =
          let b = bin_for t i kind p span in
          let w = weighed_of p.amplitude.0 p.phase.0 p.drag in
          let spline = spline_for b.envelope.shape k in
          let storing = stored_with t splines bins i start w (head_of b) spline in
          let quiet = negligible p.amplitude.0 t.amp.0 in
          one_of (finite b.global.0 && finite b.envelope.plateau.0) (cond quiet (goes_on t) storing) (stops t NotFinite)
          (one_of quiet (goes_on t) storing on (stored-with-number i start w (head_of b) spline))
          (λ e. refl)

      played_as_number : (kind : Shape) (k : ℕ) → Numbered (played_as t splines bins start span p kind k)
      unfolding among
      played_as_number kind k =
          let f = found t p.channel in
          one_of (lt (plateau_of p span) nought) (stops t NegativePlateau) (played_at t splines bins f start span p kind k) (λ e. refl) (played-at-number f kind k)

      played-by-number : (f : Option ℕ) → Numbered (played_by t splines bins f start span p)
      unfolding played_by among
      played-by-number None = λ e. refl
      played-by-number (Some k) = played_as_number (kind_of (numbers_at splines k)) k

      played-number : Numbered (played t splines bins start span p)
      played-number = by p.shape
        where
          by : (n : Option Name) → Numbered (played_with t splines bins n start span p)
          by None = played_as_number Plain no_spline
          by (Some n) = played-by-number (shape_found t n)

    acted-number : (start span : Float) (c : Command) → Numbered (acted t splines bins start span c)
    unfolding acted
    acted-number start span (C.Play p) = played-number start span p
    acted-number start span (C.ShiftPhase n x) = turned-at-number (found t n) (C.ShiftPhase n x) start
    acted-number start span (C.SetPhase n x) = turned-at-number (found t n) (C.SetPhase n x) start
    acted-number start span (C.ShiftFreq n x) = turned-at-number (found t n) (C.ShiftFreq n x) start
    acted-number start span (C.SetFreq n x) = turned-at-number (found t n) (C.SetFreq n x) start
    acted-number start span (C.SwapPhase n m) = swapped-number n m start
    acted-number start span C.Barrier = on

    pub step-number : (a : Arranged) → Numbered (step_of t splines bins a)
    unfolding among
    step-number a =
        let x = acted t splines bins a.start.0 a.span.0 a.command in
        one_of (well_formed a) (cond (too_long t a) (stops t Oversize) x) (stops t Malformed)
        (one_of (too_long t a) (stops t Oversize) x (λ e. refl) (acted-number a.start.0 a.span.0 a.command))
        (λ e. refl)
