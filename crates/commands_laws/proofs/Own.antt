-- What a command to one channel comes to, worked out from that channel alone: its record, its bins' rows, and the tolerances, the choice
-- and the shapes with their rows. A step is this, carried over to the tables. Assumes nothing.
use Rattle.std.specs.Prelude.{Option, Some, None}
use Prim.Native.Nat.{ℕ}
use mathlib.Core.Path.{◌≡◌, refl}
use mathlib.Core.Bool.{Bool, true, false, ◌&&◌, ◌||◌, not, cond, true≢false}
use mathlib.Core.List.{List, ◌++◌}
use lib.Dec.{leb}
use lib.Ieee.{Float, binary64, add, lt}
use lib.Ieee.Scale.{finite}
use lib.ListN.{length}
use Rattle.exact.specs.Doubles.{nought}
use Rattle.naming.specs.declared.Name.{Name}
use Rattle.quant.specs.declared.refusal.Refusal.{Refusal}
use Rattle.quant.specs.declared.refusal.Refusal.TheVariants.{Malformed, Full, Oversize, UnknownShape, NegativePlateau, NotFinite}
use Rattle.executor.specs.declared.osc.OscState.{OscState}
use Rattle.executor.specs.declared.osc.Moved.{Moved}
use Rattle.pulse.specs.declared.envelope.Shape.{Shape}
use Rattle.pulse.specs.declared.envelope.Shape.TheVariants.{Plain}
use Rattle.pulse.specs.declared.weight.Weight.{Weight}
use Rattle.pulse.specs.Bin.{head_of, kind_of, place_of}
use Rattle.pulse.specs.Weight.{negligible, weighed_of}
use Rattle.tables.specs.declared.Channel.{Channel}
use Rattle.tables.specs.declared.Tables.{Tables}
use Rattle.tables.specs.Tables.{shapes_in, found, shape_from, shape_found, channel_at}
use Rattle.commands.specs.declared.command.Play.{Play}
use Rattle.commands.specs.declared.command.Command.{Command}
use Rattle.commands.specs.declared.command.Command.TheVariants as C
use Rattle.commands.specs.declared.command.Arranged.{Arranged}
use Rattle.commands.specs.declared.step.Step.{Step}
use Rattle.commands.specs.Command.{well_formed, required, too_long}
use Rattle.commands.specs.Step.{no_spline, numbers_at, stops, goes_on, with_osc, moved_by, turned_at}
use Rattle.commands.specs.Play.{rows_of, stores, stored_with, plateau_of, bin_with, spline_for, played_at, played_as, played_by, played, played_with}
use Rattle.commands.specs.Run.{acted, step_of}
use Rattle.commands.specs.Command.{named, is_swap}

-- what a channel's commands go by
pub record View : Type 0 where
  pub amp : Float
  pub time : Float
  pub oversize : Bool
  pub shapes : List Name
  pub splines : List (List Float)
  pub channel : Channel
  pub rows : List (List Float)

abbrev pub view_of : Tables → List (List Float) → List (List Float) → ℕ → View
view_of t splines bins i =
    record {
      amp = t.amp.0;
      time = t.time.0;
      oversize = t.oversize;
      shapes = shapes_in t;
      splines = splines;
      channel = channel_at t i;
      rows = rows_of t bins i;
    }

-- a step, without the tables
pub data Own : Type 0 where
  refuses : Refusal → Own
  same : Own
  turns : OscState → Own
  puts : ℕ → Bool → Float → Weight → List Float → ℕ → Own

-- carried over to the tables, for the channel at a place
abbrev pub realize : Tables → ℕ → Own → Step
realize t i (refuses r) = stops t r
realize t i same = goes_on t
realize t i (turns o) = goes_on (with_osc t i o)
realize t i (puts place new start w head spline) = stores t i place new start w head spline

-- ---- a step from the view

abbrev own_turn : View → Moved → Own
own_turn v m = cond m.refused (refuses NotFinite) (turns m.osc)

abbrev own_full : View → ℕ → Bool
own_full v place = (leb (length v.rows) place && leb 64 v.channel.bins) || leb 1024 v.channel.pulses

abbrev own_store : View → Float → Weight → List Float → ℕ → Own
own_store v start w head spline =
    let place = place_of (head ++ numbers_at v.splines spline) v.rows in
    cond (own_full v place) (refuses Full) (puts place (leb (length v.rows) place) start w head spline)

abbrev own_weighed : View → Float → Option Weight → List Float → ℕ → Own
own_weighed v start None head spline = refuses NotFinite
own_weighed v start (Some w) head spline = own_store v start w head spline

abbrev own_play_as : View → Float → Float → Play → Shape → ℕ → Own
own_play_as v start span p kind k =
    let b = bin_with v.channel.osc kind p span in
    cond (lt (plateau_of p span) nought) (refuses NegativePlateau)
    (cond (finite b.global.0 && finite b.envelope.plateau.0)
    (cond (negligible p.amplitude.0 v.amp) same
    (own_weighed v start (weighed_of p.amplitude.0 p.phase.0 p.drag) (head_of b) (spline_for b.envelope.shape k)))
    (refuses NotFinite))

abbrev own_play_by : View → Float → Float → Play → Option ℕ → Own
own_play_by v start span p None = refuses UnknownShape
own_play_by v start span p (Some k) = own_play_as v start span p (kind_of (numbers_at v.splines k)) k

abbrev own_play_with : View → Option Name → Float → Float → Play → Own
own_play_with v None start span p = own_play_as v start span p Plain no_spline
own_play_with v (Some n) start span p = own_play_by v start span p (shape_from 0 n v.shapes)

abbrev own_play : View → Float → Float → Play → Own
own_play v start span p = own_play_with v p.shape start span p

abbrev own_act : View → Float → Float → Command → Own
own_act v start span (C.Play p) = own_play v start span p
own_act v start span (C.ShiftPhase n x) = own_turn v (moved_by (C.ShiftPhase n x) start v.channel.osc)
own_act v start span (C.SetPhase n x) = own_turn v (moved_by (C.SetPhase n x) start v.channel.osc)
own_act v start span (C.ShiftFreq n x) = own_turn v (moved_by (C.ShiftFreq n x) start v.channel.osc)
own_act v start span (C.SetFreq n x) = own_turn v (moved_by (C.SetFreq n x) start v.channel.osc)
own_act v start span (C.SwapPhase n m) = same
own_act v start span C.Barrier = same

abbrev pub own : View → Arranged → Own
own v a =
    cond (well_formed a)
    (cond (not v.oversize && lt (add binary64 a.span.0 v.time) (required a.command)) (refuses Oversize) (own_act v a.start.0 a.span.0 a.command))
    (refuses Malformed)

-- ---- it is the step

real-cond : (t : Tables) (i : ℕ) (b : Bool) (x y : Own) → realize t i (cond b x y) ≡ cond b (realize t i x) (realize t i y)
real-cond t i true x y = refl
real-cond t i false x y = refl

-- both ways of a test
module _ (t : Tables) (i : ℕ) where
  both_ways : (b : Bool) (x y : Own) (s r : Step) → s ≡ realize t i x → r ≡ realize t i y → cond b s r ≡ realize t i (cond b x y)
  both_ways true x y s r h k = h
  both_ways false x y s r h k = k

module _ (t : Tables) (splines bins : List (List Float)) (i : ℕ) where
  abbrev v : View
  v = view_of t splines bins i

  own-weighed : (start : Float) (w : Option Weight) (head : List Float) (spline : ℕ)
      → stored_with t splines bins i start w head spline ≡ realize t i (own_weighed v start w head spline)
  unfolding stored_with
  own-weighed start None head spline = refl
  own-weighed start (Some w) head spline =
      let place = place_of (head ++ numbers_at splines spline) (rows_of t bins i) in
      let new = leb (length v.rows) place in
      both_ways t i (own_full v place) (refuses Full) (puts place new start w head spline) (stops t Full) (stores t i place new start w head spline) refl refl

  module _ (start span : Float) where
    own-play_as : (p : Play) → found t p.channel ≡ Some i → (kind : Shape) (k : ℕ)
        → played_as t splines bins start span p kind k ≡ realize t i (own_play_as v start span p kind k)
    unfolding played_at
    own-play_as p e kind k =
        let b = bin_with (channel_at t i).osc kind p span in
        let w = weighed_of p.amplitude.0 p.phase.0 p.drag in
        let quiet = negligible p.amplitude.0 t.amp.0 in
        let sound = finite b.global.0 && finite b.envelope.plateau.0 in
        rw e
        (both_ways t i (lt (plateau_of p span) nought) (refuses NegativePlateau) _ (stops t NegativePlateau) _ refl
        (both_ways t i sound _ (refuses NotFinite) _ (stops t NotFinite)
        (both_ways t i quiet same _ (goes_on t) _ refl (own-weighed start w (head_of b) (spline_for b.envelope.shape k)))
        refl))

    own-play-by : (p : Play) → found t p.channel ≡ Some i → (f : Option ℕ) → played_by t splines bins f start span p ≡ realize t i (own_play_by v start span p f)
    unfolding played_by
    own-play-by p e None = refl
    own-play-by p e (Some k) = own-play_as p e (kind_of (numbers_at splines k)) k

    own-play : (p : Play) → found t p.channel ≡ Some i → played t splines bins start span p ≡ realize t i (own_play v start span p)
    own-play p e = by p.shape
      where
        by : (n : Option Name) → played_with t splines bins n start span p ≡ realize t i (own_play_with v n start span p)
        by None = own-play_as p e Plain no_spline
        by (Some n) = own-play-by p e (shape_found t n)

    own_turn_lem : (m : Moved) → cond m.refused (stops t NotFinite) (goes_on (with_osc t i m.osc)) ≡ realize t i (own_turn v m)
    own_turn_lem m = both_ways t i m.refused (refuses NotFinite) (turns m.osc) (stops t NotFinite) (goes_on (with_osc t i m.osc)) refl refl

    own-act : (c : Command) → is_swap c ≡ false → found t (named c) ≡ Some i → acted t splines bins start span c ≡ realize t i (own_act v start span c)
    unfolding acted turned_at is_swap
    own-act (C.Play p) e f = own-play p f
    own-act (C.ShiftPhase n x) e f = rw f (own_turn_lem (moved_by (C.ShiftPhase n x) start (channel_at t i).osc))
    own-act (C.SetPhase n x) e f = rw f (own_turn_lem (moved_by (C.SetPhase n x) start (channel_at t i).osc))
    own-act (C.ShiftFreq n x) e f = rw f (own_turn_lem (moved_by (C.ShiftFreq n x) start (channel_at t i).osc))
    own-act (C.SetFreq n x) e f = rw f (own_turn_lem (moved_by (C.SetFreq n x) start (channel_at t i).osc))
    own-act (C.SwapPhase n m) e f = absurd (true≢false e)
    own-act C.Barrier e f = refl

  pub own-step : (a : Arranged) → is_swap a.command ≡ false → found t (named a.command) ≡ Some i → step_of t splines bins a ≡ realize t i (own v a)
  own-step a e f =
      both_ways t i (well_formed a) _ (refuses Malformed) _ (stops t Malformed)
      (both_ways t i (too_long t a) (refuses Oversize) _ (stops t Oversize) _ refl (own-act a.start.0 a.span.0 a.command e f))
      refl
