-- Refusal 3 of a command: given exactly where a play would store a pulse, all else being in order, and its bin is new and meets a full
-- table, or its pulse does. By the checks of a step, from the first to the last. Assumes nothing.
use Rattle.std.specs.Prelude.{Option, Some, None}
use Prim.Native.Nat.{ℕ}
use native.Mathlib.Omega.{arith}
use mathlib.Core.Path.{◌≡◌, refl, sym, ap, ◌∙◌}
use mathlib.Core.Bool.{Bool, true, false, ◌&&◌, cond, true≢false}
use mathlib.Core.List.{List}
use lib.Ieee.{Float, lt}
use lib.Ieee.Scale.{finite}
use Rattle.exact.specs.Doubles.{nought}
use Rattle.quant.specs.declared.refusal.Refusal.{Refusal}
use Rattle.quant.specs.declared.refusal.Refusal.TheVariants.{Malformed, Full, Oversize, UnknownShape, NegativePlateau, UnknownChannel, NotFinite}
use Rattle.naming.specs.Name.{same_name}
use Rattle.naming.specs.declared.Name.{Name}
use Rattle.quant.specs.Refusal.{number_of}
use Rattle.executor.specs.declared.osc.Moved.{Moved}
use Rattle.executor.specs.declared.osc.Swapped.{Swapped}
use Rattle.executor.specs.Osc.{swapped_phases}
use Rattle.pulse.specs.declared.bin.Bin.{Bin}
use Rattle.pulse.specs.declared.envelope.Shape.{Shape}
use Rattle.pulse.specs.declared.envelope.Shape.TheVariants.{Plain}
use Rattle.pulse.specs.declared.weight.Weight.{Weight}
use Rattle.pulse.specs.Bin.{head_of, row_of, kind_of, place_of}
use Rattle.pulse.specs.Weight.{negligible, weighed_of}
use Rattle.tables.specs.declared.Tables.{Tables}
use Rattle.tables.specs.Tables.{found, shape_found, channel_at}
use Rattle.commands.specs.declared.command.Play.{Play}
use Rattle.commands.specs.declared.command.Command.{Command}
use Rattle.commands.specs.declared.command.Command.TheVariants as C
use Rattle.commands.specs.declared.command.Arranged.{Arranged}
use Rattle.commands.specs.declared.step.Step.{Step}
use Rattle.commands.specs.Command.{well_formed, too_long}
use Rattle.commands.specs.Step.{no_spline, numbers_at, stops, goes_on, with_osc, moved_by, turned_at, swapped_to, swapped_at, swapped_between}
use Rattle.commands.specs.Play.{rows_of, is_new, is_full, stores, stored_at, stored_with, plateau_of, bin_for, spline_for, played_at, played_as, played_by, played, played_with}
use Rattle.commands.specs.Run.{acted, step_of}

-- the shape that a play goes by, and the place of its name: none where 5 refuses it
pub data Shaped (t : Tables) (splines : List (List Float)) (p : Play) : Shape → ℕ → Type 0 where
  plain : p.shape ≡ None → Shaped t splines p Plain no_spline
  by_name : (n : Name) (k : ℕ) → p.shape ≡ Some n → shape_found t n ≡ Some k → Shaped t splines p (kind_of (numbers_at splines k)) k

-- the row and the place of the bin of a play
abbrev pub spline_of : Tables → ℕ → Shape → ℕ → Play → Float → ℕ
spline_of t i kind k p span = spline_for (bin_for t i kind p span).envelope.shape k

abbrev pub row_for : Tables → List (List Float) → ℕ → Shape → ℕ → Play → Float → List Float
row_for t splines i kind k p span = row_of (bin_for t i kind p span) (numbers_at splines (spline_of t i kind k p span))

abbrev pub place_for : Tables → List (List Float) → List (List Float) → ℕ → Shape → ℕ → Play → Float → ℕ
place_for t splines bins i kind k p span = place_of (row_for t splines i kind k p span) (rows_of t bins i)

-- A command that would store a pulse: a play p to channel i that meets none of 2, 4, 5, 6, 7 and 8 and is not negligible; kind is its shape, k the
-- place of the shape's name, w its weight.
pub record Storing (t : Tables) (splines : List (List Float)) (a : Arranged) (p : Play) (kind : Shape) (k i : ℕ) (w : Weight) : Type 0 where
  pub formed : well_formed a ≡ true
  pub short : too_long t a ≡ false
  pub plays : a.command ≡ C.Play p
  pub shaped : Shaped t splines p kind k
  pub plateau : lt (plateau_of p a.span.0) nought ≡ false
  pub channel : found t p.channel ≡ Some i
  pub finite-bin : (finite (bin_for t i kind p a.span.0).global.0 && finite (bin_for t i kind p a.span.0).envelope.plateau.0) ≡ true
  pub heard : negligible p.amplitude.0 t.amp.0 ≡ false
  pub weight : weighed_of p.amplitude.0 p.phase.0 p.drag ≡ Some w

-- ---- a storing play: full, or stored

-- past 5
pub played-as : (t : Tables) (splines bins : List (List Float)) (start span : Float) (p : Play) (kind : Shape) (k : ℕ) → Shaped t splines p kind k
    → played t splines bins start span p ≡ played_as t splines bins start span p kind k
unfolding played_by
played-as t splines bins start span p _ _ (plain e) = rw e
played-as t splines bins start span p _ _ (by_name n k e there) = rw (e, there)

module _ (t : Tables) (splines bins : List (List Float)) (a : Arranged) (p : Play) (kind : Shape) (k i : ℕ) (w : Weight) (h : Storing t splines a p kind k i w) where
  abbrev span : Float
  span = a.span.0

  abbrev place : ℕ
  place = place_for t splines bins i kind k p span

  pub storing_step : step_of t splines bins a ≡ stored_at t splines bins i a.start.0 w (head_of (bin_for t i kind p span)) (spline_of t i kind k p span)
  unfolding acted played_at stored_with
  storing_step =
      rw (h.formed, h.short, h.plays, played-as t splines bins a.start.0 span p kind k h.shaped, h.plateau, h.channel, h.finite-bin, h.heard, h.weight)

  pub storing_full : is_full t bins i place ≡ true → step_of t splines bins a ≡ stops t Full
  storing_full e = storing_step ∙ (rw e)

  pub storing_room : is_full t bins i place ≡ false
      → step_of t splines bins a ≡ stores t i place (is_new t bins i place) a.start.0 w (head_of (bin_for t i kind p span)) (spline_of t i kind k p span)
  storing_room e = storing_step ∙ (rw e)

-- ---- and nothing else

record ByFull (s : Step) : Type 0 where
  stop : s.stop ≡ true
  why : s.why ≡ Full

pub record FullAt (t : Tables) (splines bins : List (List Float)) (a : Arranged) : Type 0 where
  pub play : Play
  pub kind : Shape
  pub name : ℕ
  pub place : ℕ
  pub of-weight : Weight
  pub storing : Storing t splines a play kind name place of-weight
  pub full : is_full t bins place (place_for t splines bins place kind name play a.span.0) ≡ true

goes-not : (t : Tables) → ByFull (goes_on t) → ⊥
goes-not t h = true≢false (sym h.stop)

-- a refusal by another number
stops-not : (t : Tables) (r : Refusal) (n : ℕ) → number_of r ≡ n → (n ≡ 3 → ⊥) → ByFull (stops t r) → ⊥
stops-not t r n e other h = other (sym e ∙ ap number_of h.why)

turned-not : (t : Tables) (f : Option ℕ) (c : Command) (time : Float) → ByFull (turned_at t f c time) → ⊥
unfolding turned_at
turned-not t None c time h = stops-not t UnknownChannel 7 refl (λ e. omega arith) h
turned-not t (Some i) c time h = go m.refused h
  where
    m : Moved
    m = moved_by c time (channel_at t i).osc

    go : (b : Bool) → ByFull (cond b (stops t NotFinite) (goes_on (with_osc t i m.osc))) → ⊥
    go true k = stops-not t NotFinite 8 refl (λ e. omega arith) k
    go false k = goes-not (with_osc t i m.osc) k

swapped-to-not : (t : Tables) (i j : ℕ) (s : Swapped) → ByFull (swapped_to t i j s) → ⊥
swapped-to-not t i j s h = go s.refused h
  where
    go : (b : Bool) → ByFull (cond b (stops t NotFinite) (goes_on (with_osc (with_osc t i s.one) j s.two))) → ⊥
    go true k = stops-not t NotFinite 8 refl (λ e. omega arith) k
    go false k = goes-not (with_osc (with_osc t i s.one) j s.two) k

swapped-at-not : (t : Tables) (f g : Option ℕ) (time : Float) → ByFull (swapped_at t f g time) → ⊥
unfolding swapped_at
swapped-at-not t None g time h = stops-not t UnknownChannel 7 refl (λ e. omega arith) h
swapped-at-not t (Some i) None time h = stops-not t UnknownChannel 7 refl (λ e. omega arith) h
swapped-at-not t (Some i) (Some j) time h = swapped-to-not t i j (swapped_phases (channel_at t i).osc (channel_at t j).osc time) h

swapped-not : (t : Tables) (n m : Name) (time : Float) → ByFull (swapped_between t n m time) → ⊥
swapped-not t n m time h = go (same_name n m) h
  where
    go : (b : Bool) → ByFull (cond b (goes_on t) (swapped_at t (found t n) (found t m) time)) → ⊥
    go true k = goes-not t k
    go false k = swapped-at-not t (found t n) (found t m) time k

module _ (t : Tables) (splines bins : List (List Float)) (a : Arranged) (formed : well_formed a ≡ true) (short : too_long t a ≡ false) where
  abbrev start : Float
  start = a.start.0

  abbrev wide : Float
  wide = a.span.0

  module _ (p : Play) (plays : a.command ≡ C.Play p) (kind : Shape) (k : ℕ) (shaped : Shaped t splines p kind k) where
    module _ (plateau : lt (plateau_of p wide) nought ≡ false) (i : ℕ) (channel : found t p.channel ≡ Some i) where
      abbrev bin : Bin
      bin = bin_for t i kind p wide

      abbrev sound : Bool
      sound = finite bin.global.0 && finite bin.envelope.plateau.0

      abbrev quiet : Bool
      quiet = negligible p.amplitude.0 t.amp.0

      abbrev weighed : Option Weight
      weighed = weighed_of p.amplitude.0 p.phase.0 p.drag

      abbrev spline : ℕ
      spline = spline_of t i kind k p wide

      abbrev at : ℕ
      at = place_for t splines bins i kind k p wide

      stored-full : sound ≡ true → quiet ≡ false → (w : Weight) → weighed ≡ Some w → ByFull (stored_at t splines bins i start w (head_of bin) spline) → FullAt t splines bins a
      stored-full s q w e h = go (is_full t bins i at) refl h
        where
          go : (b : Bool) → is_full t bins i at ≡ b → ByFull (cond b (stops t Full) (stores t i at (is_new t bins i at) start w (head_of bin) spline)) → FullAt t splines bins a
          go true f h =
              record {
                play = p;
                kind = kind;
                name = k;
                place = i;
                of-weight = w;
                storing = record { formed = formed; short = short; plays = plays; shaped = shaped; plateau = plateau; channel = channel; finite-bin = s; heard = q; weight = e };
                full = f;
              }
          go false f h = absurd (true≢false (sym h.stop))

      weighed-full : sound ≡ true → quiet ≡ false → (w : Option Weight) → weighed ≡ w → ByFull (stored_with t splines bins i start w (head_of bin) spline) → FullAt t splines bins a
      unfolding stored_with
      weighed-full s q None e h = absurd (stops-not t NotFinite 8 refl (λ e. omega arith) h)
      weighed-full s q (Some w) e h = stored-full s q w e h

      quiet-full : sound ≡ true → (b : Bool) → quiet ≡ b → ByFull (cond b (goes_on t) (stored_with t splines bins i start weighed (head_of bin) spline)) → FullAt t splines bins a
      quiet-full s true q h = absurd (goes-not t h)
      quiet-full s false q h = weighed-full s q weighed refl h

      pushed-full : (b : Bool) → sound ≡ b → ByFull (cond b (cond quiet (goes_on t) (stored_with t splines bins i start weighed (head_of bin) spline)) (stops t NotFinite)) → FullAt t splines bins a
      pushed-full true s h = quiet-full s quiet refl h
      pushed-full false s h = absurd (stops-not t NotFinite 8 refl (λ e. omega arith) h)

    channel-full : lt (plateau_of p wide) nought ≡ false → (f : Option ℕ) → found t p.channel ≡ f → ByFull (played_at t splines bins f start wide p kind k) → FullAt t splines bins a
    unfolding played_at
    channel-full low None e h = absurd (stops-not t UnknownChannel 7 refl (λ e. omega arith) h)
    channel-full low (Some i) e h = pushed-full low i e (sound low i e) refl h

    plateau-full : (b : Bool) → lt (plateau_of p wide) nought ≡ b
        → ByFull (cond b (stops t NegativePlateau) (played_at t splines bins (found t p.channel) start wide p kind k)) → FullAt t splines bins a
    plateau-full true e h = absurd (stops-not t NegativePlateau 6 refl (λ e. omega arith) h)
    plateau-full false e h = channel-full e (found t p.channel) refl h

    as_full : ByFull (played_as t splines bins start wide p kind k) → FullAt t splines bins a
    as_full h = plateau-full (lt (plateau_of p wide) nought) refl h

  module _ (p : Play) (plays : a.command ≡ C.Play p) where
    by-full : (n : Name) → p.shape ≡ Some n → (f : Option ℕ) → shape_found t n ≡ f → ByFull (played_by t splines bins f start wide p) → FullAt t splines bins a
    unfolding played_by
    by-full n e None there h = absurd (stops-not t UnknownShape 5 refl (λ e. omega arith) h)
    by-full n e (Some k) there h = as_full p plays (kind_of (numbers_at splines k)) k (by_name n k e there) h

    shape-full : (n : Option Name) → p.shape ≡ n → ByFull (played_with t splines bins n start wide p) → FullAt t splines bins a
    shape-full None e h = as_full p plays Plain no_spline (plain e) h
    shape-full (Some n) e h = by-full n e (shape_found t n) refl h

  acted-full : (c : Command) → a.command ≡ c → ByFull (acted t splines bins start wide c) → FullAt t splines bins a
  unfolding acted
  acted-full (C.Play p) e h = shape-full p e p.shape refl h
  acted-full (C.ShiftPhase n x) e h = absurd (turned-not t (found t n) (C.ShiftPhase n x) start h)
  acted-full (C.SetPhase n x) e h = absurd (turned-not t (found t n) (C.SetPhase n x) start h)
  acted-full (C.ShiftFreq n x) e h = absurd (turned-not t (found t n) (C.ShiftFreq n x) start h)
  acted-full (C.SetFreq n x) e h = absurd (turned-not t (found t n) (C.SetFreq n x) start h)
  acted-full (C.SwapPhase n m) e h = absurd (swapped-not t n m start h)
  acted-full C.Barrier e h = absurd (goes-not t h)

module _ (t : Tables) (splines bins : List (List Float)) (a : Arranged) where
  abbrev act : Step
  act = acted t splines bins a.start.0 a.span.0 a.command

  short-full : well_formed a ≡ true → (b : Bool) → too_long t a ≡ b → ByFull (cond b (stops t Oversize) act) → FullAt t splines bins a
  short-full formed true e h = absurd (stops-not t Oversize 4 refl (λ e. omega arith) h)
  short-full formed false e h = acted-full t splines bins a formed e a.command refl h

  formed-full : (b : Bool) → well_formed a ≡ b → ByFull (cond b (cond (too_long t a) (stops t Oversize) act) (stops t Malformed)) → FullAt t splines bins a
  formed-full true e h = short-full e (too_long t a) refl h
  formed-full false e h = absurd (stops-not t Malformed 2 refl (λ e. omega arith) h)

  -- a step refused by 3 is a storing play that meets a full table
  pub only-full : (step_of t splines bins a).stop ≡ true → (step_of t splines bins a).why ≡ Full → FullAt t splines bins a
  only-full s w = formed-full (well_formed a) refl (record { stop = s; why = w })
