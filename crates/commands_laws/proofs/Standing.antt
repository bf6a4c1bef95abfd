-- A channel's list stands as another's does where its counts are the same, and a fresh one stands; so a changed oscillator leaves all as sound as
-- it was; and what is at a place that is set, and elsewhere. Assumes nothing.
use Prim.Native.Nat.{ℕ, ◌<◌}
use native.Mathlib.Omega.{arith}
use mathlib.Core.Path.{◌≡◌, refl, sym, ap, ◌∙◌}
use mathlib.Core.Bool.{Bool, true, false}
use mathlib.Core.List.{List}
use lib.Dec.{eqb}
use borrow.Author.Tests.{eqb-true, eqb-false}
use lib.Ieee.{Float}
use lib.ListN.{length, get_or, set, length-set, get_or-map}
use lib.Seq.{get_or-set_same, get_or-set_other, map-set_same}
use Rattle.executor.specs.declared.osc.OscState.{OscState}
use Rattle.pulse.specs.declared.list.Pulse.{Pulse}
use Rattle.pulse.specs.Sorted.{sorted, timed}
use Rattle.tables.specs.declared.Channel.{Channel}
use Rattle.tables.specs.declared.Tables.{Tables}
use Rattle.tables.specs.Tables.{no_channel, channel_at, with_channels}
use Rattle.commands.specs.Step.{with_osc}
use Rattle.commands_laws.specs.Sound.{binned, Stands, Sound}

-- ---- a channel with the counts of another

pub stands_alike : (t u : Tables) (pulses : List Pulse) (i : ℕ) → (channel_at u i).bins ≡ (channel_at t i).bins → (channel_at u i).pulses ≡ (channel_at t i).pulses
    → Stands t pulses i → Stands u pulses i
stands_alike t u pulses i b p h =
    record {
      most-bins = rw b h.most-bins;
      most-pulses = rw p h.most-pulses;
      in_order = rw p h.in_order;
      in_time = rw p h.in_time;
      in_bins = rw (b, p) h.in_bins;
    }

-- a channel that starts fresh
pub stands-fresh : (u : Tables) (pulses : List Pulse) (i : ℕ) → (channel_at u i).bins ≡ 0 → (channel_at u i).pulses ≡ 0 → Stands u pulses i
unfolding sorted timed binned
stands-fresh u pulses i b p =
    record { most-bins = rw b (omega arith); most-pulses = rw p (omega arith); in_order = rw p refl; in_time = rw p refl; in_bins = rw (b, p) refl }

-- ---- an oscillator changed

-- tables with the same channels, as far as their lists go
record Alike (t u : Tables) : Type 0 where
  count : u.count ≡ t.count
  places : length u.channels ≡ length t.channels
  bins : (i : ℕ) → (channel_at u i).bins ≡ (channel_at t i).bins
  pulses : (i : ℕ) → (channel_at u i).pulses ≡ (channel_at t i).pulses

-- a field that a new channel has in common with the one whose place it takes
pub same-field : {A : Type 0} (f : Channel → A) (l : List Channel) (i : ℕ) (c : Channel) → f c ≡ f (get_or l i no_channel) → (j : ℕ)
    → f (get_or (set l i c) j no_channel) ≡ f (get_or l j no_channel)
same-field {A} f l i c e j =
    sym (get_or-map f (set l i c) j no_channel)
    ∙ ap (λ (m : List A). get_or m j (f no_channel)) (map-set_same f l i c no_channel e)
    ∙ get_or-map f l j no_channel

alike-osc : (t : Tables) (i : ℕ) (o : OscState) → Alike t (with_osc t i o)
alike-osc t i o =
    let c : Channel = record { name = (channel_at t i).name; osc = o; bins = (channel_at t i).bins; pulses = (channel_at t i).pulses } in
    record {
      count = refl;
      places = length-set t.channels i c;
      bins = same-field (λ (x : Channel). x.bins) t.channels i c refl;
      pulses = same-field (λ (x : Channel). x.pulses) t.channels i c refl;
    }

alike-sound : (t u : Tables) (bins : List (List Float)) (pulses : List Pulse) → Sound t bins pulses → Alike t u → Sound u bins pulses
alike-sound t u bins pulses h same =
    record {
      eight = same.places ∙ h.eight;
      rows = h.rows;
      records = h.records;
      few = rw same.count h.few;
      each = λ j below. stands_alike t u pulses j (same.bins j) (same.pulses j) (h.each j (rw same.count at below));
      good = λ j k below under. h.good j k (rw same.count at below) (rw (same.bins j) at under);
    }

pub osc-sound : (t : Tables) (bins : List (List Float)) (pulses : List Pulse) → Sound t bins pulses → (i : ℕ) (o : OscState) → Sound (with_osc t i o) bins pulses
osc-sound t bins pulses h i o = alike-sound t (with_osc t i o) bins pulses h (alike-osc t i o)

-- ---- one place set

module _ (t : Tables) (i : ℕ) (c : Channel) (inside : i < length t.channels) where
  pub at_place : (n : ℕ) → channel_at (with_channels t (set t.channels i c) n) i ≡ c
  at_place n = get_or-set_same t.channels i c no_channel inside

  pub at_other : (n j : ℕ) → (j ≡ i → ⊥) → channel_at (with_channels t (set t.channels i c) n) j ≡ channel_at t j
  at_other n j apart = get_or-set_other t.channels i j c no_channel apart

  -- what stands elsewhere stays, where the pulses there do
  pub stands-other : (n j : ℕ) (pulses : List Pulse) → (j ≡ i → ⊥) → Stands t pulses j → Stands (with_channels t (set t.channels i c) n) pulses j
  stands-other n j pulses apart h =
      let same = at_other n j apart in
      stands_alike t (with_channels t (set t.channels i c) n) pulses j (ap (λ (x : Channel). x.bins) same) (ap (λ (x : Channel). x.pulses) same) h

-- by whether two places are one
pub either : (P : Type 0) (j i : ℕ) → (j ≡ i → P) → ((j ≡ i → ⊥) → P) → P
either P j i same apart = go (eqb j i) refl
  where
    go : (b : Bool) → eqb j i ≡ b → P
    go true e = same (eqb-true j i e)
    go false e = apart (eqb-false j i e)
