-- From made tables, after any run of adds and command calls, accepted or refused, every list stands by bin and time, every count is right and
-- every bin is good. Each call keeps it, and a step keeps it by its cases. Assumes nothing.
use Rattle.std.specs.Prelude.{Option, Some, None}
use Prim.Native.Nat.{ℕ, suc, ◌+◌, ◌*◌, ◌≤◌, ◌<◌}
use native.Mathlib.Omega.{arith}
use mathlib.Core.Path.{◌≡◌, refl, sym, ap, ◌∙◌}
use mathlib.Core.Bool.{Bool, true, false, ◌&&◌, cond}
use mathlib.Core.List.{List, [], ◌∷◌, ◌++◌}
use lib.Dec.{ltb, eqb}
use borrow.Author.Tests.{ltb-true}
use lib.Ieee.{Float, is_nan, nan, inf, fin}
use lib.Ieee.Scale.{finite}
use lib.ListN.{length, take, drop, set, length-set, length-take, length-drop}
use lib.Seq.{get_or-set_same, get_or-set_other}
use Rattle.exact.specs.Doubles.{nought}
use Rattle.naming.specs.declared.Name.{Name}
use Rattle.quant.specs.declared.refusal.Refusal.TheVariants.{Unfit, Malformed, Full, WrongSize, WrongSpline}
use Rattle.naming.specs.Name.{is_name}
use Rattle.quant.specs.Settings.{is_tolerance}
use Rattle.executor.specs.declared.osc.OscState.{OscState}
use Rattle.pulse.specs.declared.list.Pulse.{Pulse}
use Rattle.pulse.specs.declared.weight.Weight.{Weight}
use Rattle.rows.specs.Rows.{all_finite}
use Rattle.spline.specs.Spline.{is_spline}
use Rattle.spline.specs.Row.{row_of}
use Rattle.pulse.specs.Bin.{bin_of, no_numbers, GoodBin}
use Rattle.pulse.specs.List.{stored}
use Rattle.pulse.proofs.Stored.{stored-list, stored-sorted, stored-timed, stored-length}
use Rattle.tables.specs.declared.Channel.{Channel}
use Rattle.tables.specs.declared.Tables.{Tables}
use Rattle.tables.specs.Tables.{found, shape_found, done, refused, Formed, formed, channel_at, fresh, finite_osc, with_channels, with_channel, settled, with_added, with_shape, settled_shape, with_added_shape, with_added_spline, channels_in, empty, made}
use Rattle.tables.proofs.Finding.{found-eight, found-under}
use Rattle.commands.specs.declared.command.Command.{Command}
use Rattle.commands.specs.declared.command.Arranged.{Arranged}
use Rattle.commands.specs.declared.step.Step.{Step}
use Rattle.commands.specs.Step.{numbers_at, bins_after, pulses_after, with_osc}
use Rattle.commands.specs.Play.{rows_of, grown, pulse_at, stores}
use Rattle.commands.specs.Run.{Ran, ran_to, refused_at, step_of, ran, sizes_fit, executed}
use Rattle.commands_laws.specs.Sound.{list_of, bin_at, Stands, Sound, Reached, start, channel, shape, spline, call}
use Rattle.commands.specs.Command.{named}
use Rattle.commands.proofs.Cases.{Kind, refuses, goes, turns, swaps, puts, step-kind}
use Rattle.commands_laws.proofs.Zones.{zone-stays, binned-more, binned-placed}
use Rattle.commands_laws.proofs.Standing.{stands_alike, stands-fresh, osc-sound, at_place, at_other, stands-other, either}
use Rattle.commands_laws.proofs.Opened.{Opens, step-opens}
use Rattle.commands_laws.proofs.Calls.{bins-size}

-- ---- a channel added

module _ (t : Tables) (bins : List (List Float)) (pulses : List Pulse) (h : Sound t bins pulses) (n : Name) (o : OscState) where
  abbrev new : Channel
  new = fresh n o

  fresh_at : (i m : ℕ) → i < length t.channels → m ≤ 8 → ((j : ℕ) → j < m → (j ≡ i → ⊥) → j < t.count) → Sound (with_channels t (set t.channels i new) m) bins pulses
  fresh_at i m inside few old =
      record {
        eight = length-set t.channels i new ∙ h.eight;
        rows = h.rows;
        records = h.records;
        few = few;
        each = λ j below.
            either (Stands (with_channels t (set t.channels i new) m) pulses j) j i
            (λ e.
            let there = at_place t i new inside m in
            rw e (stands-fresh (with_channels t (set t.channels i new) m) pulses i (ap (λ (x : Channel). x.bins) there) (ap (λ (x : Channel). x.pulses) there)))
            (λ apart. stands-other t i new inside m j pulses apart (h.each j (old j below apart)));
        good = λ j k below under.
            either (GoodBin (bin_at bins j k)) j i
            (λ e.
            let none : (channel_at (with_channels t (set t.channels i new) m) j).bins ≡ 0 = rw e (ap (λ (x : Channel). x.bins) (at_place t i new inside m)) in
            absurd (omega (arith, under, none)))
            (λ apart. h.good j k (old j below apart) (rw (ap (λ (x : Channel). x.bins) (at_other t i new inside m j apart)) at under));
      }

  settled-sound : (f : Option ℕ) → found t n ≡ f → Sound (settled t f new).tables bins pulses
  unfolding settled
  settled-sound (Some i) e =
      let under = found-eight t n i h.eight e in
      fresh_at i t.count (omega (arith, h.eight)) h.few (λ j below apart. below)
  settled-sound None e = go (ltb t.count 8) refl
    where
      go : (b : Bool) → ltb t.count 8 ≡ b
          → Sound (cond b (done (with_channels t (set t.channels t.count new) (t.count + 1))) (refused Full t)).tables bins pulses
      go true e =
          let under = ltb-true t.count 8 e in
          fresh_at t.count (t.count + 1) (omega (arith, h.eight)) (omega arith) (λ j below apart. omega (arith, apart))
      go false e = h

  channel-sound : Sound (with_added t n o).tables bins pulses
  channel-sound = go (is_name n && finite_osc o)
    where
      go : (b : Bool) → Sound (cond b (settled t (found t n) new) (refused Malformed t)).tables bins pulses
      go true = settled-sound (found t n) refl
      go false = h

-- ---- a shape added

module _ (t : Tables) (bins : List (List Float)) (pulses : List Pulse) (h : Sound t bins pulses) (n : Name) where
  named-sound : Sound (with_shape t n) bins pulses
  named-sound =
      record {
        eight = h.eight;
        rows = h.rows;
        records = h.records;
        few = h.few;
        each = λ j below. stands_alike t (with_shape t n) pulses j refl refl (h.each j below);
        good = h.good;
      }

  -- by what is tested
  one-sound : (b : Bool) (x y : Formed) → Sound x.tabled.tables bins pulses → Sound y.tabled.tables bins pulses → Sound (cond b x y).tabled.tables bins pulses
  one-sound true x y a c = a
  one-sound false x y a c = c

  module _ (splines : List (List Float)) where
    settled-shape-sound : (row : List Float) (f : Option ℕ) → Sound (settled_shape t f n row splines).tabled.tables bins pulses
    unfolding settled_shape
    settled-shape-sound row (Some i) = h
    settled-shape-sound row None = one-sound (ltb t.named 8) (formed (done (with_shape t n)) _) (formed (refused Full t) splines) named-sound h

    shape-sound : Sound (with_added_shape t n splines).tabled.tables bins pulses
    shape-sound =
        one-sound (eqb (length splines) 8) _ (formed (refused WrongSize t) splines)
        (one-sound (is_name n) _ (formed (refused Malformed t) splines) (settled-shape-sound no_numbers (shape_found t n)) h)
        h

    spline-sound : (degree : ℕ) (controls knots : List Float) → Sound (with_added_spline t n degree controls knots splines).tabled.tables bins pulses
    spline-sound degree controls knots =
        one-sound (eqb (length splines) 8) _ (formed (refused WrongSize t) splines)
        (one-sound (is_name n && all_finite controls && all_finite knots) _ (formed (refused Malformed t) splines)
        (one-sound (is_spline degree (length controls) knots) _ (formed (refused WrongSpline t) splines) (settled-shape-sound (row_of degree controls knots) (shape_found t n)) h)
        h)
        h

-- ---- one command

-- no two channels have a place for a bin in common
elsewhere : (i j m k : ℕ) → (j ≡ i → ⊥) → m < 64 → k < 64 → 64 * j + k ≡ 64 * i + m → ⊥
elsewhere i j m k apart a b e = apart (omega arith)

not-nan : (x : Float) → finite x ≡ true → is_nan x ≡ false
unfolding is_nan
not-nan nan e = sym e
not-nan (inf s) e = refl
not-nan (fin s m k) e = refl

module _ (t : Tables) (bins : List (List Float)) (pulses : List Pulse) (h : Sound t bins pulses) where
  -- a pulse stored in channel i
  module _ (n : Name) (i place : ℕ) (new : Bool) (start : Float) (w : Weight) (row : List Float) (there : found t n ≡ Some i) (known : finite start ≡ true) (most : place ≤ (channel_at t i).bins) (old : new ≡ false → place < (channel_at t i).bins) (room : new ≡ true → (channel_at t i).bins < 64) (few : (channel_at t i).pulses < 1024) where
    abbrev c : Channel
    c = channel_at t i

    abbrev p : Pulse
    p = pulse_at place start w

    abbrev after : Tables
    after = with_channel t i (grown c new)

    abbrev records : List Pulse
    records = stored (1024 * i) c.pulses p pulses

    under : i < 8
    under = found-eight t n i h.eight there

    inside : i < length t.channels
    inside = omega (arith, under, h.eight)

    -- the channel is one of those that are there
    present : i < t.count
    present =
        let u = found-under 0 n (channels_in t) i there in
        let short = rw (length-take t.count t.channels) at u in
        omega (arith, short)

    space : 1024 * i + c.pulses < length pulses
    space = omega (arith, under, few, h.records)

    grown-bins : (b : Bool) → new ≡ b → (place < (grown c b).bins) × (c.bins ≤ (grown c b).bins) × ((grown c b).bins ≤ 64)
    grown-bins true e = let r = room e in (omega (arith, most), omega arith, omega arith)
    grown-bins false e = let q = old e in (q, omega arith, (h.each i present).most-bins)

    stands_here : Stands after records i
    stands_here =
        let is = at_place t i (grown c new) inside t.count in
        let before = h.each i present in
        let bins-are = ap (λ (x : Channel). x.bins) is in
        let pulses-are = ap (λ (x : Channel). x.pulses) is in
        let g = grown-bins new refl in
        let number = not-nan start known in
        record {
          most-bins = rw bins-are g.2;
          most-pulses = rw pulses-are (omega arith);
          in_order = rw pulses-are (stored-sorted (1024 * i) c.pulses p pulses space number before.in_order before.in_time);
          in_time = rw pulses-are (stored-timed (1024 * i) c.pulses p pulses space number before.in_time);
          in_bins =
              rw (bins-are, pulses-are, stored-list (1024 * i) c.pulses p pulses space)
              (binned-placed (grown c new).bins p (list_of t pulses i) g.0 (binned-more c.bins (grown c new).bins (list_of t pulses i) g.1 before.in_bins));
        }

    stands-there : (j : ℕ) → j < t.count → (j ≡ i → ⊥) → Stands after records j
    stands-there j below apart =
        let before = h.each j below in
        let same = zone-stays i j (channel_at t j).pulses c.pulses p pulses apart before.most-pulses few in
        let moved : Stands t records j =
        record {
          most-bins = before.most-bins;
          most-pulses = before.most-pulses;
          in_order = rw same before.in_order;
          in_time = rw same before.in_time;
          in_bins = rw same before.in_bins;
        } in
        stands-other t i (grown c new) inside t.count j records apart moved

    -- the bins, of which one may be new: the one behind those that are there
    module _ (opens : new ≡ true → GoodBin (bin_of row)) (last : new ≡ true → length (rows_of t bins i) ≤ place) where
      behind : new ≡ true → place ≡ c.bins
      behind e =
          let far = rw (length-take c.bins (take 64 (drop (64 * i) bins)), length-take 64 (drop (64 * i) bins), length-drop (64 * i) bins) at (last e) in
          let r = room e in
          omega (arith, far, most, r, under, h.rows)

      good-here : (b : Bool) → new ≡ b → (k : ℕ) → k < (grown c b).bins → GoodBin (bin_at (cond b (set bins (64 * i + place) row) bins) i k)
      good-here false e k below = h.good i k present below
      good-here true e k below =
          either (GoodBin (bin_at (set bins (64 * i + place) row) i k)) k place
          (λ same. rw (same, get_or-set_same bins (64 * i + place) row [] (let r = room e in omega (arith, most, r, under, h.rows))) (opens e))
          (λ apart. rw (get_or-set_other bins (64 * i + place) (64 * i + k) row [] (λ z. apart (omega (arith, z)))) (h.good i k present (let b = behind e in omega (arith, b, below, apart))))

      good-there : (b : Bool) → new ≡ b → (j k : ℕ) → (j ≡ i → ⊥) → j < t.count → k < (channel_at t j).bins → GoodBin (bin_at (cond b (set bins (64 * i + place) row) bins) j k)
      good-there false e j k apart present' below = h.good j k present' below
      good-there true e j k apart present' below =
          let r = room e in
          let few' = (h.each j present').most-bins in
          rw (get_or-set_other bins (64 * i + place) (64 * j + k) row [] (λ z. elsewhere i j place k apart (omega (arith, most, r)) (omega (arith, below, few')) z)) (h.good j k present' below)

      good-after : (j k : ℕ) → j < t.count → k < (channel_at after j).bins → GoodBin (bin_at (cond new (set bins (64 * i + place) row) bins) j k)
      good-after j k there' below =
          either (GoodBin (bin_at (cond new (set bins (64 * i + place) row) bins) j k)) j i
          (λ e. rw e (good-here new refl k (rw (e, ap (λ (x : Channel). x.bins) (at_place t i (grown c new) inside t.count)) at below)))
          (λ apart. good-there new refl j k apart there' (rw (ap (λ (x : Channel). x.bins) (at_other t i (grown c new) inside t.count j apart)) at below))

    stored-sound : (rows' : List (List Float)) → length rows' ≡ 512 → ((j k : ℕ) → j < t.count → k < (channel_at after j).bins → GoodBin (bin_at rows' j k)) → Sound after rows' records
    stored-sound rows' long fine =
        record {
          eight = length-set t.channels i (grown c new) ∙ h.eight;
          rows = long;
          records = stored-length (1024 * i) c.pulses p pulses ∙ h.records;
          few = h.few;
          each = λ j below. either (Stands after records j) j i (λ e. rw e stands_here) (λ apart. stands-there j below apart);
          good = fine;
        }

  module _ (splines : List (List Float)) where
    kind-sound : (c : Command) (s : Step) → Kind t bins c s → Opens s → Sound s.tables (bins_after s splines bins) (pulses_after s pulses)
    kind-sound c _ (refuses r) opens = h
    kind-sound c _ goes opens = h
    kind-sound c _ (turns i o there) opens = osc-sound t bins pulses h i o
    kind-sound c _ (swaps i j o q swap) opens = osc-sound (with_osc t i o) bins pulses (osc-sound t bins pulses h i o) j q
    kind-sound c _ (puts i place new time w head its there known most old room last few) opens =
        let s = stores t i place new time w head its in
        let numbers = numbers_at splines its in
        stored-sound (named c) i place new time w (head ++ numbers) there known most old room few (bins_after s splines bins) (bins-size s splines bins ∙ h.rows)
        (good-after (named c) i place new time w (head ++ numbers) there known most old room few (λ e. opens e numbers) last)

    pub step-sound : (a : Arranged) → let s = step_of t splines bins a in Sound s.tables (bins_after s splines bins) (pulses_after s pulses)
    step-sound a = kind-sound a.command (step_of t splines bins a) (step-kind t splines bins a) (step-opens t splines bins a)

-- ---- a call

ran-sound : (k : ℕ) (t : Tables) (splines : List (List Float)) (commands : List Arranged) (bins : List (List Float)) (pulses : List Pulse) → Sound t bins pulses
    → let r = ran k t splines commands bins pulses in Sound r.result.tables r.bins r.pulses
unfolding ran
ran-sound k t splines [] bins pulses h = h
ran-sound k t splines (a ∷ more) bins pulses h =
    go s.stop (ran-sound (suc k) s.tables splines more (bins_after s splines bins) (pulses_after s pulses) (step-sound t bins pulses h splines a))
  where
    s : Step
    s = step_of t splines bins a

    later : Ran
    later = ran (suc k) s.tables splines more (bins_after s splines bins) (pulses_after s pulses)

    go : (b : Bool) → Sound later.result.tables later.bins later.pulses
        → let r = cond b (ran_to (refused_at t s.why k) bins pulses) later in Sound r.result.tables r.bins r.pulses
    go true k' = h
    go false k' = k'

call-sound : (t : Tables) (splines : List (List Float)) (commands : List Arranged) (bins : List (List Float)) (pulses : List Pulse) → Sound t bins pulses
    → let r = executed t splines commands bins pulses in Sound r.result.tables r.bins r.pulses
call-sound t splines commands bins pulses h = go (sizes_fit (length commands) (length splines) (length bins) (length pulses))
  where
    go : (b : Bool) → let r = cond b (ran 0 t splines commands bins pulses) (ran_to (refused_at t WrongSize 0) bins pulses) in Sound r.result.tables r.bins r.pulses
    go true = ran-sound 0 t splines commands bins pulses h
    go false = h

-- ---- any run of calls

start-sound : (a time : Float) (oversize : Bool) (bins : List (List Float)) (pulses : List Pulse) → length bins ≡ 512 → length pulses ≡ 8192
    → Sound (made a time oversize).tables bins pulses
start-sound a time oversize bins pulses rows records = go (is_tolerance a && is_tolerance time)
  where
    none : (x y : Float) (o : Bool) → Sound (empty x y o) bins pulses
    none x y o = record { eight = refl; rows = rows; records = records; few = omega arith; each = λ j below. absurd (omega arith); good = λ j k below under. absurd (omega arith) }

    go : (b : Bool) → Sound (cond b (done (empty a time oversize)) (refused Unfit (empty nought nought false))).tables bins pulses
    go true = none a time oversize
    go false = none nought nought false

pub sound : (t : Tables) (splines bins : List (List Float)) (pulses : List Pulse) → Reached t splines bins pulses → Sound t bins pulses
sound _ _ _ _ (start a time oversize splines bins pulses rows records) = start-sound a time oversize bins pulses rows records
sound _ _ _ _ (channel t splines bins pulses n o r) = channel-sound t bins pulses (sound t splines bins pulses r) n o
sound _ _ _ _ (shape t splines bins pulses n r) = shape-sound t bins pulses (sound t splines bins pulses r) n splines
sound _ _ _ _ (spline t splines bins pulses n degree controls knots r) = spline-sound t bins pulses (sound t splines bins pulses r) n splines degree controls knots
sound _ _ _ _ (call t splines bins pulses commands r) = call-sound t splines commands bins pulses (sound t splines bins pulses r)
