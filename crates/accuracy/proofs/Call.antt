-- DEMAND 3. A sampling call that added exactly one pulse, of no shape, onto rows of zeros of either sign: sample k of the pulse lies within
-- (k + 1) 2 ^ -49 m of the exact product, in I and, with two rows, in Q, and all other samples stay what they were. Nothing is assumed but the
-- mission's bounds: that the numbers are doubles and finite follows from the call. Assumes nothing.
use Rattle.quant.specs.Aligned.{starts_at}
use Rattle.quant.specs.declared.refusal.Refusal.{Refusal}
use Rattle.std.specs.Prelude.{Some, Result, Ok, Err}
use Prim.Native.Nat.{ℕ, ◌+◌, ◌≤◌, ◌<◌}
use native.Mathlib.Omega.{arith}
use mathlib.Core.Path.{◌≡◌, refl, sym, ap, subst, ◌∙◌}
use mathlib.Core.Bool.{Bool, true, false, ◌&&◌, cond, true≢false}
use mathlib.Core.List.{List, [], ◌∷◌}
use lib.Dec.{T, leb, eqb}
use borrow.Author.Tests.{leb-true, eqb-true}
use lib.Ieee.{Float, nan, binary64}
use lib.Ieee.Fits.{mul-fits}
use lib.Ieee.Scale.{finite}
use lib.ListN.{length, get_or}
use Rattle.exact.proofs.Truth.{both}
use Rattle.quant.specs.declared.complex.Complex.{Complex}
use Rattle.quant.specs.declared.settings.Settings.{Settings}
use Rattle.quant.specs.Complex.{times_c}
use Rattle.quant.specs.Phaser.{radians_of, pair_at, phased, phased_of}
use Rattle.trig.specs.Reduce.{TAU}
use Rattle.trig.proofs.Special.{cosine-fits, sine-fits, cosine-finite, sine-finite}
use Rattle.rows.specs.Rows.{rows_fit, all_finite}
use Rattle.pulse.specs.declared.bin.Bin.{Bin}
use Rattle.pulse.specs.declared.list.Pulse.{Pulse}
use Rattle.pulse.specs.Envelope.{is_shaped}
use Rattle.pulse.specs.Bin.{bin_of, numbers_of}
use Rattle.tables.specs.declared.Tables.{Tables}
use Rattle.merge.specs.Taking.{Part, parts_in}
use Rattle.merge.proofs.Scaled.{Fitting, AllFitting}
use Rattle.crosstalk.specs.declared.names.Crosstalk.{Crosstalk}
use Rattle.crosstalk.specs.Crosstalk.{planned, taking_of}
use Rattle.mix.specs.Part.{part_fits, on_part}
use Rattle.mix.specs.Plateau.{carried, real, imaginary}
use Rattle.mix.proofs.Parts.{fits_one, fits-two}
use Rattle.mix.proofs.Samples.{plateau-before, plateau-behind}
use Rattle.placing.specs.declared.Flat.{Flat}
use Rattle.placing.specs.declared.Judged.{Judged}
use Rattle.placing.specs.declared.Judged.TheVariants.{Plateau, Shaped}
use Rattle.placing.specs.Phases.{phase0, dphase, start_pair, rotation_pair}
use Rattle.placing.specs.Judged.{placed_at, judged, count_of, weight_numbers}
use Rattle.placing.proofs.Accepted.{HeldFlat, flat-held, curved-held}
use Rattle.mixdown.specs.Bins.{bins_by, merged_of}
use Rattle.mixdown.specs.Sampled.{Rowed, ran_bins, added_to}
use Rattle.mixdown.specs.Holding.{accepted}
use Rattle.sampler.specs.declared.Request.{Request}
use Rattle.sampler.specs.Sampler.{Left, sampled}
use Rattle.sampler.proofs.Order.{fitting-sizes}
use Rattle.sampler.proofs.Done.{Accepted, call-done}
use Rattle.accuracy.specs.Exact.{Held, Tame, Near, absolute}
use Rattle.accuracy.specs.Call.{Bounded, Zeros, AsSampled, exact_of, Only, PlateauNear, OneNear}
use Rattle.accuracy.proofs.One.{One, one-added}
use Rattle.accuracy.proofs.Alone.{only_one}
use Rattle.accuracy.proofs.Merged.{all-merged}
use Rattle.accuracy.proofs.Samples.{real-near, imaginary-near}

-- ---- finite doubles

pub true_is : (b : Bool) → b ≡ true → T b
true_is b e = subst T (sym e) tt

finite-pair : (p : Float) (z : Complex) → phased_of p ≡ Some z → finite (radians_of p) ≡ true
finite-pair p z e = go (finite (radians_of p)) e
  where
    go : (b : Bool) → phased b (radians_of p) ≡ Some z → b ≡ true
    go true f = refl
    go false f = let w : ◌≡◌ {A = ℕ} 0 1 = cc in absurd (omega arith)

pair_held : (p : Float) (z : Complex) → phased_of p ≡ Some z → Held (pair_at (radians_of p))
pair_held p z e =
    let x = radians_of p in
    let there = mul-fits binary64 p TAU in
    let ok = true_is (finite x) (finite-pair p z e) in
    record { re-fits = cosine-fits x; im-fits = sine-fits x; re-finite = cosine-finite x there ok; im-finite = sine-finite x there ok }

start-held : (s : Settings) (b : Bin) (start : ℕ) (offset : Float) (z : Complex) → phased_of (phase0 s b start offset) ≡ Some z → Held (start_pair s b start offset)
unfolding start_pair
start-held s b start offset z e = pair_held (phase0 s b start offset) z e

rotation-held : (s : Settings) (b : Bin) (z : Complex) → phased_of (dphase s b) ≡ Some z → Held (rotation_pair s b)
unfolding rotation_pair
rotation-held s b z e = pair_held (dphase s b) z e

amp-held : (p : Pulse) → all_finite (weight_numbers p) ≡ true → Fitting p → Held p.amp
unfolding all_finite
amp-held p e f =
    let a = both (finite p.amp.re) (finite p.amp.im && all_finite (p.drag.re ∷ p.drag.im ∷ [])) e in
    let b = both (finite p.amp.im) (all_finite (p.drag.re ∷ p.drag.im ∷ [])) a.1 in
    record { re-fits = f.amp-re; im-fits = f.amp-im; re-finite = true_is (finite p.amp.re) a.0; im-finite = true_is (finite p.amp.im) b.0 }

-- one row or two, of at most 65,536 samples
pub data Kind (rows i : ℕ) : Type 0 where
  one : rows ≡ 1 → i ≤ 65536 → Kind rows i
  two : rows ≡ 2 → i ≤ 65536 → Kind rows i

kind : (rows i q : ℕ) → rows_fit rows i q ≡ true → Kind rows i
kind rows i q e =
    let a = both (leb i 65536) (cond (eqb rows 1) (eqb q 0) (cond (eqb rows 2) (eqb i q) false)) e in
    go (eqb rows 1) refl (eqb rows 2) refl (leb-true i 65536 a.0) a.1
  where
    go : (x : Bool) → eqb rows 1 ≡ x → (y : Bool) → eqb rows 2 ≡ y → i ≤ 65536 → cond x (eqb q 0) (cond y (eqb i q) false) ≡ true → Kind rows i
    go true f y g h k = one (eqb-true rows 1 f) h
    go false f true g h k = two (eqb-true rows 2 g) h
    go false f false g h k = absurd (true≢false (sym k))

-- ---- a pulse without a shape, alone on rows of zeros
module _ (s : Settings) (b : Bin) (numbers : List Float) (p : Pulse) (rows len : ℕ) (st after : Rowed) (f : Flat) (held : HeldFlat s b p (length st.i) f) (z : Zeros rows len st) (sized : rows_fit rows (length st.i) (length st.q) ≡ true) (is : after ≡ added_to s b numbers rows (Ok (Plateau f)) st) (fitting : Fitting p) where
  abbrev it : AsSampled
  it = record { settings = s; bin = b; pulse = p; start = f.start; offset = held.offset }

  abbrev start : ℕ
  start = f.start

  abbrev n : ℕ
  n = count_of s b

  abbrev first : Complex
  first = start_pair s b f.start held.offset

  abbrev turn : Complex
  turn = rotation_pair s b

  abbrev rows-kind : Kind rows (length st.i)
  rows-kind = kind rows (length st.i) (length st.q) sized

  room-i : start + n ≤ length st.i
  room-i = let h = held.fits in let k = held.count in omega (arith, h, k)

  flat-inside : start + n ≤ len
  flat-inside = let h = room-i in let k = z.i.long in omega (arith, h, k)

  room-q : rows ≡ 2 → start + n ≤ length st.q
  room-q e = let h = flat-inside in let k = (z.q e).long in omega (arith, h, k)

  few : len ≤ 65536
  few = let k = z.i.long in go k rows-kind
    where
      go : length st.i ≡ len → Kind rows (length st.i) → len ≤ 65536
      go k (one f h) = omega (arith, h, k)
      go k (two f h) = omega (arith, h, k)

  -- the pulse lies within the rows
  within : part_fits rows (length st.i) (length st.q) start n ≡ true
  within = go rows-kind
    where
      go : Kind rows (length st.i) → part_fits rows (length st.i) (length st.q) start n ≡ true
      go (one e h) = rw e (fits_one (length st.i) (length st.q) start n room-i)
      go (two e h) = rw (e, z.i.long, (z.q e).long) (fits-two len start n flat-inside)

  abbrev flat : (Complex → Float) → List Float → List Float
  flat part = carried part (times_c first p.amp) turn

  i-is : after.i ≡ on_part start n (flat real) st.i
  i-is = ap (λ (o : Rowed). o.i) is ∙ rw (held.count, held.carrier, held.rotation, within) refl

  q-is : rows ≡ 2 → after.q ≡ on_part start n (flat imaginary) st.q
  q-is e = ap (λ (o : Rowed). o.q) is ∙ rw (held.count, held.carrier, held.rotation, within, e) refl

  flat_near : Bounded p.amp first turn → PlateauNear it rows len st after
  flat_near bounded =
      record {
        inside = flat-inside;
        in_i = λ k h. subst (λ (x : List Float). Near (get_or x (start + k) nan) (exact_of it k).re k (absolute p.amp)) (sym i-is) (real-near p.amp first turn tame len start n k flat-inside h (most k h) st.i z.i);
        in_q = λ e k h. subst (λ (x : List Float). Near (get_or x (start + k) nan) (exact_of it k).im k (absolute p.amp)) (sym (q-is e)) (imaginary-near p.amp first turn tame len start n k flat-inside h (most k h) st.q (z.q e));
        before-i = λ k h. ap (λ (x : List Float). get_or x k nan) i-is ∙ plateau-before real (times_c first p.amp) turn start n st.i room-i k h;
        behind-i = λ k h. ap (λ (x : List Float). get_or x k nan) i-is ∙ plateau-behind real (times_c first p.amp) turn start n st.i room-i k h;
        before-q = λ e k h. ap (λ (x : List Float). get_or x k nan) (q-is e) ∙ plateau-before imaginary (times_c first p.amp) turn start n st.q (room-q e) k h;
        behind-q = λ e k h. ap (λ (x : List Float). get_or x k nan) (q-is e) ∙ plateau-behind imaginary (times_c first p.amp) turn start n st.q (room-q e) k h;
      }
    where
      most : (k : ℕ) → k < n → k ≤ 65535
      most k h = let l = few in let g = flat-inside in omega (arith, l, g)

      tame : Tame p.amp first turn
      tame =
          record {
            amp-held = amp-held p held.weight fitting;
            start-held = start-held s b f.start held.offset first held.first;
            rotation-held = rotation-held s b turn held.turn;
            lowest = bounded.lowest;
            highest = bounded.highest;
            start-turns = bounded.start-turns;
            rotation-turns = bounded.rotation-turns;
          }

-- ---- the call
module _ (t : Tables) (r : Request) (c : Crosstalk) (factors : List Float) (bins : List (List Float)) (pulses : List Pulse) (st : Rowed) (work : List (List Float)) (marks : List ℕ) (len : ℕ) where
  abbrev result : Left
  result = sampled t r c factors bins pulses st work marks

  abbrev parts : List Part
  parts = parts_in (taking_of (planned t r.channel c factors))

  module _ (z : Zeros r.rows len st) (a : Accepted t r c factors bins pulses st work marks) (told : (ran_bins a.settings r.rows (merged_of t bins pulses parts) (bins_by t bins parts) 0 st).answer ≡ Ok 1) (x : One a.settings r.rows (merged_of t bins pulses parts) (bins_by t bins parts) st result.rows) where
    abbrev its-bin : Bin
    its-bin = bin_of x.row

    abbrev its-numbers : List Float
    its-numbers = numbers_of x.row

    abbrev verdict : Result Judged Refusal
    verdict = judged a.settings its-bin its-numbers x.pulse (length st.i)

    fitting : Fitting x.pulse
    fitting = (subst AllFitting x.only (all-merged t bins pulses parts x.row)).0

    left_is : (d : Result Judged Refusal) → verdict ≡ d → result.rows ≡ added_to a.settings its-bin its-numbers r.rows d st
    left_is d e = x.alone.left ∙ ap (λ (j : Result Judged Refusal). added_to a.settings its-bin its-numbers r.rows j st) e

    -- the pulse that was added, by its start and its offset
    abbrev as_it : ℕ → Float → AsSampled
    as_it start offset = record { settings = a.settings; bin = its-bin; pulse = x.pulse; start = start; offset = offset }

    only-it : (at : ℕ) (offset : Float) → placed_at a.settings x.pulse ≡ starts_at at offset → Only t r c factors bins pulses (as_it at offset)
    only-it at offset e = record { fit = a.fit; row = x.row; place = x.place; within = x.within; there = x.there; its-bin = refl; only = x.only; placed = e }

    alone : (y : AsSampled) → Only t r c factors bins pulses y → (x : AsSampled) → Only t r c factors bins pulses x → x ≡ y
    alone y u x o = only_one t r c factors bins pulses a.settings st told x y o u

    by-verdict : (d : Result Judged Refusal) → verdict ≡ d → OneNear t r c factors bins pulses len st result.rows
    by-verdict (Ok (Plateau f)) e =
        let h = flat-held a.settings its-bin its-numbers x.pulse (length st.i) f e in
        let sized = (fitting-sizes r.rows (length st.i) (length st.q) (length st.scratch) (length bins) (length pulses) (length work) (length marks) a.sizes).its-rows in
        record {
          one = as_it f.start h.offset;
          only = only-it f.start h.offset h.placed;
          alone = alone (as_it f.start h.offset) (only-it f.start h.offset h.placed);
          near = λ plain bounded. flat_near a.settings its-bin its-numbers x.pulse r.rows len st result.rows f h z sized (left_is (Ok (Plateau f)) e) fitting bounded;
        }
    by-verdict (Ok (Shaped k)) e =
        let h = curved-held a.settings its-bin its-numbers x.pulse (length st.i) k e in
        record {
          one = as_it k.start k.offset;
          only = only-it k.start k.offset h.placed;
          alone = alone (as_it k.start k.offset) (only-it k.start k.offset h.placed);
          near = λ plain bounded. absurd (true≢false (sym h.shape ∙ ap is_shaped plain));
        }
    by-verdict (Err why) e = absurd (true≢false (sym x.alone.taken ∙ ap accepted e))

  pub plateau-near : Zeros r.rows len st → (sampled t r c factors bins pulses st work marks).answer ≡ Ok 1 → OneNear t r c factors bins pulses len st (sampled t r c factors bins pulses st work marks).rows
  plateau-near z done =
      let a = call-done t r c factors bins pulses st work marks 1 done in
      let merged = merged_of t bins pulses parts in
      let rs = bins_by t bins parts in
      let o = ran_bins a.settings r.rows merged rs 0 st in
      let told : o.answer ≡ Ok 1 = sym (ap (λ (l : Left). l.answer) a.is) ∙ done in
      let rows_are : o.left ≡ result.rows = sym (ap (λ (l : Left). l.rows) a.is) in
      let x = subst (λ (y : Rowed). One a.settings r.rows merged rs st y) rows_are (one-added a.settings r.rows merged rs 0 st told) in
      by-verdict z a told x (verdict z a told x) refl
