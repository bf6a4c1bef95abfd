-- Refusal 12, "end index > row length", is given exactly then: of a pulse that starts within the row and, with a shape, has a t1 that is not below 0.
-- That it is given there holds of any doubles. That it is given nowhere else holds of what a sampling call judges: a bin as plays leave it, settings that
-- fit and a row of at most 65,536 samples; for then the parts of a shape are in order, which takes a finite offset in time: the offset lies below one
-- sample, and dt is finite. Assumes nothing.
use Rattle.std.specs.Prelude.{Some, Err}
use Rattle.std.proofs.Common.{◌≡◌, ℕ, ◌+◌, ◌-◌, ◌*◌, ◌^◌, ◌<◌, ◌≤◌, Bool, true, false, ◌&&◌, T, List, pos, negsuc, ◌≤ℤ◌, sym, refl, ap, ◌∙◌, subst, true≢false, le_of_lt, mul-le-mul_right, mul_assoc, mul_comm, mul-pos, arith, pow_pos, lt-ltb, le-leb}
use lib.Signed.{le_z, le_z_yes}
use lib.Ieee.{Float, binary64, unlike, round, add, mul, div, lt, fits}
use lib.Ieee.Exact.{HasValue}
use lib.Ieee.Fits.{div-fits}
use lib.Ieee.Scale.{finite, round_same}
use Rattle.exact.specs.Doubles.{nought, one}
use Rattle.exact.specs.Value.{sign_of, units_of}
use Rattle.exact.proofs.Few.{few-of, few-value, units-below, value-finite}
use Rattle.exact.proofs.Finite.{smaller-finite}
use Rattle.exact.proofs.Operation.{mul-rounds}
use Rattle.exact.proofs.Truth.{both}
use Rattle.exact.proofs.Value.{own}
use Rattle.quant.specs.declared.refusal.Refusal.TheVariants.{EndPastRow}
use Rattle.quant.specs.declared.settings.Settings.{Settings}
use Rattle.quant.specs.Settings.{is_rate, is_level, fitting, fitting_of}
use Rattle.quant.proofs.Offset.{place-exact}
use Rattle.shape.specs.Parts.{index_at, t1, t3}
use Rattle.shape.specs.Envelope.{enveloped_of, least}
use Rattle.shape.proofs.Filling.{least-left, least-right}
use Rattle.shape.proofs.Laying.{past_row}
use Rattle.shape.proofs.Twelve.{Measurable, twelve}
use Rattle.pulse.specs.declared.bin.Bin.{Bin}
use Rattle.pulse.specs.declared.list.Pulse.{Pulse}
use Rattle.pulse.specs.Bin.{GoodBin}
use Rattle.pulse.specs.Envelope.{is_shaped}
use Rattle.placing.specs.Judged.{count_of, measured_at, judged}
use Rattle.placing.proofs.Ways.{Inside, Way, no_index, before, beyond, past, unshaped, over, plain-rest, curved-rest, flat, curved, plain-only, way, way-given}

-- ---- the end index

-- how many samples a pulse has: ceil(plateau*rate) without a shape; with one its envelope's, ceil(t3*rate)
abbrev pub samples_of : Settings → Bin → Float → Bool → ℕ
samples_of s b offset false = count_of s b
samples_of s b offset true = index_at (t3 b.envelope.width.0 b.envelope.plateau.0 offset s.rate.0 s.dt.0) s.rate.0

-- it starts within the row, meets no 11, and its end index is over the row length
pub record Over (s : Settings) (b : Bin) (p : Pulse) (len : ℕ) : Type 0 where
  pub at : Inside s b p len
  pub reaches : is_shaped b.envelope.shape ≡ true → lt (t1 b.envelope.width.0 b.envelope.plateau.0 at.offset s.rate.0 s.dt.0) nought ≡ false
  pub over : len < at.start + samples_of s b at.offset (is_shaped b.envelope.shape)

-- ---- it is given there
pub twelve_given : (s : Settings) (b : Bin) (numbers : List Float) (p : Pulse) (len : ℕ) → Over s b p len → judged s b numbers p len ≡ Err EndPastRow
twelve_given s b numbers p len h = by (is_shaped b.envelope.shape) refl h.over
  where
    k : Inside s b p len
    k = h.at

    room : ℕ
    room = least (len - k.start) 65536

    by : (z : Bool) → is_shaped b.envelope.shape ≡ z → len < k.start + samples_of s b k.offset z → judged s b numbers p len ≡ Err EndPastRow
    by false z o = way-given s b numbers p len (Err EndPastRow) (over k (plain-only b.envelope.shape z) o refl)
    by true z o =
        let n = samples_of s b k.offset true in
        let less = least-left (len - k.start) 65536 in
        let parted = past_row b.envelope.width.0 b.envelope.plateau.0 k.offset s.rate.0 s.dt.0 room (h.reaches z) n refl (lt-ltb room n (omega (arith, less, o, k.inside))) in
        way-given s b numbers p len (Err EndPastRow) (unshaped k EndPastRow z (sym (ap (enveloped_of b.envelope.shape numbers) parted)) refl)

-- ---- an offset in time is finite

regrouped : (a n q : ℕ) → a * n * q ≡ n * (a * q)
regrouped a n q = ap (λ (x : ℕ). x * q) (mul_comm a n) ∙ mul_assoc n a q

-- d steps of 1/a, fewer than a of them, times a finite double
part-finite : (o x : Float) (d a : ℕ) → 0 < a → d < a → HasValue o false d a → T (fits binary64 x) → T (finite x) → T (finite (mul binary64 o x))
part-finite o x d a h less v f t =
    let n = units_of x in
    let s = sign_of x in
    let q = 2 ^ 1074 in
    let whole : T (finite (round binary64 s n q)) = value-finite (round binary64 s n q) s n (few-value s n (few-of x f t) (units-below x f t)) in
    let more : round binary64 s (a * n) (a * q) ≡ round binary64 s n q = round_same binary64 s (a * n) (a * q) n q (mul-pos h (pow_pos 1074)) (pow_pos 1074) (regrouped a n q) in
    let is = mul-rounds binary64 o x false s d a n q h (pow_pos 1074) v (own x f t) in
    subst (λ (y : Float). T (finite y)) (sym is)
    (smaller-finite (unlike false s) s (d * n) (a * n) (a * q) (mul-pos h (pow_pos 1074)) (mul-le-mul_right n (le_of_lt less)) (subst (λ (y : Float). T (finite y)) (sym more) whole))

-- ---- settings that fit

record Clock (s : Settings) : Type 0 where
  rate-finite : finite s.rate.0 ≡ true
  rate-above : lt nought s.rate.0 ≡ true
  dt-is : s.dt.0 ≡ div binary64 one s.rate.0
  dt-finite : finite (div binary64 one s.rate.0) ≡ true
  low : negsuc 19 ≤ℤ s.level
  high : s.level ≤ℤ pos 20

holds : {b : Bool} → b ≡ true → T b
holds e = subst T (sym e) tt

clock : (s : Settings) → fitting_of s.rate s.delay s.level ≡ Some s → Clock s
clock s e = by (is_rate s.rate.0 && finite (div binary64 one s.rate.0) && finite s.delay.0 && is_level s.level) refl e
  where
    by : (b : Bool) → (is_rate s.rate.0 && finite (div binary64 one s.rate.0) && finite s.delay.0 && is_level s.level) ≡ b → fitting b s.rate s.delay s.level ≡ Some s → Clock s
    by false f e = let z : ◌≡◌ {A = ℕ} 0 1 = cc in absurd (omega arith)
    by true f e =
        let g = both (is_rate s.rate.0 && finite (div binary64 one s.rate.0) && finite s.delay.0) (is_level s.level) f in
        let h = both (is_rate s.rate.0 && finite (div binary64 one s.rate.0)) (finite s.delay.0) g.0 in
        let i = both (is_rate s.rate.0) (finite (div binary64 one s.rate.0)) h.0 in
        let r = both (finite s.rate.0) (lt nought s.rate.0) i.0 in
        let l = both (le_z (negsuc 19) s.level) (le_z s.level (pos 20)) g.1 in
        let is : record { rate = s.rate; dt = record { 0 = div binary64 one s.rate.0 }; delay = s.delay; level = s.level } ≡ s = cc in
        record {
          rate-finite = r.0;
          rate-above = r.1;
          dt-is = sym (ap (λ (x : Settings). x.dt.0) is);
          dt-finite = i.1;
          low = le_z_yes (holds l.0);
          high = le_z_yes (holds l.1);
        }

-- ---- what a sampling call judges

-- a bin as plays leave it, of doubles, as every f64 of the code is
pub record Kept (b : Bin) : Type 0 where
  pub good : GoodBin b
  pub width_fits : T (fits binary64 b.envelope.width.0)
  pub plateau-fits : T (fits binary64 b.envelope.plateau.0)

-- such a bin, settings that fit and whose rate is a double, and a row of at most 65,536 samples
pub record Judgeable (s : Settings) (b : Bin) (len : ℕ) : Type 0 where
  pub bin : Kept b
  pub fit : fitting_of s.rate s.delay s.level ≡ Some s
  pub rate-fits : T (fits binary64 s.rate.0)
  pub row : len ≤ 65536

-- ---- it is given nowhere else

-- in such a row the limit of an envelope is what is left of the row
ends : (left len start n : ℕ) → len ≤ 65536 → start < len → left ≡ len - start → least left 65536 < n → len < start + n
ends left len start n few inside is more =
    let whole : least left 65536 ≡ left = rw (le-leb left 65536 (omega arith)) in
    omega (arith, whole)

module _ (s : Settings) (b : Bin) (numbers : List Float) (p : Pulse) (len : ℕ) (h : Judgeable s b len) where
  measurable : (k : Inside s b p len) → is_shaped b.envelope.shape ≡ true → Measurable b.envelope.width.0 b.envelope.plateau.0 k.offset s.rate.0 s.dt.0
  measurable k z =
      let c = clock s h.fit in
      let o = place-exact (add binary64 p.time.0 s.delay.0) s.rate.0 s.level k.start k.offset c.low c.high k.placed in
      let dt : (x : Float) → x ≡ div binary64 one s.rate.0 → T (finite (mul binary64 k.offset x)) = λ x is.
      subst (λ (y : Float). T (finite (mul binary64 k.offset y))) (sym is)
      (part-finite k.offset (div binary64 one s.rate.0) o.d (2 ^ 20) (pow_pos 20) o.less o.offset (div-fits binary64 one s.rate.0) (holds c.dt-finite)) in
      record {
        width_fits = h.bin.width_fits;
        width-finite = holds h.bin.good.finite-width;
        width_low = h.bin.good.width;
        width_some = h.bin.good.shaped z;
        plateau-fits = h.bin.plateau-fits;
        plateau-finite = holds h.bin.good.finite-plateau;
        plateau-low = h.bin.good.plateau;
        rate-fits = h.rate-fits;
        rate-finite = holds c.rate-finite;
        rate-above = c.rate-above;
        offset-finite = dt s.dt.0 c.dt-is;
      }

  -- an envelope that has no room
  past_end : (k : Inside s b p len) → is_shaped b.envelope.shape ≡ true → measured_at s b numbers k.offset (len - k.start) ≡ Err EndPastRow → Over s b p len
  past_end k z e =
      let room = least (len - k.start) 65536 in
      let few = least-right (len - k.start) 65536 in
      let r = twelve b.envelope.width.0 b.envelope.plateau.0 k.offset s.rate.0 s.dt.0 (measurable k z) b.envelope.shape numbers room (omega (arith, few)) e in
      record {
        at = k;
        reaches = λ _. r.reaches;
        over = subst (λ (x : Bool). len < k.start + samples_of s b k.offset x) (sym z) (ends (len - k.start) len k.start (samples_of s b k.offset true) h.row k.inside refl r.past);
      }

  pub only_twelve : judged s b numbers p len ≡ Err EndPastRow → Over s b p len
  only_twelve e = by (way s b numbers p len (Err EndPastRow) e)
    where
      by : Way s b numbers p len (Err EndPastRow) → Over s b p len
      by (no_index g e) = let z : ◌≡◌ {A = ℕ} 0 1 = cc in absurd (omega arith)
      by (before g e) = let z : ◌≡◌ {A = ℕ} 0 1 = cc in absurd (omega arith)
      by (beyond g e) = let z : ◌≡◌ {A = ℕ} 0 1 = cc in absurd (omega arith)
      by (past w o g h e) = let z : ◌≡◌ {A = ℕ} 0 1 = cc in absurd (omega arith)
      by (unshaped k r z m e) = let same : r ≡ EndPastRow = cc in past_end k z (m ∙ ap Err same)
      by (over k z o e) =
          record {
            at = k;
            reaches = λ y. absurd (true≢false (sym y ∙ ap is_shaped z));
            over = subst (λ (x : Bool). len < k.start + samples_of s b k.offset x) (sym (ap is_shaped z)) o;
          }
      by (plain-rest k z h m e) = let z : ◌≡◌ {A = ℕ} 0 1 = cc in absurd (omega arith)
      by (curved-rest k n z m h e) = let z : ◌≡◌ {A = ℕ} 0 1 = cc in absurd (omega arith)
      by (flat k z h m e) = let z : ◌≡◌ {A = ℕ} 0 1 = cc in absurd (omega arith)
      by (curved k n z m h e) = let z : ◌≡◌ {A = ℕ} 0 1 = cc in absurd (omega arith)
