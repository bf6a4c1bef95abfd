-- A call that meets every premise of `plateau-near`, by computation, and so has its pulse near the exact product. Assumes nothing.
use Rattle.quant.specs.Aligned.{starts_at}
use Rattle.std.specs.Prelude.{Some, Ok}
use Prim.Native.Nat.{ℕ, zero, suc, ◌<◌}
use native.Mathlib.Nat.{le_of_suc-le-suc, not-suc-le-zero, not-le_of_lt}
use native.Mathlib.Omega.{arith}
use mathlib.Core.Path.{◌≡◌, refl, sym, ap, subst, ◌∙◌}
use mathlib.Core.Bool.{true}
use mathlib.Core.List.{List, [], ◌∷◌}
use lib.Dec.{lit≤, lit<}
use lib.Ieee.{Float, nan, add, sub, mul, div, rem, lt, eq, round, of_bits, of_int}
use lib.ListN.{length, get_or}
use Rattle.exact.specs.Doubles.{nought}
use Rattle.ieee.specs.Ceiling.{ceiling}
use Rattle.ieee.specs.Cut.{cut_of}
use Rattle.ieee.specs.Exp2.{exp2_of}
use Rattle.trig.specs.Reduce.{wrapped, reduced}
use Rattle.trig.specs.Trig.{horner, cosine_at, sine_at, cosine_of, sine_of}
use Rattle.rows.specs.Rows.{all_finite}
use Rattle.naming.specs.Name.{name_byte, every, low_bytes, bytes_of_word, sixteen, bytes_of, past_end, is_name, same_name}
use Rattle.quant.specs.Settings.{fitting_of}
use Rattle.shape.specs.Parts.{index_at}
use Rattle.spline.specs.Same.{same_numbers}
use Rattle.pulse.specs.declared.envelope.Shape.TheVariants.{Plain}
use Rattle.pulse.specs.Bin.{same_row, place_of}
use Rattle.tables.specs.Tables.{found_from}
use Rattle.merge.specs.Sum.{kept_from, summed_by}
use Rattle.merge.specs.Join.{joined, joined_two}
use Rattle.merge.specs.Taking.{parts_in, packed, zipped}
use Rattle.crosstalk.specs.Crosstalk.{all_names, names_judged, row_from, part_of, parts_at, planned, taking_of}
use Rattle.mix.specs.Part.{on_part}
use Rattle.mix.specs.Plateau.{carried}
use Rattle.placing.specs.Phases.{phase0, dphase, start_pair, rotation_pair, phase_numbers}
use Rattle.placing.specs.Judged.{placed_at, judged}
use Rattle.mixdown.specs.Runs.{of_mark}
use Rattle.mixdown.specs.Bins.{all_rows, firsts_after, bins_by, merged_of}
use Rattle.mixdown.specs.Sampled.{ran_pulses, ran_bins}
use Rattle.sampler.specs.Sampler.{sampled}
use Rattle.accuracy.specs.Exact.{power_g}
use Rattle.accuracy.specs.Call.{Bounded, ZeroRow, Zeros, AsSampled, amp_of, start_of, rotation_of, length_of, Only, PlateauNear}
use Rattle.accuracy.specs.Example.{minus-nought, tables, request, cross, row, pulse, bins, pulses, rows, left, the_one, Closer, Shown}
use Rattle.accuracy.proofs.Call.{plateau-near}

-- ---- by computation
record Computed : Type 0 where
  done : left.answer ≡ Ok 1
  fit : fitting_of request.rate request.delay request.level ≡ Some the_one.settings
  bin : bins_by tables bins (parts_in (taking_of (planned tables request.channel cross []))) ≡ row ∷ []
  merged : merged_of tables bins pulses (parts_in (taking_of (planned tables request.channel cross []))) row ≡ pulse ∷ []
  placed : placed_at the_one.settings pulse ≡ starts_at 1 nought
  plain : the_one.bin.envelope.shape ≡ Plain
  bounded : Bounded (amp_of the_one) (start_of the_one) (rotation_of the_one)
  long : length_of the_one ≡ 3
  not-closer : Closer → ⊥

computed : Computed
unfolding add sub mul div rem lt eq round of_bits of_int ceiling cut_of exp2_of wrapped reduced horner cosine_at sine_at cosine_of sine_of all_finite name_byte every low_bytes bytes_of_word sixteen bytes_of past_end is_name same_name index_at same_numbers same_row place_of phase0 dphase start_pair rotation_pair phase_numbers judged found_from kept_from summed_by joined joined_two packed zipped all_names names_judged row_from part_of parts_at planned on_part carried of_mark all_rows firsts_after ran_pulses ran_bins sampled power_g
computed =
    record {
      done = refl;
      fit = refl;
      bin = refl;
      merged = refl;
      placed = refl;
      plain = refl;
      bounded = record { lowest = lit≤ tt; highest = lit≤ tt; start-turns = lit≤ tt; rotation-turns = lit≤ tt };
      long = refl;
      not-closer = λ h. not-le_of_lt (lit< tt) h.over;
    }

-- ---- rows of zeros, sample by sample
no-sample : ZeroRow 0 []
no-sample = record { long = refl; each = λ k h. absurd (not-suc-le-zero h) }

zero_more : {n : ℕ} {xs : List Float} (x : Float) → eq x nought ≡ true → ZeroRow n xs → ZeroRow (suc n) (x ∷ xs)
zero_more {n} {xs} x e z = record { long = ap suc z.long; each = at }
  where
    at : (k : ℕ) → k < suc n → eq (get_or (x ∷ xs) k nan) nought ≡ true
    at zero h = e
    at (suc k) h = z.each k (le_of_suc-le-suc h)

plus : {n : ℕ} {xs : List Float} → ZeroRow n xs → ZeroRow (suc n) (nought ∷ xs)
plus z = zero_more nought (unfold eq of_bits in refl) z

minus : {n : ℕ} {xs : List Float} → ZeroRow n xs → ZeroRow (suc n) (minus-nought ∷ xs)
minus z = zero_more minus-nought (unfold eq of_bits in refl) z

zeros : Zeros 2 5 rows
zeros = record { i = plus (minus (plus (minus (minus no-sample)))); q = λ e. minus (plus (minus (plus (plus no-sample)))) }

-- ---- the pulse that the call added
only : Only tables request cross [] bins pulses the_one
only =
    record {
      fit = computed.fit;
      row = row;
      place = 0;
      within = omega (arith, ap length computed.bin);
      there = ap (λ (l : List (List Float)). get_or l 0 []) computed.bin;
      its-bin = refl;
      only = computed.merged;
      placed = computed.placed;
    }

near : PlateauNear the_one 2 5 rows left.rows
near =
    let found = plateau-near tables request cross [] bins pulses rows _ _ 5 zeros computed.done in
    let is = found.alone the_one only in
    let plain = ap (λ (x : AsSampled). x.bin.envelope.shape) (sym is) ∙ computed.plain in
    let bounded = subst (λ (x : AsSampled). Bounded (amp_of x) (start_of x) (rotation_of x)) is computed.bounded in
    subst (λ (x : AsSampled). PlateauNear x 2 5 rows left.rows) (sym is) (found.near plain bounded)

pub example-near : Shown
example-near = record { zeros = zeros; done = computed.done; only = only; plain = computed.plain; bounded = computed.bounded; long = computed.long; near = near; not-closer = computed.not-closer }
