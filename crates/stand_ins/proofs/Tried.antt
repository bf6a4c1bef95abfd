-- What each call that is tried comes to, by computation over the definitions that the calls promise. Assumes nothing.
use Rattle.std.specs.Prelude.{Ok}
use mathlib.Core.Path.{◌≡◌, refl, sym, ap, ◌∙◌}
use mathlib.Core.Bool.{true}
use mathlib.Core.List.{List, [], ◌∷◌}
use borrow.Author.Tests.{eqb-true}
use lib.Dec.{T, eqb}
use lib.ListN.{get_or}
use lib.Ieee.Bits.{of_bits-to_bits}
use lib.Ieee.{Float, nan, binary64, to_bits, fits, add, sub, mul, div, rem, neg, lt, eq, le, sum, round, of_bits, of_int}
use Rattle.ieee.specs.Ceiling.{ceiling}
use Rattle.ieee.specs.Cut.{cut_of}
use Rattle.ieee.specs.Exp2.{exp2_of}
use Rattle.fma.specs.Fused.{fma}
use Rattle.trig.specs.Reduce.{wrapped, reduced}
use Rattle.trig.specs.Trig.{horner, cosine_at, sine_at, cosine_of, sine_of}
use Rattle.rows.specs.Rows.{all_finite}
use Rattle.naming.specs.Name.{name_byte, every, low_bytes, bytes_of_word, sixteen, bytes_of, past_end, is_name, same_name}
use Rattle.mixer.specs.Mixer.{corrected_row, mixer_fits}
use Rattle.iir.specs.Section.{ran, sections_from, a0s_from}
use Rattle.iir.specs.Filter.{given, pipelined, turns}
use Rattle.ring.specs.Ring.{tap_at, sum_to, filtered_from}
use Rattle.shape.specs.Hann.{hann_of}
use Rattle.points.specs.Points.{points}
use Rattle.spline.specs.Spline.{not_falling, is_spline, in_domain, span_to, blend_of, fine_step, d_at, fine_at}
use Rattle.spline.specs.Row as spline-row
use Rattle.spline.specs.Value.{whole_of, spline_at, spline_fine, value_in, fine_in}
use Rattle.spline.specs.Same.{same_numbers}
use Rattle.shape.specs.Segment.{envelope_at, point_fine, values, all_fine}
use Rattle.shape.specs.Parts.{index_at, parted_of}
use Rattle.shape.specs.Envelope.{shape_of, finite_points, fine_points}
use Rattle.pulse.specs.Bin.{same_row, place_of}
use Rattle.pulse.specs.Envelope.{envelope_of}
use Rattle.placing.specs.Phases.{phase0, dphase, start_pair, rotation_pair, phase_numbers}
use Rattle.placing.specs.Judged.{judged}
use Rattle.tables.specs.Tables.{found_from, shape_from, settled, settled_shape}
use Rattle.merge.specs.Sum.{kept_from, summed_by}
use Rattle.merge.specs.Join.{joined, joined_two}
use Rattle.merge.specs.Taking.{packed, zipped}
use Rattle.crosstalk.specs.Crosstalk.{all_names, names_judged, row_from, part_of, parts_at, planned}
use Rattle.mix.specs.Part.{on_part}
use Rattle.mix.specs.Plateau.{carried}
use Rattle.mix.specs.Envelope.{shaped}
use Rattle.mixdown.specs.Runs.{of_mark}
use Rattle.mixdown.specs.Bins.{all_rows, firsts_after}
use Rattle.mixdown.specs.Sampled.{ran_pulses, ran_bins}
use Rattle.commands.specs.Command.{good, required}
use Rattle.commands.specs.Run as run
use Rattle.sampler.specs.Sampler.{sampled}
use Rattle.sampler_laws.specs.Added.{dues_of, all_dues, with_all}
use Rattle.system.specs.System.{outcome}
use Rattle.bench_table.specs.Numbers.{whole}
use Rattle.stand_ins.specs.Whole.{plateau, hann, spline, mixer, iir, fir, make, add-channel, add-shape, add-spline, execute, no-command, no-pulse, two-pulses, two-bins, Try, Trial, ones, noughts, also, try_of, sampling_of, first_pulse, first_bin}

pub record Tried (t : Try) : Type 0 where
  pub answer : (outcome t.asking.state t.asking.call).answer ≡ Ok t.count
  pub i : (outcome t.asking.state t.asking.call).after.rows.i ≡ whole t.sample ∷ []
  pub q : (outcome t.asking.state t.asking.call).after.rows.q ≡ whole t.sample ∷ []

-- with the first pulse, or with the pulses of the first bin, alone, the rows would hold 1
pub record TriedFirst : Type 0 where
  pub pulse : (first_pulse (sampling_of two-pulses)).i ≡ whole 1 ∷ []
  pub bin : (first_bin (sampling_of two-bins)).i ≡ whole 1 ∷ []

pub record All : Type 0 where
  pub each : (t : Trial) → Tried (try_of t)
  pub first : TriedFirst

-- the first pulse alone, of two: one sample, and its bits are those of 1. Of a program that samples both they are those of 2.
abbrev left-one : List Float
left-one = (first_pulse (sampling_of two-pulses)).i

one-sample : left-one ≡ get_or left-one 0 nan ∷ []
unfolding outcome add sub mul div rem neg lt eq le sum round of_bits of_int ceiling cut_of exp2_of fma wrapped reduced horner cosine_at sine_at cosine_of sine_of all_finite name_byte every low_bytes bytes_of_word sixteen bytes_of past_end is_name same_name corrected_row mixer_fits ran sections_from a0s_from given pipelined turns tap_at sum_to filtered_from points not_falling is_spline in_domain span_to blend_of fine_step d_at fine_at spline-row.row_of whole_of spline_at spline_fine value_in fine_in envelope_at point_fine values all_fine index_at parted_of shape_of finite_points fine_points hann_of same_numbers same_row place_of envelope_of phase0 dphase start_pair rotation_pair phase_numbers judged found_from shape_from settled settled_shape kept_from summed_by joined joined_two packed zipped all_names names_judged row_from part_of parts_at planned on_part carried shaped of_mark all_rows firsts_after good required run.acted run.ran ran_pulses ran_bins sampled dues_of all_dues with_all
one-sample = refl

one_left : eqb (to_bits binary64 (get_or left-one 0 nan)) 0x3ff0_0000_0000_0000 ≡ true
unfolding outcome add sub mul div rem neg lt eq le sum round of_bits of_int ceiling cut_of exp2_of fma wrapped reduced horner cosine_at sine_at cosine_of sine_of all_finite name_byte every low_bytes bytes_of_word sixteen bytes_of past_end is_name same_name corrected_row mixer_fits ran sections_from a0s_from given pipelined turns tap_at sum_to filtered_from points not_falling is_spline in_domain span_to blend_of fine_step d_at fine_at spline-row.row_of whole_of spline_at spline_fine value_in fine_in envelope_at point_fine values all_fine index_at parted_of shape_of finite_points fine_points hann_of same_numbers same_row place_of envelope_of phase0 dphase start_pair rotation_pair phase_numbers judged found_from shape_from settled settled_shape kept_from summed_by joined joined_two packed zipped all_names names_judged row_from part_of parts_at planned on_part carried shaped of_mark all_rows firsts_after good required run.acted run.ran ran_pulses ran_bins sampled dues_of all_dues with_all to_bits
one_left = refl

fits-one : T (fits binary64 (get_or left-one 0 nan))
unfolding outcome add sub mul div rem neg lt eq le sum round of_bits of_int ceiling cut_of exp2_of fma wrapped reduced horner cosine_at sine_at cosine_of sine_of all_finite name_byte every low_bytes bytes_of_word sixteen bytes_of past_end is_name same_name corrected_row mixer_fits ran sections_from a0s_from given pipelined turns tap_at sum_to filtered_from points not_falling is_spline in_domain span_to blend_of fine_step d_at fine_at spline-row.row_of whole_of spline_at spline_fine value_in fine_in envelope_at point_fine values all_fine index_at parted_of shape_of finite_points fine_points hann_of same_numbers same_row place_of envelope_of phase0 dphase start_pair rotation_pair phase_numbers judged found_from shape_from settled settled_shape kept_from summed_by joined joined_two packed zipped all_names names_judged row_from part_of parts_at planned on_part carried shaped of_mark all_rows firsts_after good required run.acted run.ran ran_pulses ran_bins sampled dues_of all_dues with_all fits
fits-one = tt

one-is : of_bits binary64 0x3ff0_0000_0000_0000 ≡ whole 1
unfolding of_bits of_int round
one-is = refl

pulse-first : left-one ≡ whole 1 ∷ []
pulse-first =
    one-sample
    ∙ ap (λ (x : Float). x ∷ [])
    (sym (of_bits-to_bits binary64 (get_or left-one 0 nan) fits-one) ∙ ap (of_bits binary64) (eqb-true (to_bits binary64 (get_or left-one 0 nan)) 0x3ff0_0000_0000_0000 one_left) ∙ one-is)

pub tried : All
unfolding outcome add sub mul div rem neg lt eq le sum round of_bits of_int ceiling cut_of exp2_of fma wrapped reduced horner cosine_at sine_at cosine_of sine_of all_finite name_byte every low_bytes bytes_of_word sixteen bytes_of past_end is_name same_name corrected_row mixer_fits ran sections_from a0s_from given pipelined turns tap_at sum_to filtered_from points not_falling is_spline in_domain span_to blend_of fine_step d_at fine_at spline-row.row_of whole_of spline_at spline_fine value_in fine_in envelope_at point_fine values all_fine index_at parted_of shape_of finite_points fine_points hann_of same_numbers same_row place_of envelope_of phase0 dphase start_pair rotation_pair phase_numbers judged found_from shape_from settled settled_shape kept_from summed_by joined joined_two packed zipped all_names names_judged row_from part_of parts_at planned on_part carried shaped of_mark all_rows firsts_after good required run.acted run.ran ran_pulses ran_bins sampled dues_of all_dues with_all
tried = record { each = each; first = record { pulse = pulse-first; bin = refl } }
  where
    each : (t : Trial) → Tried (try_of t)
    each (ones plateau) = record { answer = refl; i = refl; q = refl }
    each (ones hann) = record { answer = refl; i = refl; q = refl }
    each (ones spline) = record { answer = refl; i = refl; q = refl }
    each (ones mixer) = record { answer = refl; i = refl; q = refl }
    each (ones iir) = record { answer = refl; i = refl; q = refl }
    each (ones fir) = record { answer = refl; i = refl; q = refl }
    each (noughts plateau) = record { answer = refl; i = refl; q = refl }
    each (noughts hann) = record { answer = refl; i = refl; q = refl }
    each (noughts spline) = record { answer = refl; i = refl; q = refl }
    each (noughts mixer) = record { answer = refl; i = refl; q = refl }
    each (noughts iir) = record { answer = refl; i = refl; q = refl }
    each (noughts fir) = record { answer = refl; i = refl; q = refl }
    each (also make) = record { answer = refl; i = refl; q = refl }
    each (also add-channel) = record { answer = refl; i = refl; q = refl }
    each (also add-shape) = record { answer = refl; i = refl; q = refl }
    each (also add-spline) = record { answer = refl; i = refl; q = refl }
    each (also execute) = record { answer = refl; i = refl; q = refl }
    each (also no-command) = record { answer = refl; i = refl; q = refl }
    each (also no-pulse) = record { answer = refl; i = refl; q = refl }
    each (also two-pulses) = record { answer = refl; i = refl; q = refl }
    each (also two-bins) = record { answer = refl; i = refl; q = refl }
