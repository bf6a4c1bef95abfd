-- No program for one of the other calls on what is lent that keeps its promise is a stand-in: one input, or two, by computation over the definitions.
-- Assumes nothing.
use mathlib.Core.Path.{refl, ap, ◌∙◌}
use mathlib.Core.Bool.{Bool}
use mathlib.Core.List.{List, []}
use lib.Dec.{eqb}
use lib.Ieee.{Float, nan, add, sub, mul, div, rem, neg, lt, eq, le, sum, round, of_bits, of_int}
use lib.ListN.{length, get_or}
use Rattle.exact.specs.Doubles.{nought, one}
use Rattle.ieee.specs.Ceiling.{ceiling}
use Rattle.ieee.specs.Cut.{cut_of}
use Rattle.ieee.specs.Exp2.{exp2_of}
use Rattle.fma.specs.Fused.{fma}
use Rattle.trig.specs.Reduce.{wrapped, reduced}
use Rattle.trig.specs.Trig.{horner, cosine_at, sine_at, cosine_of, sine_of}
use Rattle.rows.specs.Rows.{all_finite}
use Rattle.rows.specs.Rows as rows
use Rattle.naming.specs.Name.{name_byte, every, low_bytes, bytes_of_word, sixteen, bytes_of, past_end, is_name, same_name}
use Rattle.mixer.specs.Mixer.{corrected_row, mixer_fits}
use Rattle.iir.specs.Section.{ran, sections_from, a0s_from}
use Rattle.iir.specs.Filter.{given, pipelined, turns}
use Rattle.ring.specs.Ring.{tap_at, sum_to, filtered_from}
use Rattle.quant.specs.Refusal.{code_of, Answer}
use Rattle.shape.specs.Hann.{hann_of}
use Rattle.points.specs.Points.{points}
use Rattle.spline.specs.Spline.{in_domain, span_to, blend_of, d_at}
use Rattle.spline.specs.Row as spline-row
use Rattle.spline.specs.Value.{whole_of, spline_at, value_in}
use Rattle.spline.specs.Same.{same_numbers}
use Rattle.shape.specs.Segment.{envelope_at, point_fine, values, all_fine}
use Rattle.shape.specs.Parts.{index_at, parted_of}
use Rattle.shape.specs.Envelope.{shape_of, finite_points, fine_points, enveloped_of, scratch_after}
use Rattle.pulse.specs.Bin.{same_row, place_of}
use Rattle.pulse.specs.Envelope.{envelope_of}
use Rattle.placing.specs.Phases.{phase0, dphase, start_pair, rotation_pair, phase_numbers}
use Rattle.placing.specs.Judged.{judged}
use Rattle.tables.specs.Tables.{found_from, shape_from, settled, settled_shape}
use Rattle.merge.specs.Sum.{kept_from, summed_by}
use Rattle.merge.specs.Join.{joined, joined_two}
use Rattle.merge.specs.Work.{Gathered, over, in_one, ends_from}
use Rattle.merge.specs.Taking.{packed, zipped}
use Rattle.crosstalk.specs.Crosstalk.{all_names, names_judged, row_from, part_of, parts_at, planned}
use Rattle.mix.specs.Part.{on_part, first_row, second_row}
use Rattle.mix.specs.Plateau.{carried, real, imaginary}
use Rattle.mix.specs.Envelope.{shaped, shaped_by}
use Rattle.mixdown.specs.Runs.{of_mark, pulses_in, passed, picked_from}
use Rattle.mixdown.specs.Starts.{runs_for_from}
use Rattle.mixdown.specs.Bins.{all_rows, firsts_after}
use Rattle.mixdown.specs.Sampled.{Rowed, rowed, ends_fit, ran_pulses, ran_bins, mixed_down}
use Rattle.commands.specs.Command.{good, required}
use Rattle.commands.specs.Run as run
use Rattle.sampler.specs.Sampler.{sampled}
use Rattle.sampler_laws.specs.Added.{count_in}
use Rattle.bench_table.specs.Numbers as numbers
use Rattle.system.specs.System as system
use Rattle.stand_ins.specs.Whole.{anything, mixer-numbers, iir-numbers, fir-numbers, bin-alone, bin-pair, pulse-alone, pulse-pair, pulse-of-each}
use Rattle.stand_ins.specs.ByValue.{always}
use Rattle.stand_ins.specs.Buffers as lent
use Rattle.stand_ins.specs.Inputs as given
use Rattle.stand_ins.specs.Table.{itself, step_left, step_came, both_left, mixed_left, mixed_came, first_summed, first_mixed, first_bin_mixed, Buffers}
use Rattle.stand_ins.proofs.StandIns.{Only, not-all-refused, not-always, not-fixed, is_two, both-rows-move, accepts, varies}

-- ---- the one outcome that a promise of several equations allows

-- of a step over the C border
abbrev coded_of : system.Step → lent.Step → lent.Coded-rows
coded_of s x =
    record {
      code = code_of s.answer;
      i = rows.after s.answer s.i x.i;
      q = rows.after s.answer s.q x.q;
    }

abbrev mixer_left : lent.Step → lent.Coded-rows
mixer_left x = coded_of (system.mixer_step (rowed x.i x.q []) x.rows x.numbers x.offsets) x

only-mixer : (x : lent.Step) → Only lent.mixer-c x (mixer_left x)
only-mixer x z p = λ j. record { code = (p.coded ∙ ap code_of p.does.answer) j; i = p.does.first j; q = p.does.second j }

abbrev iir_left : lent.Step → lent.Coded-rows
iir_left x = coded_of (system.iir_step (rowed x.i x.q []) x.rows x.numbers) x

only-iir : (x : lent.Step) → Only lent.iir-c x (iir_left x)
only-iir x z p = λ j. record { code = (p.coded ∙ ap code_of p.does.answer) j; i = p.does.i-row j; q = p.does.q-row j }

abbrev fir_left : lent.Step → lent.Coded-rows
fir_left x = coded_of (system.fir_step (rowed x.i x.q []) x.rows x.numbers) x

only-fir : (x : lent.Step) → Only lent.fir-c x (fir_left x)
only-fir x z p = λ j. record { code = (p.coded ∙ ap code_of p.does.answer) j; i = p.does.first j; q = p.does.second j }

-- of one pulse onto the rows
abbrev plateau_left : lent.Plateau → lent.Two
plateau_left x =
    record {
      i = first_row x.rows x.start x.count x.i x.q (carried real x.carrier x.rotation);
      q = second_row x.rows x.start x.count x.i x.q (carried imaginary x.carrier x.rotation);
    }

only-plateau : (x : lent.Plateau) → Only lent.add-plateau x (plateau_left x)
only-plateau x z p = λ j. record { i = p.0 j; q = p.1 j }

abbrev envelope_left : lent.Envelope → lent.Two
envelope_left x =
    record {
      i = first_row x.rows x.start (length x.points) x.i x.q (shaped_by real x.amp x.drag x.rotation x.points x.carrier);
      q = second_row x.rows x.start (length x.points) x.i x.q (shaped_by imaginary x.amp x.drag x.rotation x.points x.carrier);
    }

only-envelope : (x : lent.Envelope) → Only lent.add-envelope x (envelope_left x)
only-envelope x z p = λ j. record { i = p.0 j; q = p.1 j }

-- of an envelope's points
abbrev points_left : lent.Laying → lent.Points
points_left x =
    let b = x.bent in
    record { answer = enveloped_of b.shape b.numbers (lent.parts_laid x); scratch = scratch_after b.shape b.numbers (lent.parts_laid x) x.scratch }

only-points : (x : lent.Laying) → Only lent.envelope x (points_left x)
only-points x z p = λ j. record { answer = p.0 j; scratch = p.1 j }

-- of lists mixed onto the rows
abbrev mixed : lent.Mixing → lent.Mixed
mixed x = record { out = lent.mixed_for x; work = x.work; marks = x.marks }

only-mixed : (x : lent.Mixing) → Only lent.mix-lists x (mixed x)
only-mixed x z p = λ j. record { out = p.0 j; work = p.1.0 j; marks = p.1.1 j }

-- ---- the tests

is_one : Answer → Bool
is_one a = eqb (count_in a) 1

is_one_row : List Float → Bool
is_one_row row = eq (get_or row 0 nan) one

-- whether two pulses stand in the work rows
two_end : Gathered → Bool
two_end g = eqb (get_or g.ends.ends 0 0) 2

pub buffers : Buffers
unfolding is_one is_one_row two_end is_two mixed_down ends_fit runs_for_from pulses_in picked_from passed over in_one ends_from add sub mul div rem neg lt eq le sum round of_bits of_int ceiling cut_of exp2_of fma wrapped reduced horner cosine_at sine_at cosine_of sine_of all_finite name_byte every low_bytes bytes_of_word sixteen bytes_of past_end is_name same_name corrected_row mixer_fits ran sections_from a0s_from given pipelined turns tap_at sum_to filtered_from points in_domain span_to blend_of d_at spline-row.row_of whole_of spline_at value_in envelope_at point_fine values all_fine index_at parted_of shape_of finite_points fine_points hann_of same_numbers same_row place_of envelope_of phase0 dphase start_pair rotation_pair phase_numbers judged found_from shape_from settled settled_shape kept_from summed_by joined joined_two packed zipped all_names names_judged row_from part_of parts_at planned on_part carried shaped of_mark all_rows firsts_after good required run.acted run.ran ran_pulses ran_bins sampled
buffers =
    record {
      mixer-c = not-all-refused lent.mixer-c _ _ (only-mixer (given.stepping mixer-numbers 1)) refl;
      iir-c = not-all-refused lent.iir-c _ _ (only-iir (given.stepping iir-numbers 1)) refl;
      fir-c = not-all-refused lent.fir-c _ _ (only-fir (given.stepping fir-numbers 1)) refl;
      envelope = not-all-refused lent.envelope _ _ (only-points given.laying) refl;
      mix-lists = not-all-refused lent.mix-lists _ _ (only-mixed (given.mixing 1 bin-alone pulse-alone)) refl;
      execute-owned = accepts _ lent.is_run (given.owning 1) refl;
      mixer-moves = both-rows-move lent.mixer-c step_left step_came _ _ _ _ (only-mixer (given.stepping mixer-numbers 1)) (only-mixer (given.stepping mixer-numbers 0)) refl refl refl refl refl refl refl refl refl refl;
      iir-moves = both-rows-move lent.iir-c step_left step_came _ _ _ _ (only-iir (given.stepping iir-numbers 1)) (only-iir (given.stepping iir-numbers 0)) refl refl refl refl refl refl refl refl refl refl;
      fir-moves = both-rows-move lent.fir-c step_left step_came _ _ _ _ (only-fir (given.stepping fir-numbers 1)) (only-fir (given.stepping fir-numbers 0)) refl refl refl refl refl refl refl refl refl refl;
      row-filtered = not-always lent.filter itself (λ (x : lent.Tapped). x.row) is_two (given.tapped 1) _ (λ z p. p) refl refl refl;
      row-moves = varies _ always itself (λ (x : lent.Tapped). length x.row) is_two (given.tapped 1) (given.tapped 0) refl refl refl refl refl;
      plateau-moves = both-rows-move lent.add-plateau both_left _ _ _ _ _ (only-plateau (given.plateau 1)) (only-plateau (given.plateau 0)) refl refl refl refl refl refl refl refl refl refl;
      envelope-moves = both-rows-move lent.add-envelope both_left _ _ _ _ _ (only-envelope (given.enveloped 1)) (only-envelope (given.enveloped 0)) refl refl refl refl refl refl refl refl refl refl;
      lists-move = both-rows-move lent.mix-lists mixed_left mixed_came _ _ _ _ (only-mixed (given.mixing 1 bin-alone pulse-alone)) (only-mixed (given.mixing 0 bin-alone pulse-alone)) refl refl refl refl refl refl refl refl refl refl;
      part-laid = not-always lent.lay itself (λ (x : lent.Part). x.part) is_one_row (given.parting one) _ (λ z p. p) refl refl refl;
      part-moves = varies _ always itself (λ (x : lent.Part). length x.part) is_one_row (given.parting one) (given.parting nought) refl refl refl refl refl;
      spline-laid = not-always lent.spline-over itself (λ (x : lent.Bends). x.part) is_one_row (given.bends nought) _ (λ z p. p) refl refl refl;
      spline-moves = varies _ always itself (λ (x : lent.Bends). length x.part) is_one_row (given.bends nought) (given.bends (numbers.over 5 10)) refl refl refl refl refl;
      scratch-filled = not-always lent.envelope (λ (y : lent.Points). y.scratch) (λ (x : lent.Laying). x.scratch) is_one_row given.laying _ (only-points given.laying) refl refl refl;
      first-summed = not-always lent.sum-lists itself first_summed two_end (given.summing bin-alone pulse-pair) _ (λ z p. p) refl refl refl;
      first-mixed = not-always lent.mix-lists (λ (y : lent.Mixed). y.out.left) first_mixed (λ (r : Rowed). is_two r.i) _ _ (only-mixed (given.mixing 0 bin-alone pulse-pair)) refl refl refl;
      first-bin-mixed = not-always lent.mix-lists (λ (y : lent.Mixed). y.out.left) first_bin_mixed (λ (r : Rowed). is_two r.i) _ _ (only-mixed (given.mixing 0 bin-pair pulse-of-each)) refl refl refl;
      commands-counted = varies _ lent.is_run (λ (y : run.Ran). y.result.answer) anything is_one (given.owning 1) (given.owning 0) refl refl refl refl refl;
      pulses-counted = not-fixed lent.mix-lists (λ (y : lent.Mixed). y.out.answer) anything is_one _ _ _ _ (only-mixed (given.mixing 0 bin-alone pulse-alone)) (only-mixed (given.mixing 0 bin-alone pulse-pair)) refl refl refl refl refl;
    }
