-- No program for one of the calls by value that keeps its promise is a stand-in: one input, or two, by computation over the definitions. Assumes nothing.
use Rattle.std.specs.Prelude.{Option, Some, None}
use Rattle.quant.specs.declared.complex.Complex.{Complex}
use mathlib.Core.Path.{refl}
use mathlib.Core.Bool.{Bool, false}
use lib.Ieee.{Float, add, sub, mul, div, rem, neg, lt, eq, le, sum, round, of_bits, of_int}
use Rattle.exact.specs.Doubles.{nought, one}
use Rattle.ieee.specs.Ceiling.{ceiling}
use Rattle.ieee.specs.Cut.{cut_of}
use Rattle.ieee.specs.Exp2.{exp2_of}
use Rattle.fma.specs.Fused.{fma}
use Rattle.trig.specs.Reduce.{wrapped, reduced}
use Rattle.trig.specs.Trig.{horner, cosine_at, sine_at, cosine_of, sine_of}
use Rattle.naming.specs.Name.{name_byte, every, low_bytes, bytes_of_word, sixteen, bytes_of, past_end, is_name, same_name}
use Rattle.quant.specs.Phaser.{phased_of}
use Rattle.rows.specs.Rows.{all_finite}
use Rattle.pulse.specs.Weight.{weighed}
use Rattle.pulse.specs.Envelope.{envelope_of}
use Rattle.tables.specs.Tables.{found_from, shape_from, told_at}
use Rattle.shape.specs.Hann.{hann_of}
use Rattle.points.specs.Points.{points}
use Rattle.shape.specs.Parts.{index_at, parted_of}
use Rattle.spline.specs.Spline.{not_falling, is_spline, in_domain, span_to, blend_of, fine_step, d_at, fine_at}
use Rattle.spline.specs.Row as spline-row
use Rattle.spline.specs.Value.{whole_of, spline_at, spline_fine, value_in, fine_in}
use Rattle.shape.specs.Segment.{point_fine, all_fine}
use Rattle.shape.specs.Envelope.{finite_points, fine_points}
use Rattle.placing.specs.Phases.{phase0, dphase, start_pair, rotation_pair, phase_numbers}
use Rattle.placing.specs.Judged.{judged}
use Rattle.crosstalk.specs.Crosstalk.{all_names, names_judged, row_from, part_of, parts_at, planned}
use Rattle.merge.specs.Taking.{packed}
use Rattle.bench_table.specs.Numbers.{over}
use Rattle.stand_ins.specs.Whole.{is_done, anything}
use Rattle.stand_ins.specs.ByValue as value
use Rattle.stand_ins.specs.Table.{itself, ByValue}
use Rattle.stand_ins.specs.Inputs as given
use Rattle.stand_ins.proofs.StandIns.{Only, not-fixed, accepts, varies}

is_one : Float → Bool
is_one x = eq x one

is_nought : Float → Bool
is_nought x = eq x nought

-- whether the pair's first part is 1
is_ahead : Option Complex → Bool
is_ahead (Some z) = eq z.re one
is_ahead None = false

-- both parts are told
only-both : (x : Float) → Only value.both x (cosine_of x, sine_of x)
only-both x z p = λ j. (p.cos j, p.sin j)

pub by_value : ByValue
unfolding is_one is_nought is_ahead add sub mul div rem neg lt eq le sum round of_bits of_int ceiling cut_of exp2_of fma wrapped reduced horner cosine_at sine_at cosine_of sine_of all_finite name_byte every low_bytes bytes_of_word sixteen bytes_of past_end is_name same_name hann_of points not_falling is_spline in_domain span_to blend_of fine_step d_at fine_at spline-row.row_of whole_of spline_at spline_fine value_in fine_in index_at parted_of point_fine all_fine finite_points fine_points weighed envelope_of phase0 dphase start_pair rotation_pair phase_numbers judged found_from shape_from told_at all_names names_judged row_from part_of parts_at planned packed
by_value =
    record {
      -- of 0 it is 1, and of 1 it is not; of sine 0, and of 1 it is not
      cosine = varies cosine_of value.always itself anything is_one nought one refl refl refl refl refl;
      sine = varies sine_of value.always itself anything is_nought nought one refl refl refl refl refl;
      cosine-wrapped = varies (λ (x : Float). cosine_at (wrapped x)) value.always itself anything is_one nought one refl refl refl refl refl;
      hann = varies hann_of value.always itself anything is_one nought (over 5 10) refl refl refl refl refl;
      spline-value = varies _ value.always itself anything is_one (given.bending nought) (given.bending (over 5 10)) refl refl refl refl refl;
      point = varies _ value.always itself anything is_one (given.pointing 1) (given.pointing 0) refl refl refl refl refl;
      both-cosine = not-fixed value.both (λ (y : Float × Float). y.0) anything is_one nought one (cosine_of nought, sine_of nought) (cosine_of one, sine_of one) (only-both nought) (only-both one) refl refl refl refl refl;
      both-sine = not-fixed value.both (λ (y : Float × Float). y.1) anything is_nought nought one (cosine_of nought, sine_of nought) (cosine_of one, sine_of one) (only-both nought) (only-both one) refl refl refl refl refl;
      phaser-fixed = varies phased_of value.is_pair itself anything is_ahead nought (over 5 10) refl refl refl refl refl;
      phaser = accepts phased_of value.is_pair nought refl;
      align = accepts _ value.is_index given.timed refl;
      place = accepts _ value.is_start given.timed refl;
      align-c = accepts _ (value.align-c).accepted given.timed refl;
      place-c = accepts _ (value.place-c).accepted given.timed refl;
      set-up = accepts _ value.is_fit given.clocked refl;
      shift-phase = accepts _ value.has_moved given.turning refl;
      set-phase = accepts _ value.has_moved given.turning refl;
      shift_freq = accepts _ value.has_moved given.turning refl;
      set_freq = accepts _ value.has_moved given.turning refl;
      swap-phase = accepts _ (value.swap-phase).accepted given.swapping refl;
      weigh = accepts _ value.is_fine given.weighing refl;
      lay-out = accepts _ value.is_within given.curve refl;
      measure = accepts _ value.has_points given.bent refl;
      judge = accepts _ value.is_placed given.pulsed refl;
      state = accepts _ value.is_known given.looking refl;
      find = accepts _ value.is_there given.looking refl;
      find-shape = accepts _ value.is_there given.shape-looking refl;
      spline-check = accepts _ value.is_true given.knotted refl;
      spline-fine = accepts _ value.is_true (given.bending nought) refl;
      plan = accepts _ (value.plan).accepted given.planning refl;
      answer = accepts _ is_done given.fine refl;
    }
