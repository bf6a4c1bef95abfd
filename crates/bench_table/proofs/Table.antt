-- Document 01's lines B1 to B9 hold: every row of the table, by computation over the definitions that the calls promise. Assumes nothing.
use mathlib.Core.Path.{refl}
use borrow.Author.Tests.{eq-eqb}
use lib.Ieee.{add, sub, mul, div, rem, neg, lt, eq, le, sum, round, of_bits, of_int}
use Rattle.ieee.specs.Ceiling.{ceiling}
use Rattle.ieee.specs.Cut.{cut_of}
use Rattle.ieee.specs.Exp2.{exp2_of}
use Rattle.fma.specs.Fused.{fma}
use Rattle.trig.specs.Reduce.{wrapped, reduced}
use Rattle.trig.specs.Trig.{horner, cosine_at, sine_at, cosine_of, sine_of}
use Rattle.rows.specs.Rows.{all_finite}
use Rattle.naming.specs.Name.{name_byte, every, low_bytes, bytes_of_word, sixteen, bytes_of, past_end, is_name, same_name}
use Rattle.iir.specs.Section.{ran, sections_from, a0s_from}
use Rattle.iir.specs.Filter.{given, pipelined, turns}
use Rattle.points.specs.Points.{points}
use Rattle.shape.specs.Parts.{index_at, parted_of}
use Rattle.shape.specs.Segment.{point_fine, all_fine}
use Rattle.shape.specs.Envelope.{finite_points, fine_points}
use Rattle.spline.specs.Same.{same_numbers}
use Rattle.pulse.specs.Bin.{same_row, place_of}
use Rattle.pulse.specs.Envelope.{envelope_of}
use Rattle.placing.specs.Phases.{phase0, dphase, start_pair, rotation_pair, phase_numbers}
use Rattle.placing.specs.Judged.{judged}
use Rattle.tables.specs.Tables.{found_from}
use Rattle.merge.specs.Sum.{kept_from, summed_by}
use Rattle.merge.specs.Join.{joined, joined_two}
use Rattle.merge.specs.Taking.{packed, zipped}
use Rattle.crosstalk.specs.Crosstalk.{all_names, names_judged, row_from, part_of, parts_at, planned}
use Rattle.mix.specs.Part.{on_part}
use Rattle.mix.specs.Plateau.{carried}
use Rattle.mixdown.specs.Runs.{of_mark}
use Rattle.mixdown.specs.Bins.{all_rows, firsts_after}
use Rattle.mixdown.specs.Sampled.{ran_pulses, ran_bins}
use Rattle.commands.specs.Command.{good, required}
use Rattle.commands.specs.Step.{moved_by, turned_at}
use Rattle.commands.specs.Run as run
use Rattle.sampler.specs.Sampler.{sampled}
use Rattle.bench_table.specs.Steps.{◌and◌}
use Rattle.bench_table.specs.Line.{Every}
use Rattle.bench_table.specs.Table.{table}

pub bench_table : Every table
unfolding add sub mul div rem neg lt eq le sum round of_bits of_int ceiling cut_of exp2_of fma wrapped reduced horner cosine_at sine_at cosine_of sine_of all_finite name_byte every low_bytes bytes_of_word sixteen bytes_of past_end is_name same_name ran sections_from a0s_from given pipelined turns points index_at parted_of all_fine point_fine finite_points fine_points same_numbers same_row place_of envelope_of phase0 dphase start_pair rotation_pair phase_numbers judged found_from kept_from summed_by joined joined_two packed zipped all_names names_judged row_from part_of parts_at planned on_part carried of_mark all_rows firsts_after good required moved_by turned_at run.acted run.ran ran_pulses ran_bins sampled
bench_table =
    -- B1
    record { place = refl; judge = refl; sample = refl; row = refl }
    and record { place = refl; judge = refl; sample = refl; row = refl }
    -- B2
    and record { place = refl; judge = refl; sample = refl; row = refl }
    -- B3
    and record { place = refl; judge = refl; sample = refl; row = refl }
    and record { judge = refl; sample = refl }
    -- B4
    and record { judge = refl; sample = refl }
    and record { judge = refl; sample = refl }
    -- B5
    and record { answer = refl; i-row = refl; q-row = refl }
    -- B6
    and record { begin = 2; place = refl; measure = refl; pulse = record { judge = refl; sample = refl } }
    and record { begin = 2; place = refl; measure = refl; pulse = record { judge = refl; sample = refl } }
    -- B7
    and refl
    -- B8
    and record { sum = λ bin amp drag. rw (eq-eqb bin bin refl); sample = refl }
    -- B9
    and
    (record { accepted = refl; phase-is = refl; execute = refl }
    and record { accepted = refl; phase-is = refl; execute = refl }
    and record { accepted = refl; phase-is = refl; execute = refl }
    and tt)
    and tt
