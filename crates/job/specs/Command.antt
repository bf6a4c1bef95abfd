-- The seven commands of the job text, from a line's words. Definitions only.
use Rattle.std.specs.Prelude.{ℕ, cond, List, eqb, Float, length, Option, Some, None}
use Rattle.commands.specs.declared.command.Command.{Command}
use Rattle.commands.specs.declared.command.Command.TheVariants as command
use Rattle.fields.specs.Value.{name_field, shape_field, flag_field, pair_field}
use Rattle.fields.specs.Words.{is_word}
use Rattle.job.specs.declared.line.Line.{Line}
use Rattle.job.specs.declared.line.Line.TheVariants as line
use Rattle.job.specs.declared.turn.Turn.{Turn}
use Rattle.job.specs.Given as given
use Rattle.job.specs.Given.{word}
use Rattle.job.specs.Keys.{play_word, shift_phase_word, set_phase_word, shift_freq_word, set_freq_word, swap_phase_word, barrier_word, ch_key, shape_key, amp_key}
use Rattle.job.specs.Keys.{width_key, plateau_key, drag_key, freq_key, phase_key, flex_key, start_key, span_key, a_key, b_key}
use Rattle.job.specs.List.{list_of}
use Rattle.job.specs.Turn.{turn_of}

-- a command with its start and span
abbrev pub arranged : Float → Float → Command → Line
arranged start span c = line.Command (record { start = record { 0 = start }; span = record { 0 = span }; command = c })

abbrev pub shift_phase_by : Option Turn → Line
shift_phase_by (Some t) = arranged t.start t.span (command.ShiftPhase t.channel (record { 0 = t.number }))
shift_phase_by None = line.Syntax

abbrev pub set_phase_by : Option Turn → Line
set_phase_by (Some t) = arranged t.start t.span (command.SetPhase t.channel (record { 0 = t.number }))
set_phase_by None = line.Syntax

abbrev pub shift_freq_by : Option Turn → Line
shift_freq_by (Some t) = arranged t.start t.span (command.ShiftFreq t.channel (record { 0 = t.number }))
shift_freq_by None = line.Syntax

abbrev pub set_freq_by : Option Turn → Line
set_freq_by (Some t) = arranged t.start t.span (command.SetFreq t.channel (record { 0 = t.number }))
set_freq_by None = line.Syntax

-- `swap_phase a=NAME b=NAME start=N span=N`
unfoldable pub swap_of : List (List ℕ) → Line
swap_of words =
    cond (eqb (length words) 5)
    (given.name line.Syntax (name_field a_key (word words 1)) (λ a.
    given.name line.Syntax (name_field b_key (word words 2)) (λ b.
    given.both line.Syntax (pair_field start_key span_key (word words 3) (word words 4)) (λ start span.
    arranged start span (command.SwapPhase a b)))))
    line.Syntax

-- `barrier start=N span=N`
unfoldable pub barrier_of : List (List ℕ) → Line
barrier_of words =
    cond (eqb (length words) 3)
    (given.both line.Syntax (pair_field start_key span_key (word words 1) (word words 2)) (λ start span.
    arranged start span command.Barrier))
    line.Syntax

-- `play ch=NAME shape=NAME amp=N width=N plateau=N drag=N freq=N phase=N flex=0|1 start=N span=N`
unfoldable pub play_of : List (List ℕ) → Line
play_of words =
    cond (eqb (length words) 12)
    (given.name line.Syntax (name_field ch_key (word words 1)) (λ channel.
    given.shape line.Syntax (shape_field shape_key (word words 2)) (λ shape.
    given.both line.Syntax (pair_field amp_key width_key (word words 3) (word words 4)) (λ amplitude width.
    given.both line.Syntax (pair_field plateau_key drag_key (word words 5) (word words 6)) (λ plateau drag.
    given.both line.Syntax (pair_field freq_key phase_key (word words 7) (word words 8)) (λ frequency phase.
    given.flag line.Syntax (flag_field flex_key (word words 9)) (λ flexible.
    given.both line.Syntax (pair_field start_key span_key (word words 10) (word words 11)) (λ start span.
    arranged start span (command.Play (record {
      channel = channel;
      shape = shape;
      amplitude = record { 0 = amplitude };
      width = record { 0 = width };
      plateau = record { 0 = plateau };
      drag = drag;
      frequency = record { 0 = frequency };
      phase = record { 0 = phase };
      flexible = flexible;
    }))))))))))
    line.Syntax

-- the four that share their fields; any other line is a list
unfoldable pub step_of : List (List ℕ) → Line
step_of words =
    cond (is_word shift_phase_word (word words 0)) (shift_phase_by (turn_of phase_key words))
    (cond (is_word set_phase_word (word words 0)) (set_phase_by (turn_of phase_key words))
    (cond (is_word shift_freq_word (word words 0)) (shift_freq_by (turn_of freq_key words))
    (cond (is_word set_freq_word (word words 0)) (set_freq_by (turn_of freq_key words))
    (list_of words))))

unfoldable pub command_of : List (List ℕ) → Line
command_of words =
    cond (is_word play_word (word words 0)) (play_of words)
    (cond (is_word swap_phase_word (word words 0)) (swap_of words)
    (cond (is_word barrier_word (word words 0)) (barrier_of words)
    (step_of words)))
