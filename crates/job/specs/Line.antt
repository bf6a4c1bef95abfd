-- A line of a job. The job text: "words are parted by one blank; empty lines and lines that begin with `#` are passed over. Fields
-- `key=value` stand in the order shown and all of them are given." Definitions only.
use Rattle.std.specs.Prelude.{ℕ, cond, List, [], ◌∷◌, eqb, length}
use Rattle.fields.specs.Value.{number_field, name_field, flag_field, pair_field, whole_field, level_field}
use Rattle.fields.specs.Words.{is_word, words_of}
use Rattle.job.specs.declared.line.Line.{Line}
use Rattle.job.specs.declared.line.Line.TheVariants.{Nothing, Syntax, Tables, Channel, Shape, Run, States, Rows, Sample, Print}
use Rattle.job.specs.Command.{command_of}
use Rattle.job.specs.Given as given
use Rattle.job.specs.Given.{word}
use Rattle.job.specs.Keys.{tables_word, channel_word, shape_word, hann_word, run_word, states_word, rows_word, sample_word, print_word}
use Rattle.job.specs.Keys.{amp_tol_key, time_tol_key, oversize_key, base_key, delta_key, phase_key, rate_key, delay_key, level_key}

-- `tables amp_tol=N time_tol=N oversize=0|1`
unfoldable pub tables_of : List (List ℕ) → Line
tables_of words =
    cond (eqb (length words) 4)
    (given.both Syntax (pair_field amp_tol_key time_tol_key (word words 1) (word words 2)) (λ amp time.
    given.flag Syntax (flag_field oversize_key (word words 3)) (λ allowed.
    Tables (record { 0 = amp }) (record { 0 = time }) allowed)))
    Syntax

-- `channel NAME base=N delta=N phase=N`
unfoldable pub channel_of : List (List ℕ) → Line
channel_of words =
    cond (eqb (length words) 5)
    (given.name Syntax (name_field [] (word words 1)) (λ n.
    given.both Syntax (pair_field base_key delta_key (word words 2) (word words 3)) (λ base delta.
    given.number Syntax (number_field phase_key (word words 4)) (λ phase.
    Channel n (record { base = record { 0 = base }; delta = record { 0 = delta }; phase = record { 0 = phase } })))))
    Syntax

-- `shape NAME hann`
unfoldable pub shape_of : List (List ℕ) → Line
shape_of words =
    cond (eqb (length words) 3)
    (cond (is_word hann_word (word words 2)) (given.name Syntax (name_field [] (word words 1)) Shape) Syntax)
    Syntax

-- `rows R LENGTH`
unfoldable pub rows_of : List (List ℕ) → Line
rows_of words =
    cond (eqb (length words) 3)
    (given.whole Syntax (whole_field [] (word words 1)) (λ many.
    given.whole Syntax (whole_field [] (word words 2)) (λ long.
    Rows many long)))
    Syntax

-- `sample NAME rate=N delay=N level=INTEGER`
unfoldable pub sample_of : List (List ℕ) → Line
sample_of words =
    cond (eqb (length words) 5)
    (given.name Syntax (name_field [] (word words 1)) (λ n.
    given.both Syntax (pair_field rate_key delay_key (word words 2) (word words 3)) (λ rate delay.
    given.level Syntax (level_field level_key (word words 4)) (λ level.
    Sample (record { channel = n; rate = record { 0 = rate }; delay = record { 0 = delay }; level = level })))))
    Syntax

-- the words that stand alone; any other line is a command or a list
unfoldable pub action_of : List (List ℕ) → Line
action_of words =
    cond (eqb (length words) 1)
    (cond (is_word run_word (word words 0)) Run
    (cond (is_word states_word (word words 0)) States
    (cond (is_word print_word (word words 0)) Print
    (command_of words))))
    (command_of words)

-- the lines that set the bench up; any other is an action
unfoldable pub setting_of : List (List ℕ) → Line
setting_of words =
    cond (is_word tables_word (word words 0)) (tables_of words)
    (cond (is_word channel_word (word words 0)) (channel_of words)
    (cond (is_word shape_word (word words 0)) (shape_of words)
    (cond (is_word rows_word (word words 0)) (rows_of words)
    (cond (is_word sample_word (word words 0)) (sample_of words)
    (action_of words)))))

-- what a line says: nothing where it is empty or begins with `#` (35)
unfoldable pub line_of : List ℕ → Line
line_of [] = Nothing
line_of (b ∷ bs) = cond (eqb b 35) Nothing (setting_of (words_of (b ∷ bs)))
