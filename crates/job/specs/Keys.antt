-- The words and the keys of the job text, as their bytes. Definitions only.
use Rattle.std.specs.Prelude.{ℕ, List, [], ◌∷◌}

-- ---- the words that a line begins with, and `hann`

-- `tables`
abbrev pub tables_word : List ℕ
tables_word = 116 ∷ 97 ∷ 98 ∷ 108 ∷ 101 ∷ 115 ∷ []

-- `channel`
abbrev pub channel_word : List ℕ
channel_word = 99 ∷ 104 ∷ 97 ∷ 110 ∷ 110 ∷ 101 ∷ 108 ∷ []

-- `shape`
abbrev pub shape_word : List ℕ
shape_word = 115 ∷ 104 ∷ 97 ∷ 112 ∷ 101 ∷ []

-- `hann`
abbrev pub hann_word : List ℕ
hann_word = 104 ∷ 97 ∷ 110 ∷ 110 ∷ []

-- `play`
abbrev pub play_word : List ℕ
play_word = 112 ∷ 108 ∷ 97 ∷ 121 ∷ []

-- `shift_phase`
abbrev pub shift_phase_word : List ℕ
shift_phase_word = 115 ∷ 104 ∷ 105 ∷ 102 ∷ 116 ∷ 95 ∷ 112 ∷ 104 ∷ 97 ∷ 115 ∷ 101 ∷ []

-- `set_phase`
abbrev pub set_phase_word : List ℕ
set_phase_word = 115 ∷ 101 ∷ 116 ∷ 95 ∷ 112 ∷ 104 ∷ 97 ∷ 115 ∷ 101 ∷ []

-- `shift_freq`
abbrev pub shift_freq_word : List ℕ
shift_freq_word = 115 ∷ 104 ∷ 105 ∷ 102 ∷ 116 ∷ 95 ∷ 102 ∷ 114 ∷ 101 ∷ 113 ∷ []

-- `set_freq`
abbrev pub set_freq_word : List ℕ
set_freq_word = 115 ∷ 101 ∷ 116 ∷ 95 ∷ 102 ∷ 114 ∷ 101 ∷ 113 ∷ []

-- `swap_phase`
abbrev pub swap_phase_word : List ℕ
swap_phase_word = 115 ∷ 119 ∷ 97 ∷ 112 ∷ 95 ∷ 112 ∷ 104 ∷ 97 ∷ 115 ∷ 101 ∷ []

-- `barrier`
abbrev pub barrier_word : List ℕ
barrier_word = 98 ∷ 97 ∷ 114 ∷ 114 ∷ 105 ∷ 101 ∷ 114 ∷ []

-- `run`
abbrev pub run_word : List ℕ
run_word = 114 ∷ 117 ∷ 110 ∷ []

-- `states`
abbrev pub states_word : List ℕ
states_word = 115 ∷ 116 ∷ 97 ∷ 116 ∷ 101 ∷ 115 ∷ []

-- `crosstalk`
abbrev pub crosstalk_word : List ℕ
crosstalk_word = 99 ∷ 114 ∷ 111 ∷ 115 ∷ 115 ∷ 116 ∷ 97 ∷ 108 ∷ 107 ∷ []

-- `sheet`
abbrev pub sheet_word : List ℕ
sheet_word = 115 ∷ 104 ∷ 101 ∷ 101 ∷ 116 ∷ []

-- `spline`
abbrev pub spline_word : List ℕ
spline_word = 115 ∷ 112 ∷ 108 ∷ 105 ∷ 110 ∷ 101 ∷ []

-- `rows`
abbrev pub rows_word : List ℕ
rows_word = 114 ∷ 111 ∷ 119 ∷ 115 ∷ []

-- `sample`
abbrev pub sample_word : List ℕ
sample_word = 115 ∷ 97 ∷ 109 ∷ 112 ∷ 108 ∷ 101 ∷ []

-- `mixer`
abbrev pub mixer_word : List ℕ
mixer_word = 109 ∷ 105 ∷ 120 ∷ 101 ∷ 114 ∷ []

-- `iir`
abbrev pub iir_word : List ℕ
iir_word = 105 ∷ 105 ∷ 114 ∷ []

-- `fir`
abbrev pub fir_word : List ℕ
fir_word = 102 ∷ 105 ∷ 114 ∷ []

-- `print`
abbrev pub print_word : List ℕ
print_word = 112 ∷ 114 ∷ 105 ∷ 110 ∷ 116 ∷ []

-- ---- the keys of the fields

-- `ch=`
abbrev pub ch_key : List ℕ
ch_key = 99 ∷ 104 ∷ 61 ∷ []

-- `shape=`
abbrev pub shape_key : List ℕ
shape_key = 115 ∷ 104 ∷ 97 ∷ 112 ∷ 101 ∷ 61 ∷ []

-- `amp=`
abbrev pub amp_key : List ℕ
amp_key = 97 ∷ 109 ∷ 112 ∷ 61 ∷ []

-- `width=`
abbrev pub width_key : List ℕ
width_key = 119 ∷ 105 ∷ 100 ∷ 116 ∷ 104 ∷ 61 ∷ []

-- `plateau=`
abbrev pub plateau_key : List ℕ
plateau_key = 112 ∷ 108 ∷ 97 ∷ 116 ∷ 101 ∷ 97 ∷ 117 ∷ 61 ∷ []

-- `drag=`
abbrev pub drag_key : List ℕ
drag_key = 100 ∷ 114 ∷ 97 ∷ 103 ∷ 61 ∷ []

-- `freq=`
abbrev pub freq_key : List ℕ
freq_key = 102 ∷ 114 ∷ 101 ∷ 113 ∷ 61 ∷ []

-- `phase=`
abbrev pub phase_key : List ℕ
phase_key = 112 ∷ 104 ∷ 97 ∷ 115 ∷ 101 ∷ 61 ∷ []

-- `flex=`
abbrev pub flex_key : List ℕ
flex_key = 102 ∷ 108 ∷ 101 ∷ 120 ∷ 61 ∷ []

-- `start=`
abbrev pub start_key : List ℕ
start_key = 115 ∷ 116 ∷ 97 ∷ 114 ∷ 116 ∷ 61 ∷ []

-- `span=`
abbrev pub span_key : List ℕ
span_key = 115 ∷ 112 ∷ 97 ∷ 110 ∷ 61 ∷ []

-- `a=`
abbrev pub a_key : List ℕ
a_key = 97 ∷ 61 ∷ []

-- `b=`
abbrev pub b_key : List ℕ
b_key = 98 ∷ 61 ∷ []

-- `amp_tol=`
abbrev pub amp_tol_key : List ℕ
amp_tol_key = 97 ∷ 109 ∷ 112 ∷ 95 ∷ 116 ∷ 111 ∷ 108 ∷ 61 ∷ []

-- `time_tol=`
abbrev pub time_tol_key : List ℕ
time_tol_key = 116 ∷ 105 ∷ 109 ∷ 101 ∷ 95 ∷ 116 ∷ 111 ∷ 108 ∷ 61 ∷ []

-- `oversize=`
abbrev pub oversize_key : List ℕ
oversize_key = 111 ∷ 118 ∷ 101 ∷ 114 ∷ 115 ∷ 105 ∷ 122 ∷ 101 ∷ 61 ∷ []

-- `base=`
abbrev pub base_key : List ℕ
base_key = 98 ∷ 97 ∷ 115 ∷ 101 ∷ 61 ∷ []

-- `delta=`
abbrev pub delta_key : List ℕ
delta_key = 100 ∷ 101 ∷ 108 ∷ 116 ∷ 97 ∷ 61 ∷ []

-- `rate=`
abbrev pub rate_key : List ℕ
rate_key = 114 ∷ 97 ∷ 116 ∷ 101 ∷ 61 ∷ []

-- `delay=`
abbrev pub delay_key : List ℕ
delay_key = 100 ∷ 101 ∷ 108 ∷ 97 ∷ 121 ∷ 61 ∷ []

-- `level=`
abbrev pub level_key : List ℕ
level_key = 108 ∷ 101 ∷ 118 ∷ 101 ∷ 108 ∷ 61 ∷ []

-- `degree=`
abbrev pub degree_key : List ℕ
degree_key = 100 ∷ 101 ∷ 103 ∷ 114 ∷ 101 ∷ 101 ∷ 61 ∷ []

-- `controls=`
abbrev pub controls_key : List ℕ
controls_key = 99 ∷ 111 ∷ 110 ∷ 116 ∷ 114 ∷ 111 ∷ 108 ∷ 115 ∷ 61 ∷ []

-- `knots=`
abbrev pub knots_key : List ℕ
knots_key = 107 ∷ 110 ∷ 111 ∷ 116 ∷ 115 ∷ 61 ∷ []
