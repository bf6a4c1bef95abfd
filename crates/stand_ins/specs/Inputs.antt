-- The inputs that the other calls are tried on. Definitions only.
use Rattle.std.specs.Prelude.{ℕ, true, false, List, [], ◌∷◌, map, pos, Float, take, replicate}
use Rattle.exact.specs.Doubles.{nought}
use Rattle.naming.specs.declared.Name.{Name}
use Rattle.quant.specs.declared.complex.Complex.{Complex}
use Rattle.pulse.specs.declared.list.Pulse.{Pulse}
use Rattle.pulse.specs.declared.envelope.Shape.TheVariants.{Plain, Hann}
use Rattle.pulse.specs.Bin.{no_numbers}
use Rattle.tables.specs.Tables.{at_rest, no_name, fresh}
use Rattle.merge.specs.declared.taking.Taking.{Taking}
use Rattle.sheet.specs.Sheet.{sheet_text}
use Rattle.bench_table.specs.Numbers.{over, whole}
use Rattle.bench_table.specs.Call.{channel, clock, bin_with, pulse_at, no_crosstalk}
use Rattle.stand_ins.specs.Whole.{tables_of, holding, rising, barrier, mixer-offsets, fir-numbers}
use Rattle.stand_ins.specs.ByValue.{Pointing, Timed, Clocked, Turning, Swapping, Weighing, Curve, Bent, Pulsed, Bending, Knotted, Looking, Planning, Verdict}
use Rattle.stand_ins.specs.Buffers.{Step, Tapped, Plateau, Envelope, Part, Bends, Laying, Summing, gathered_for, Mixing, Owning}
use Rattle.stand_ins.specs.Texts.{Place, Field, Fields, Sheet, Printing, Answering, Behind}

-- ---- by value: time 0 at rate 1 and level 0, an oscillator at rest, amplitude 1, a width of 1 at an offset of 0.5

abbrev pub timed : Timed
timed = record { time = whole 0; rate = whole 1; level = pos 0 }

abbrev pub clocked : Clocked
clocked = record { rate = record { 0 = whole 1 }; delay = record { 0 = whole 0 }; level = pos 0 }

abbrev pub turning : Turning
turning = record { osc = at_rest; number = whole 0; time = whole 0 }

abbrev pub swapping : Swapping
swapping = record { one = at_rest; two = at_rest; time = whole 0 }

abbrev pub weighing : Weighing
weighing = record { amplitude = whole 1; phase = whole 0; drag = whole 0 }

abbrev pub curve : Curve
curve = record { width = whole 1; plateau = whole 0; offset = over 5 10; rate = whole 1; dt = whole 1; room = 1 }

abbrev pub bent : Bent
bent = record { shape = Hann; numbers = no_numbers; curve = curve }

abbrev pub pulsed : Pulsed
pulsed = record { settings = clock (pos 0); bin = bin_with Plain (whole 0) (whole 1); numbers = no_numbers; pulse = pulse_at (whole 0); len = 1 }

abbrev pub looking : Looking
looking = record { tables = tables_of 0 0; name = channel }

-- the spline at x; a degree of 0, with one control and two knots
abbrev pub bending : Float → Bending
bending x = record { row = rising; at = x }

abbrev pub knotted : Knotted
knotted = record { degree = 0; controls = 1; knots = whole 0 ∷ whole 1 ∷ [] }

-- tables with the one shape `q`
abbrev pub shape-looking : Looking
shape-looking =
    record {
      tables =
          record {
            amp = record { 0 = whole 0 };
            time = record { 0 = whole 0 };
            oversize = false;
            channels = replicate 8 (fresh no_name at_rest);
            count = 0;
            shapes = channel ∷ replicate 7 no_name;
            named = 1;
          };
      name = channel;
    }

abbrev pub planning : Planning
planning = record { tables = tables_of 0 0; channel = channel; cross = no_crosstalk; factors = [] }

abbrev pub fine : Verdict
fine = record { fits = true; fine = true }

-- ---- texts

-- `0000000000000000`, and with a blank before it
abbrev pub sixteen-digits : List ℕ
sixteen-digits = replicate 16 48

abbrev pub blank-digits : List ℕ
blank-digits = 32 ∷ sixteen-digits

-- at the first place of a text
abbrev pub first : List ℕ → Place
first text = record { text = text; at = 0 }

-- `1`, `q`, `1 1`, `run`
abbrev pub one-text : List ℕ
one-text = 49 ∷ []

abbrev pub q-text : List ℕ
q-text = 113 ∷ []

abbrev pub two-ones : List ℕ
two-ones = 49 ∷ 32 ∷ 49 ∷ []

abbrev pub run-text : List ℕ
run-text = 114 ∷ 117 ∷ 110 ∷ []

-- a line's first word, with no key before its value
abbrev pub bare : List ℕ → Field
bare line = record { line = line; k = 0; key = [] }

abbrev pub bare-two : Fields
bare-two = record { line = two-ones; k = 0; first = []; l = 1; second = [] }

-- the numbers of a line, for a buffer of two
abbrev pub listing : List ℕ → List ℕ × ℕ × List Float
listing line = (line, 0, replicate 2 nought)

-- `x ch=q 1 start=0 span=0`, with no key before the third word's number
abbrev pub turn-line : Field
turn-line =
    record {
      line =
          120 ∷ 32 ∷ 99 ∷ 104 ∷ 61 ∷ 113 ∷ 32 ∷ 49 ∷ 32 ∷ 115 ∷ 116 ∷ 97 ∷ 114 ∷ 116 ∷ 61 ∷ 48 ∷ 32 ∷ 115 ∷ 112 ∷ 97 ∷ 110 ∷ 61 ∷ 48 ∷ [];
      k = 0;
      key = [];
    }

-- ---- sheets: of `q`, or of `q` and `r`, with every factor 0.0

abbrev pub names : List Name
names = channel ∷ record { first = 0x72; second = 0; len = 1 } ∷ []

abbrev pub sheet-text : ℕ → List ℕ
sheet-text n =
    let columns = take n names in
    sheet_text (record { columns = columns; blocks = map (λ (m : Name). record { row = m; factors = replicate n 0 }) columns })

abbrev pub sheet : ℕ → Sheet
sheet n = record { text = sheet-text n; matrix = replicate 64 nought }

abbrev pub printing : ℕ → Printing
printing n = record { count = n; names = channel ∷ record { first = 0x72; second = 0; len = 1 } ∷ replicate 6 no_name; matrix = replicate 4 nought; out = replicate 256 0 }

abbrev pub answering : ℕ → Answering
answering n = record { text = sheet-text n; out = replicate 4096 0 }

-- four lines behind a job's line
abbrev pub sheet-behind : Behind
sheet-behind = record { text = sheet-text 1; count = 4; cross = record { count = 0; names = replicate 8 no_name }; factors = replicate 64 nought }

-- ---- rows of one sample each, which holds x: the steps over the C border give twice the sample

abbrev pub stepping : List Float → ℕ → Step
stepping numbers x = record { rows = 2; i = whole x ∷ []; q = whole x ∷ []; numbers = numbers; offsets = mixer-offsets }

-- one row, and a tap of 2
abbrev pub tapped : ℕ → Tapped
tapped x = record { row = whole x ∷ []; taps = fir-numbers }

-- one sample of a carrier 1 + i; an envelope of one point, 1, over it
abbrev pub unit : Complex
unit = record { re = whole 1; im = whole 0 }

abbrev pub ahead : Complex
ahead = record { re = whole 1; im = whole 1 }

abbrev pub plateau : ℕ → Plateau
plateau x = record { rows = 2; i = whole x ∷ []; q = whole x ∷ []; start = 0; count = 1; carrier = ahead; rotation = unit }

abbrev pub enveloped : ℕ → Envelope
enveloped x =
    record {
      rows = 2;
      i = whole x ∷ [];
      q = whole x ∷ [];
      start = 0;
      points = whole 1 ∷ [];
      amp = ahead;
      drag = record { re = whole 0; im = whole 0 };
      carrier = unit;
      rotation = unit;
    }

-- points 1 apart from 0 on; a part of one sample, 0, for the points from x on
abbrev pub pointing : ℕ → Pointing
pointing i = record { start = whole 0; step = whole 1; index = i }

abbrev pub parting : Float → Part
parting x = record { part = whole 0 ∷ []; start = x; step = whole 1 }

-- a part of the one point x
abbrev pub bends : Float → Bends
bends x = record { part = x ∷ []; row = rising }

-- a scratch of one sample
abbrev pub laying : Laying
laying = record { bent = bent; scratch = whole 0 ∷ [] }

-- ---- the list of `q` takes part, with the factor 1: its bins, and its pulses summed

abbrev pub taking : Taking
taking = record { count = 1; places = replicate 8 0; factors = whole 1 ∷ replicate 7 (whole 0) }

abbrev pub summing : List (List Float) → List Pulse → Summing
summing bins pulses =
    let s = holding (whole 0) bins pulses in
    record { tables = s.tables; taking = taking; pulses = s.pulses; work = s.work; marks = s.marks }

abbrev pub mixing : ℕ → List (List Float) → List Pulse → Mixing
mixing x bins pulses =
    let s = holding (whole x) bins pulses in
    let g = gathered_for (summing bins pulses) in
    record {
      settings = clock (pos 0);
      tables = s.tables;
      taking = taking;
      ends = g.ends;
      bins = s.bins;
      work = g.rows;
      marks = g.marks;
      rows = 2;
      lent = s.rows;
    }

-- ---- so many of 1,024 barriers
abbrev pub owning : ℕ → Owning
owning n = record { state = holding (whole 0) [] []; commands = replicate 1024 barrier; count = n }
