-- Document 01, "Oscillators": what each command does to a channel's three numbers at the time t. Each operation rounds once; each number worked out is judged. Definitions only.
use Rattle.quant.specs.Refusal.{Answer, refuse}
use Rattle.std.specs.Prelude.{Bool, true, false, ◌&&◌, cond, Float, Ok}
use Rattle.std.specs.Float.{binary64}
use Rattle.std.specs.Float.Ieee.{add, sub, mul, neg}
use Rattle.std.specs.Float.Ieee.Scale.{finite}
use Rattle.quant.specs.declared.refusal.Refusal.TheVariants.{NotFinite}
use Rattle.executor.specs.declared.osc.OscState.{OscState}
use Rattle.executor.specs.declared.osc.Moved.{Moved}
use Rattle.executor.specs.declared.osc.Swapped.{Swapped}

-- total = base + delta
abbrev pub total_of : OscState → Float
total_of s = add binary64 s.base.0 s.delta.0

-- phase + total*t
abbrev pub phase_at : OscState → Float → Float
phase_at s t = add binary64 s.phase.0 (mul binary64 (total_of s) t)

-- the same frequencies and another phase; the same base, another delta and another phase
abbrev pub with_phase : OscState → Float → OscState
with_phase s p = record { base = s.base; delta = s.delta; phase = record { 0 = p } }

abbrev pub with_both : OscState → Float → Float → OscState
with_both s d p = record { base = s.base; delta = record { 0 = d }; phase = record { 0 = p } }

-- the state after, where all is finite; else the state that came, refused
abbrev pub moved : OscState → Bool → OscState → Moved
moved s true after = record { refused = false; osc = after }
moved s false after = record { refused = true; osc = s }

-- ShiftPhase(p): phase + p
abbrev pub shifted_phase : OscState → Float → Moved
shifted_phase s p = moved s (finite (add binary64 s.phase.0 p)) (with_phase s (add binary64 s.phase.0 p))

-- SetPhase(p): p - delta*t
abbrev pub turn_by : OscState → Float → Float
turn_by s t = mul binary64 s.delta.0 t

abbrev pub set_phase_to : OscState → Float → Float → Moved
set_phase_to s p t =
    moved s (finite (turn_by s t) && finite (sub binary64 p (turn_by s t))) (with_phase s (sub binary64 p (turn_by s t)))

-- a delta that changes by d takes (-d)*t into the phase
abbrev pub taken_back : Float → Float → Float
taken_back d t = mul binary64 (neg d) t

abbrev pub retuned : OscState → Float → Float → Float → Moved
retuned s d x delta =
    moved s (finite d && finite x && finite (add binary64 s.phase.0 x)) (with_both s delta (add binary64 s.phase.0 x))

-- ShiftFreq(f): phase + (-f)*t, delta + f
abbrev pub shifted_freq : OscState → Float → Float → Moved
shifted_freq s f t = retuned s (add binary64 s.delta.0 f) (taken_back f t) (add binary64 s.delta.0 f)

-- SetFreq(f): d = f - delta; phase + (-d)*t, delta = f
abbrev pub set_freq_to : OscState → Float → Float → Moved
set_freq_to s f t = retuned s (sub binary64 f s.delta.0) (taken_back (sub binary64 f s.delta.0) t) f

-- SwapPhase: d = total1 - total2; phase1' = phase2 - d*t, phase2' = phase1 + d*t
abbrev pub ahead : OscState → OscState → Float
ahead s o = sub binary64 (total_of s) (total_of o)

abbrev pub swapped : OscState → OscState → Bool → Float → Float → Swapped
swapped s o true p q = record { refused = false; one = with_phase s p; two = with_phase o q }
swapped s o false p q = record { refused = true; one = s; two = o }

-- x is d*t, and fine says whether all up to there is finite
abbrev pub swapped_by : OscState → OscState → Bool → Float → Swapped
swapped_by s o fine x =
    swapped s o (fine && finite (sub binary64 o.phase.0 x) && finite (add binary64 s.phase.0 x)) (sub binary64 o.phase.0 x) (add binary64 s.phase.0 x)

abbrev pub swapped_phases : OscState → OscState → Float → Swapped
swapped_phases s o t =
    swapped_by s o (finite (total_of s) && finite (total_of o) && finite (ahead s o) && finite (mul binary64 (ahead s o) t)) (mul binary64 (ahead s o) t)

-- ---- what both answer: refused, 8
abbrev pub moved_answer : Moved → Answer
moved_answer m = cond m.refused (refuse NotFinite 0) (Ok 0)

abbrev pub swapped_answer : Swapped → Answer
swapped_answer w = cond w.refused (refuse NotFinite 0) (Ok 0)
