-- The law of the whole system. From made tables, beside whatever is lent, through any run of adds, command calls, sampling calls and steps: every
-- call has one answer that its promise allows, and what it leaves, refused or not, is as document 01 says. Call by call. Assumes nothing.
use Rattle.quant.specs.Refusal.{Answer}
use Rattle.std.specs.Prelude.{Ok, Err}
use mathlib.Core.Path.{◌≡◌, sym, subst}
use mathlib.Core.Bool.{Bool, ◌&&◌}
use mathlib.Core.List.{List, [], ◌∷◌}
use lib.Ieee.{Float}
use lib.ListN.{length}
use Rattle.rows.specs.Rows.{all_finite}
use Rattle.mixer.specs.Mixer.{mixer_fits}
use Rattle.fir.specs.Fir.{fir_fits}
use Rattle.tables.specs.declared.Tabled.{Tabled}
use Rattle.tables.specs.Tables.{made}
use Rattle.commands_laws.specs.Sound.{Reached}
use Rattle.commands_laws.specs.Sound as reached
use Rattle.commands_laws.proofs.Sound.{sound}
use Rattle.system.specs.System.{State, Call, make, add-channel, add-shape, add-spline, execute, sample, mixer, iir, fir, Event, calls, lends, with_tables, with_lent, adopted, remade, mixer_step, fir_step, outcome}
use Rattle.system.specs.Said.{AsSaid, Holds, EveryCall}
use Rattle.system.proofs.Promised.{answered, only}
use Rattle.system.proofs.Adds.{make-said, channel-said, shape-said, spline-said}
use Rattle.system.proofs.Steps.{step-said, iir-said}
use Rattle.system.proofs.Commands.{commands-said}
use Rattle.system.proofs.Sampling.{sample-said}

-- ---- one call, from any state: whatever its tables, bins and pulses hold, and of whatever size

said : (s : State) (c : Call) → AsSaid s c (outcome s c)
unfolding AsSaid outcome
said s (make amp time oversize) = make-said s amp time oversize
said s (add-channel n osc) = channel-said s n osc
said s (add-shape n) = shape-said s n
said s (add-spline n p c t) = spline-said s n p c t
said s (execute commands) = commands-said s commands
said s (sample r c factors) = sample-said s r c factors
said s (mixer n m o) = let x = mixer_step s.rows n m o in step-said s x.i x.q (mixer_fits n (length s.rows.i) (length s.rows.q) (length m) (length o)) (all_finite m && all_finite o)
said s (iir n sections) = iir-said s n sections
said s (fir n taps) = let x = fir_step s.rows n taps in step-said s x.i x.q (fir_fits n (length s.rows.i) (length s.rows.q) (length taps)) (all_finite taps)

pub holds : (s : State) (c : Call) → Holds s c
holds s c = record { answered = answered s c; only = only s c; said = said s c }

-- ---- what is reached

abbrev Known : State → Type 0
Known s = Reached s.tables s.splines s.bins s.pulses

-- tables made anew, or, refused, those before
remade-known : (s : State) (x : Tabled) → Known s → Reached x.tables s.splines s.bins s.pulses → Known (remade s x).after
remade-known s x old new = by x.answer
  where
    by : (a : Answer) → Known (adopted a s (with_tables s x.tables))
    by (Ok k) = new
    by (Err e) = old

-- making and adding write to the tables, adding a shape to the shapes' rows too, command calls to the tables, the bins and the pulses, and no other
-- call to any of these
next : (s : State) (c : Call) → Known s → Known (outcome s c).after
unfolding outcome
next s (make amp time oversize) h =
    let known = sound s.tables s.splines s.bins s.pulses h in
    remade-known s (made amp time oversize) h (reached.start amp time oversize s.splines s.bins s.pulses known.rows known.records)
next s (add-channel n osc) h = reached.channel s.tables s.splines s.bins s.pulses n osc h
next s (add-shape n) h = reached.shape s.tables s.splines s.bins s.pulses n h
next s (add-spline n p c t) h = reached.spline s.tables s.splines s.bins s.pulses n p c t h
next s (execute commands) h = reached.call s.tables s.splines s.bins s.pulses commands h
next s (sample r c factors) h = h
next s (mixer n m o) h = h
next s (iir n sections) h = h
next s (fir n taps) h = h

-- ---- any run

one_more : (s : State) (c : Call) (more : List Event) → Known (outcome s c).after → EveryCall (outcome s c).after more → EveryCall s (calls c ∷ more)
unfolding EveryCall
one_more s c more h later = let u = (outcome s c).after in (holds s c, sound u.tables u.splines u.bins u.pulses h, later)

every_call : (s : State) (events : List Event) → Known s → EveryCall s events
unfolding EveryCall
every_call s [] h = tt
every_call s (calls c ∷ more) h = let k = next s c h in one_more s c more k (every_call (outcome s c).after more k)
every_call s (lends rows work marks ∷ more) h = every_call (with_lent s rows work marks) more h

-- "64 bins and 1,024 stored pulses a channel", of 8 channels, with whatever in them; all else that is lent may have any size. The first tables are made:
-- of tolerances that fit (else the caller has no tables yet).
pub whole : (amp time : Float) (oversize : Bool) (lent : State) (events : List Event) → (made amp time oversize).answer ≡ Ok 0 → length lent.bins ≡ 512
    → length lent.pulses ≡ 8192 → EveryCall lent (calls (make amp time oversize) ∷ events)
unfolding outcome
whole amp time oversize lent events fit rows records =
    let start = reached.start amp time oversize lent.splines lent.bins lent.pulses rows records in
    let c = make amp time oversize in
    let after : Known (outcome lent c).after = subst (λ (a : Answer). Known (adopted a lent (with_tables lent (made amp time oversize).tables))) (sym fit) start in
    one_more lent c events after (every_call (outcome lent c).after events after)
