-- Document 01, "Lists and merging": "Walking them, a pulse equal to the kept one's time, or within the tolerance of it, is added to it; the
-- kept time stays the first. A difference that overflows is over the tolerance." Definitions only.
use Rattle.std.specs.Prelude.{Bool, ◌&&◌, ◌||◌, cond, List, [], ◌∷◌, eqb, Float}
use Rattle.std.specs.Float.{binary64}
use Rattle.std.specs.Float.Ieee.{sub, eq, le, neg}
use Rattle.quant.specs.Complex.{plus_c, scaled_c}
use Rattle.pulse.specs.declared.list.Pulse.{Pulse}

-- equal, or within the tolerance of each other
abbrev pub near_to : Float → Float → Float → Bool
near_to tolerance a b = eq a b || (le (neg tolerance) (sub binary64 a b) && le (sub binary64 a b) tolerance)

-- the kept pulse with another added
abbrev pub plus_p : Pulse → Pulse → Pulse
plus_p k p = record { bin = k.bin; time = k.time; amp = plus_c k.amp p.amp; drag = plus_c k.drag p.drag }

-- amp and drag times a factor
abbrev pub scaled_p : Float → Pulse → Pulse
scaled_p f p = record { bin = p.bin; time = p.time; amp = scaled_c p.amp f; drag = scaled_c p.drag f }

-- whether a pulse is added to the kept one: of one bin, by time alone
abbrev pub together : Float → Pulse → Pulse → Bool
together tolerance k p = near_to tolerance k.time.0 p.time.0

-- of a whole list, which stands by bin: in the same bin too
abbrev pub together_in_bin : Float → Pulse → Pulse → Bool
together_in_bin tolerance k p = eqb k.bin p.bin && together tolerance k p

-- the pulses that are kept, where k is the one kept last: each is held against it, not against the newest that was added to it
unfoldable pub kept_from : (Pulse → Pulse → Bool) → Pulse → List Pulse → List Pulse
kept_from falls k [] = k ∷ []
kept_from falls k (p ∷ ps) = cond (falls k p) (kept_from falls (plus_p k p) ps) (k ∷ kept_from falls p ps)

unfoldable pub summed_by : (Pulse → Pulse → Bool) → List Pulse → List Pulse
summed_by falls [] = []
summed_by falls (p ∷ ps) = kept_from falls p ps

-- a channel's list summed, and the joined pulses of one bin summed again
abbrev pub summed : Float → List Pulse → List Pulse
summed tolerance ps = summed_by (together_in_bin tolerance) ps

abbrev pub summed_again : Float → List Pulse → List Pulse
summed_again tolerance ps = summed_by (together tolerance) ps
