-- Document 01, "Lists and merging": "bins stand in order of first push, pulses by time, stably". The records of a channel lie one after
-- the other in a lent slice, by bin and then by time, equal times in order of pushing. Definitions only.
use Rattle.std.specs.Prelude.{ℕ, ◌+◌, Bool, false, ◌&&◌, ◌||◌, cond, List, [], ◌∷◌, ◌++◌, ltb, eqb, length, take, drop}
use Rattle.std.specs.Float.Ieee.{le}
use Rattle.pulse.specs.declared.list.Pulse.{Pulse}

-- whether q, pushed earlier, stays before p
abbrev pub stays_before : Pulse → Pulse → Bool
stays_before q p = ltb q.bin p.bin || (eqb q.bin p.bin && le q.time.0 p.time.0)

-- whether any of some records stays before p
unfoldable pub any_before : List Pulse → Pulse → Bool
any_before [] p = false
any_before (q ∷ qs) p = stays_before q p || any_before qs p

-- p behind the last that stays before it
unfoldable pub placed : Pulse → List Pulse → List Pulse
placed p [] = p ∷ []
placed p (q ∷ qs) = cond (any_before (q ∷ qs) p) (q ∷ placed p qs) (p ∷ q ∷ qs)

-- p among the `count` records from `from` on; the record after them gives way
unfoldable pub among : ℕ → ℕ → Pulse → List Pulse → List Pulse
among from count p s = take from s ++ (placed p (take count (drop from s)) ++ drop (from + count + 1) s)

-- with room for it; without, the records as they are
unfoldable pub stored : ℕ → ℕ → Pulse → List Pulse → List Pulse
stored from count p s = cond (ltb (from + count) (length s)) (among from count p s) s
