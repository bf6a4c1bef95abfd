-- The work rows: summed lists one behind the other, a row of five numbers for each pulse, and beside it the place of its bin. Definitions only.
use Rattle.std.specs.Prelude.{ℕ, zero, suc, ◌+◌, ◌-◌, Bool, ◌&&◌, cond, List, [], ◌∷◌, ◌++◌, map, eqb, Float, length, get_or, take, drop, replicate}
use Rattle.pulse.specs.declared.list.Pulse.{Pulse}
use Rattle.tables.specs.declared.Tables.{Tables}
use Rattle.merge.specs.declared.work.Ends.{Ends}
use Rattle.merge.specs.Taking.{Part, list_of}

-- time, amp and drag
abbrev pub row_of_pulse : Pulse → List Float
row_of_pulse p = p.time.0 ∷ p.amp.re ∷ p.amp.im ∷ p.drag.re ∷ p.drag.im ∷ []

abbrev pub mark_of : Pulse → ℕ
mark_of p = p.bin

-- xs over what lies from `at` on
unfoldable pub over {ℓ} : {A : Type ℓ} → ℕ → List A → List A → List A
over at xs old = take at old ++ (xs ++ drop (at + length xs) old)

-- the work rows, the marks, and where the next list goes
pub record Laid : Type 0 where
  pub rows : List (List Float)
  pub marks : List ℕ
  pub at : ℕ

abbrev pub laid : List (List Float) → List ℕ → ℕ → Laid
laid rows marks at = record { rows = rows; marks = marks; at = at }

-- some pulses from `at` on
abbrev pub laid_on : List Pulse → ℕ → List (List Float) → List ℕ → Laid
laid_on ps at rows marks = laid (over at (map row_of_pulse ps) rows) (over at (map mark_of ps) marks) (at + length ps)

-- the summed lists that take part, in order
abbrev pub lists_of : Tables → List Pulse → List Part → List (List Pulse)
lists_of t pulses parts = map (λ p. list_of t pulses p.place) parts

-- one behind the other
unfoldable pub in_one : List (List Pulse) → List Pulse
in_one [] = []
in_one (l ∷ ls) = l ++ in_one ls

-- where each ends
unfoldable pub ends_from : ℕ → List (List Pulse) → List ℕ
ends_from at [] = []
ends_from at (l ∷ ls) = (at + length l) ∷ ends_from (at + length l) ls

abbrev pub ends_of : List (List Pulse) → Ends
ends_of ls = record { ends = ends_from 0 ls ++ replicate (8 - length ls) 0 }

-- where list k begins: where the one before it ends
abbrev pub begin_of : Ends → ℕ → ℕ
begin_of e zero = 0
begin_of e (suc k) = get_or e.ends k 0

abbrev pub no_ends : Ends
no_ends = record { ends = replicate 8 0 }

-- 1,024 records, rows and marks for each of eight lists
abbrev pub sizes_fit : ℕ → ℕ → ℕ → Bool
sizes_fit pulses rows marks = eqb pulses 8192 && eqb rows 8192 && eqb marks 8192

pub record Gathered : Type 0 where
  pub rows : List (List Float)
  pub marks : List ℕ
  pub ends : Ends

abbrev pub gathered : List (List Float) → List ℕ → Ends → Gathered
gathered rows marks ends = record { rows = rows; marks = marks; ends = ends }

-- all of them from the first row on; with another size nothing is written
abbrev pub gathered_of : Tables → List Part → List Pulse → List (List Float) → List ℕ → Gathered
gathered_of t parts pulses rows marks =
    let ls = lists_of t pulses parts in
    cond (sizes_fit (length pulses) (length rows) (length marks))
    (gathered (over 0 (map row_of_pulse (in_one ls)) rows) (over 0 (map mark_of (in_one ls)) marks) (ends_of ls))
    (gathered rows marks no_ends)
