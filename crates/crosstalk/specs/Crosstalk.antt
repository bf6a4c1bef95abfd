-- Document 01: "a channel among the names takes its row; factor 0 skips a list"; "A channel not named takes its own list"; and of a
-- sampling call's order 13, 2, 17 and 18, 7. Definitions only.
use Rattle.quant.specs.Refusal.{Answer, refuse}
use Rattle.std.specs.Prelude.{ℕ, suc, ◌+◌, ◌*◌, Bool, true, false, ◌&&◌, cond, List, [], ◌∷◌, ◌++◌, leb, Float, length, take, drop, set, Option, Some, None, Result, Ok, Err}
use Rattle.std.specs.Option.{is_some}
use Rattle.std.specs.Float.Ieee.{eq}
use Rattle.exact.specs.Doubles.{nought, one}
use Rattle.naming.specs.declared.Name.{Name}
use Rattle.quant.specs.declared.refusal.Refusal.{Refusal}
use Rattle.quant.specs.declared.refusal.Refused.{Refused}
use Rattle.quant.specs.declared.refusal.Refusal.TheVariants as why
use Rattle.naming.specs.Name.{is_name, same_name, is_in}
use Rattle.rows.specs.Rows.{all_finite}
use Rattle.tables.specs.declared.Tables.{Tables}
use Rattle.tables.specs.Tables.{found}
use Rattle.merge.specs.declared.taking.Taking.{Taking}
use Rattle.merge.specs.Taking.{Part, part, packed}
use Rattle.crosstalk.specs.declared.names.Crosstalk.{Crosstalk}

-- the names in reading order
abbrev pub names_in : Crosstalk → List Name
names_in c = take c.count c.names

-- ---- 13 and 2

-- "0..8 crosstalk names with N*N factors or more"
abbrev pub cross_fits : ℕ → ℕ → Bool
cross_fits count lent = leb count 8 && leb (count * count) lent

unfoldable pub all_names : List Name → Bool
all_names [] = true
all_names (n ∷ ns) = is_name n && all_names ns

-- good names and finite factors, of the factors that are read
abbrev pub cross_fine : Name → Crosstalk → List Float → Bool
cross_fine channel c read = is_name channel && all_names (names_in c) && all_finite read

-- ---- 17 and 18

abbrev pub is_known : Option ℕ → Bool
is_known at = is_some at

-- Document 02, P2: "17 (doubled), 18 (no list) .., in that order at one name, names taken in reading order". Of the names behind those
-- `before`, the first that stood before or that no channel has, by its position from 1; `Ok 0` where there is none.
unfoldable pub names_judged : Tables → List Name → List Name → Answer
names_judged t before [] = Ok 0
names_judged t before (n ∷ ns) =
    cond (is_in n before) (refuse why.DoubledName (length before + 1))
    (cond (is_known (found t n)) (names_judged t (before ++ n ∷ []) ns) (refuse why.NoList (length before + 1)))

-- ---- the lists that take part

-- where the channel stands among the names, from 0: its row
unfoldable pub row_from : ℕ → Name → List Name → Option ℕ
row_from k n [] = None
row_from k n (m ∷ ms) = cond (same_name m n) (Some k) (row_from (suc k) n ms)

abbrev pub row_of : Name → List Name → Option ℕ
row_of n ns = row_from 0 n ns

-- a channel's list with a factor in front of others; no channel has no list
unfoldable pub part_of : Option ℕ → Float → List Part → List Part
part_of (Some i) f ps = part i f ∷ ps
part_of None f ps = ps

-- a row's factors at the names: either zero skips its list
unfoldable pub row_parts : Tables → List Name → List Float → List Part
row_parts t [] fs = []
row_parts t (n ∷ ns) [] = []
row_parts t (n ∷ ns) (f ∷ fs) = cond (eq f nought) (row_parts t ns fs) (part_of (found t n) f (row_parts t ns fs))

abbrev pub own_parts : Tables → Name → List Part
own_parts t channel = part_of (found t channel) one []

-- row r of N names: factors r*N to r*N + N - 1
abbrev pub row_at : ℕ → ℕ → List Float → List Float
row_at r count factors = take count (drop (r * count) factors)

unfoldable pub parts_at : Tables → Name → Crosstalk → List Float → Option ℕ → List Part
parts_at t channel c factors (Some r) = row_parts t (names_in c) (row_at r c.count factors)
parts_at t channel c factors None = own_parts t channel

abbrev pub parts_for : Tables → Name → Crosstalk → List Float → List Part
parts_for t channel c factors = parts_at t channel c factors (row_of channel (names_in c))

-- one more list behind those that are there
unfoldable pub pushed : Taking → Option ℕ → Float → Taking
pushed k (Some i) f = record { count = k.count + 1; places = set k.places k.count i; factors = set k.factors k.count f }
pushed k None f = k

-- ---- the plan

-- what takes part, or the refusal
abbrev pub Plan : Type 0
Plan = Result Taking Refused

abbrev pub refused_plan : Refusal → ℕ → Plan
refused_plan r place = Err (record { why = r; place = place })

abbrev pub accepted_plan : Taking → Plan
accepted_plan k = Ok k

abbrev pub is_refused : Plan → Bool
is_refused (Ok k) = false
is_refused (Err e) = true

-- refused, no list takes part
abbrev pub taking_of : Plan → Taking
taking_of (Ok k) = k
taking_of (Err e) = packed []

abbrev pub plan_answer : Plan → Answer
plan_answer (Ok k) = Ok 0
plan_answer (Err e) = Err e

-- a plan that is made unless a name is at fault
abbrev pub unless_named : Answer → Plan → Plan
unless_named (Ok n) p = p
unless_named (Err e) p = refused_plan e.why e.place

-- 13, 2, the names, 7
unfoldable pub planned : Tables → Name → Crosstalk → List Float → Plan
planned t channel c factors =
    cond (cross_fits c.count (length factors))
    (cond (cross_fine channel c (take (c.count * c.count) factors))
    (unless_named (names_judged t [] (names_in c))
    (cond (is_known (found t channel)) (accepted_plan (packed (parts_for t channel c factors))) (refused_plan why.UnknownChannel 0)))
    (refused_plan why.Malformed 0))
    (refused_plan why.WrongSize 0)
