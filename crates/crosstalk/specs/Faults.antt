-- The words in which it is said which name of a crosstalk is at fault. Definitions only.
use Rattle.std.specs.Prelude.{ℕ, ◌+◌, ◌<◌, ◌≡◌, List, length, get_or, None}
use Rattle.naming.specs.declared.Name.{Name}
use Rattle.quant.specs.declared.refusal.Refusal.{Refusal}
use Rattle.quant.specs.declared.refusal.Refusal.TheVariants.{DoubledName, NoList}
use Rattle.tables.specs.declared.Tables.{Tables}
use Rattle.tables.specs.Tables.{no_name, found}

-- the name at a place, from 0
abbrev pub name_at : List Name → ℕ → Name
name_at ns i = get_or ns i no_name

-- the name at place i stands at an earlier place too
pub record StoodBefore (ns : List Name) (i : ℕ) : Type 0 where
  pub first : ℕ
  pub earlier : first < i
  pub same : name_at ns first ≡ name_at ns i

-- the name at place i is at fault, and how: it stood before (17); it did not, and no channel has it (18)
pub data AtFault (t : Tables) (ns : List Name) (i : ℕ) : Refusal → Type 0 where
  doubled : StoodBefore ns i → AtFault t ns i DoubledName
  no-list : (StoodBefore ns i → ⊥) → found t (name_at ns i) ≡ None → AtFault t ns i NoList

-- no name before place i is at fault
abbrev pub NoneBefore : Tables → List Name → ℕ → Type 0
NoneBefore t ns i = (j : ℕ) → j < i → (q : Refusal) → AtFault t ns j q → ⊥

-- the first name at fault, by its position from 1
pub record FirstAtFault (t : Tables) (ns : List Name) (r : Refusal) (position : ℕ) : Type 0 where
  pub place : ℕ
  pub there : place < length ns
  pub from_1 : position ≡ place + 1
  pub fault : AtFault t ns place r
  pub none_before : NoneBefore t ns place
