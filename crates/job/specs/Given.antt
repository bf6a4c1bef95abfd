-- Going on with what a field says, where it says it; else the answer is `bad`. Definitions only.
use Rattle.std.specs.Prelude.{ℕ, Bool, List, [], ℤ, Float, get_or, Option, Some, None}
use Rattle.naming.specs.declared.Name.{Name}

-- word k of a line's words, from 0
abbrev pub word : List (List ℕ) → ℕ → List ℕ
word words k = get_or words k []

abbrev pub name : {A : Type 0} → A → Option Name → (Name → A) → A
name bad (Some n) f = f n
name bad None f = bad

abbrev pub shape : {A : Type 0} → A → Option (Option Name) → (Option Name → A) → A
shape bad (Some n) f = f n
shape bad None f = bad

abbrev pub number : {A : Type 0} → A → Option Float → (Float → A) → A
number bad (Some x) f = f x
number bad None f = bad

abbrev pub both : {A : Type 0} → A → Option (Float × Float) → (Float → Float → A) → A
both bad (Some p) f = f p.0 p.1
both bad None f = bad

abbrev pub flag : {A : Type 0} → A → Option Bool → (Bool → A) → A
flag bad (Some t) f = f t
flag bad None f = bad

abbrev pub whole : {A : Type 0} → A → Option ℕ → (ℕ → A) → A
whole bad (Some n) f = f n
whole bad None f = bad

abbrev pub level : {A : Type 0} → A → Option ℤ → (ℤ → A) → A
level bad (Some z) f = f z
level bad None f = bad
