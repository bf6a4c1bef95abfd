-- What a word says behind its key: a number, a whole number, a name, a shape, a flag, a level. Definitions only.
use Rattle.std.specs.Prelude.{ℕ, Bool, true, false, cond, List, [], ◌∷◌, eqb, leb, pos, neg_ℤ, length, Option, Some, None, Float, ℤ}
use Rattle.decimal.specs.Digits.{digits_of}
use Rattle.decimal.specs.Number.{number_of}
use Rattle.naming.specs.Name.{naming_of}
use Rattle.naming.specs.declared.Name.{Name}
use Rattle.sheet.specs.Sheet.{Behind, value, other, behind, blank}

-- what the value behind a key is read as; `bad` where the word starts otherwise
abbrev pub read_behind : {A : Type 0} → A → (List ℕ → A) → Behind → A
read_behind bad read (value text) = read text
read_behind bad read other = bad

-- ---- numbers

unfoldable pub number_field : List ℕ → List ℕ → Option Float
number_field key word = read_behind None number_of (behind key word)

unfoldable pub whole_field : List ℕ → List ℕ → Option ℕ
whole_field key word = read_behind None digits_of (behind key word)

-- two numbers
abbrev pub both : Option Float → Option Float → Option (Float × Float)
both (Some x) (Some y) = Some (x, y)
both (Some x) None = None
both None y = None

unfoldable pub pair_field : List ℕ → List ℕ → List ℕ → List ℕ → Option (Float × Float)
pair_field first second a b = both (number_field first a) (number_field second b)

-- ---- names

-- the name; of a text that breaks document 01's rule the name of no bytes, which breaks it too and is refused for it
abbrev pub name_by : Option Name → Name
name_by (Some n) = n
name_by None = blank

unfoldable pub name_of : List ℕ → Name
name_of text = name_by (naming_of text)

abbrev pub called_of : List ℕ → Option Name
called_of text = Some (name_of text)

unfoldable pub name_field : List ℕ → List ℕ → Option Name
name_field key word = read_behind None called_of (behind key word)

-- nothing behind the key is no shape
abbrev pub shape_of : List ℕ → Option (Option Name)
shape_of text = Some (cond (eqb (length text) 0) None (Some (name_of text)))

unfoldable pub shape_field : List ℕ → List ℕ → Option (Option Name)
shape_field key word = read_behind None shape_of (behind key word)

-- ---- `0` (48) or `1` (49)

abbrev pub flag_by : ℕ → Option Bool
flag_by b = cond (eqb b 48) (Some false) (cond (eqb b 49) (Some true) None)

unfoldable pub flag_of : List ℕ → Option Bool
flag_of [] = None
flag_of (b ∷ []) = flag_by b
flag_of (b ∷ c ∷ bs) = None

unfoldable pub flag_field : List ℕ → List ℕ → Option Bool
flag_field key word = read_behind None flag_of (behind key word)

-- ---- an optional `-` (45) and 1 to 9 digits

abbrev pub level_by : Bool → Option ℕ → Option ℤ
level_by true (Some n) = Some (neg_ℤ (pos n))
level_by false (Some n) = Some (pos n)
level_by s None = None

unfoldable pub signed : Bool → List ℕ → Option ℤ
signed s text = cond (leb (length text) 9) (level_by s (digits_of text)) None

unfoldable pub level_of : List ℕ → Option ℤ
level_of [] = None
level_of (b ∷ bs) = cond (eqb b 45) (signed true bs) (signed false (b ∷ bs))

unfoldable pub level_field : List ℕ → List ℕ → Option ℤ
level_field key word = read_behind None level_of (behind key word)
