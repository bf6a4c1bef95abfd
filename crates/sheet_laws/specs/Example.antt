-- Document 01, "The sheet": its example, line by line, as data, as it is printed, and with its columns in the other order. Definitions only.
use Rattle.std.specs.Prelude.{ℕ, List, [], ◌∷◌, ◌++◌}
use Rattle.naming.specs.Name.{named}
use Rattle.naming.specs.declared.Name.{Name}
use Rattle.sheet.specs.Sheet.{Sheet}

-- ---- the lines

-- `channels=2`
unfoldable pub channels_2 : List ℕ
channels_2 = 99 ∷ 104 ∷ 97 ∷ 110 ∷ 110 ∷ 101 ∷ 108 ∷ 115 ∷ 61 ∷ 50 ∷ 10 ∷ []

-- `column=q10`
unfoldable pub column-q10 : List ℕ
column-q10 = 99 ∷ 111 ∷ 108 ∷ 117 ∷ 109 ∷ 110 ∷ 61 ∷ 113 ∷ 49 ∷ 48 ∷ 10 ∷ []

-- `column=q2`
unfoldable pub column-q2 : List ℕ
column-q2 = 99 ∷ 111 ∷ 108 ∷ 117 ∷ 109 ∷ 110 ∷ 61 ∷ 113 ∷ 50 ∷ 10 ∷ []

-- `row=q10`
unfoldable pub row-q10 : List ℕ
row-q10 = 114 ∷ 111 ∷ 119 ∷ 61 ∷ 113 ∷ 49 ∷ 48 ∷ 10 ∷ []

-- `row=q2`
unfoldable pub row-q2 : List ℕ
row-q2 = 114 ∷ 111 ∷ 119 ∷ 61 ∷ 113 ∷ 50 ∷ 10 ∷ []

-- `factor=3fb999999999999a`
unfoldable pub factor-tenth : List ℕ
factor-tenth = 102 ∷ 97 ∷ 99 ∷ 116 ∷ 111 ∷ 114 ∷ 61 ∷ 51 ∷ 102 ∷ 98 ∷ 57 ∷ 57 ∷ 57 ∷ 57 ∷ 57 ∷ 57 ∷ 57 ∷ 57 ∷ 57 ∷ 57 ∷ 57 ∷ 57 ∷ 97 ∷ 10 ∷ []

-- `factor=3ff0000000000000`
unfoldable pub factor-one : List ℕ
factor-one = 102 ∷ 97 ∷ 99 ∷ 116 ∷ 111 ∷ 114 ∷ 61 ∷ 51 ∷ 102 ∷ 102 ∷ 48 ∷ 48 ∷ 48 ∷ 48 ∷ 48 ∷ 48 ∷ 48 ∷ 48 ∷ 48 ∷ 48 ∷ 48 ∷ 48 ∷ 48 ∷ 10 ∷ []

-- `factor=0000000000000000`
unfoldable pub factor-zero : List ℕ
factor-zero = 102 ∷ 97 ∷ 99 ∷ 116 ∷ 111 ∷ 114 ∷ 61 ∷ 48 ∷ 48 ∷ 48 ∷ 48 ∷ 48 ∷ 48 ∷ 48 ∷ 48 ∷ 48 ∷ 48 ∷ 48 ∷ 48 ∷ 48 ∷ 48 ∷ 48 ∷ 48 ∷ 10 ∷ []

-- ---- the texts

-- the example
unfoldable pub example_text : List ℕ
example_text = channels_2 ++ column-q10 ++ column-q2 ++ row-q2 ++ factor-tenth ++ factor-one ++ row-q10 ++ factor-one ++ factor-zero

-- what is printed for it: "lines 1 to 3, then 7 to 9, then 4 to 6, unchanged"
unfoldable pub printed_text : List ℕ
printed_text = channels_2 ++ column-q10 ++ column-q2 ++ row-q10 ++ factor-one ++ factor-zero ++ row-q2 ++ factor-tenth ++ factor-one

-- the same factors with q2 before q10, as another sorting would have it
unfoldable pub sorted_text : List ℕ
sorted_text = channels_2 ++ column-q2 ++ column-q10 ++ row-q2 ++ factor-one ++ factor-tenth ++ row-q10 ++ factor-zero ++ factor-one

-- ---- the sheets

unfoldable pub q10 : Name
q10 = named (113 ∷ 49 ∷ 48 ∷ [])

unfoldable pub q2 : Name
q2 = named (113 ∷ 50 ∷ [])

-- 0.1, 1 and 0
unfoldable pub tenth : ℕ
tenth = 0x3fb999999999999a

unfoldable pub one : ℕ
one = 0x3ff0000000000000

unfoldable pub example : Sheet
example =
    record {
      columns = q10 ∷ q2 ∷ [];
      blocks = record { row = q2; factors = tenth ∷ one ∷ [] } ∷ record { row = q10; factors = one ∷ 0 ∷ [] } ∷ [];
    }

unfoldable pub sorted : Sheet
sorted =
    record {
      columns = q2 ∷ q10 ∷ [];
      blocks = record { row = q2; factors = one ∷ tenth ∷ [] } ∷ record { row = q10; factors = 0 ∷ one ∷ [] } ∷ [];
    }
