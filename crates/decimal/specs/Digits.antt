-- Digits: where a byte parts a text, and the whole number that digits stand for. Definitions only.
use Rattle.std.specs.Prelude.{ℕ, suc, ◌+◌, ◌-◌, ◌*◌, ◌&&◌, cond, List, [], ◌∷◌, eqb, leb, ltb, length, Option, Some, None}

-- where a byte first stands; the length where it does not
unfoldable pub place_of : ℕ → List ℕ → ℕ
place_of b [] = 0
place_of b (x ∷ xs) = cond (eqb x b) 0 (suc (place_of b xs))

-- what a digit is worth: `0` (48) to `9` (57), `a` (97) to `f` (102) and `A` (65) to `F` (70); 16 for any other byte
unfoldable pub digit_of : ℕ → ℕ
digit_of b = cond (leb 48 b && leb b 57) (b - 48) (cond (leb 97 b && leb b 102) (b - 87) (cond (leb 65 b && leb b 70) (b - 55) 16))

-- the whole number that digits of a base stand for behind those of n
unfoldable pub digits_from : ℕ → ℕ → List ℕ → Option ℕ
digits_from base n [] = Some n
digits_from base n (b ∷ bs) = cond (ltb (digit_of b) base) (digits_from base (n * base + digit_of b) bs) None

-- a whole number of 1 to 15 figures
unfoldable pub digits_of : List ℕ → Option ℕ
digits_of text = cond (leb 1 (length text) && leb (length text) 15) (digits_from 10 0 text) None
