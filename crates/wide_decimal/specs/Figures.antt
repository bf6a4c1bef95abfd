-- Figures as a whole number, of whatever length. Definitions only.
use Rattle.std.specs.Prelude.{ℕ, suc, ◌+◌, ◌-◌, ◌*◌, ◌&&◌, cond, List, [], ◌∷◌, ◌++◌, leb, take, drop}

-- what a byte is worth: `0` (48) to `9` (57) what they say, any other byte nothing
unfoldable pub figure_of : ℕ → ℕ
figure_of b = cond (leb 48 b && leb b 57) (b - 48) 0

-- the whole number that figures stand for behind those of n
unfoldable pub worth_from : ℕ → List ℕ → ℕ
worth_from n [] = n
worth_from n (b ∷ bs) = worth_from (n * 10 + figure_of b) bs

abbrev pub worth : List ℕ → ℕ
worth figures = worth_from 0 figures

-- a text without the byte at a place, its point; all of it where it has none there
unfoldable pub without : ℕ → List ℕ → List ℕ
without p text = take p text ++ drop (suc p) text
