-- A 64-bit word as 16 lowercase hex digits, the most significant first: what a text says, and what is written. Assumes nothing.
use Rattle.std.specs.Prelude.{ℕ, zero, suc, ◌+◌, ◌-◌, ◌*◌, ◌/◌, ◌%◌, ◌^◌, ◌≡◌, Bool, true, ◌&&◌, cond, List, [], ◌∷◌, ◌++◌, leb, ltb, length, take, drop, Option, Some, None}

-- what a byte is worth as a digit: `0` to `9` (48 to 57) and `a` to `f` (97 to 102); 16 for any other byte
unfoldable pub digit_value : ℕ → ℕ
digit_value b = cond (leb 48 b && leb b 57) (b - 48) (cond (leb 97 b && leb b 102) (b - 97 + 10) 16)

-- the digit that is worth n, for an n below 16
unfoldable pub digit_of : ℕ → ℕ
digit_of n = cond (ltb n 10) (48 + n) (97 + (n - 10))

-- whether every byte is a digit
unfoldable pub all_digits : List ℕ → Bool
all_digits [] = true
all_digits (b ∷ bs) = ltb (digit_value b) 16 && all_digits bs

-- the number that a list of digits stands for, the most significant first
unfoldable pub number : List ℕ → ℕ
number [] = 0
number (b ∷ bs) = digit_value b * 16 ^ length bs + number bs

-- the last k digits of n, the most significant first
unfoldable pub digits : ℕ → ℕ → List ℕ
digits zero n = []
digits (suc k) n = digit_of (n / 16 ^ k % 16) ∷ digits k n

-- whether 16 bytes stand in a text from a place on
unfoldable pub room : List ℕ → ℕ → Bool
room text at = leb (at + 16) (length text)

-- those 16 bytes
unfoldable pub field : List ℕ → ℕ → List ℕ
field text at = take 16 (drop at text)

-- the word that the 16 bytes at a place of a text stand for
unfoldable pub word_at : List ℕ → ℕ → Option ℕ
word_at text at = cond (room text at && all_digits (field text at)) (Some (number (field text at))) None

-- a text with a word's digits at a place; where they do not fit, the text as it is
unfoldable pub written : ℕ → List ℕ → ℕ → List ℕ
written word text at = cond (room text at) (take at text ++ (digits 16 word ++ drop (at + 16) text)) text

-- what writing a word at a place of a text answers and leaves
pub record Wrote (word : ℕ) (before : List ℕ) (at : ℕ) (answer : Bool) (after : List ℕ) : Type 0 where
  pub answered : answer ≡ room before at
  pub left : after ≡ written word before at
