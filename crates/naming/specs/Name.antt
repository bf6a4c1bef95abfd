-- Names of channels and shapes. Document 01: "A name is 1..16 bytes of 0x21..0x7E without `=`, compared byte by byte"; "names by
-- value as two 64-bit words and a length". Definitions only.
use Rattle.std.specs.Prelude.{ℕ, zero, suc, ◌+◌, ◌*◌, ◌/◌, ◌%◌, ◌^◌, ◌≡◌, Bool, true, false, ◌&&◌, ◌||◌, not, cond, List, [], ◌∷◌, ◌++◌, leb, ltb, eqb, length, take, drop, Option, Some, None}
use Rattle.naming.specs.declared.Name.{Name}

-- ---- bytes that are a name

-- whether a byte may stand in a name: 0x21 to 0x7E without `=`, which is 0x3D
unfoldable pub name_byte : ℕ → Bool
name_byte b = leb 0x21 b && leb b 0x7E && not (eqb b 0x3D)

-- whether every byte of a list passes a test
unfoldable pub every : (ℕ → Bool) → List ℕ → Bool
every p [] = true
every p (b ∷ bs) = p b && every p bs

-- whether a list of bytes is a name
unfoldable pub accepted : List ℕ → Bool
accepted bytes = leb 1 (length bytes) && leb (length bytes) 16 && every name_byte bytes

-- ---- bytes and words

-- up to eight bytes as a number, the first least significant
unfoldable pub word_of : List ℕ → ℕ
word_of [] = 0
word_of (b ∷ bs) = b + 256 * word_of bs

-- the k least significant bytes of a number, the least significant first
unfoldable pub low_bytes : ℕ → ℕ → List ℕ
low_bytes zero w = []
low_bytes (suc k) w = w % 256 ∷ low_bytes k (w / 256)

-- the eight bytes of a word
unfoldable pub bytes_of_word : ℕ → List ℕ
bytes_of_word w = low_bytes 8 w

-- the sixteen bytes of two words
unfoldable pub sixteen : ℕ → ℕ → List ℕ
sixteen first second = bytes_of_word first ++ bytes_of_word second

-- ---- names by value

-- the bytes of a name: the first len of its sixteen, so a length over 16 is cut at 16
unfoldable pub bytes_of : Name → List ℕ
bytes_of n = take n.len (sixteen n.first n.second)

-- the bytes of its two words past its length
unfoldable pub past_end : Name → List ℕ
past_end n = drop n.len (sixteen n.first n.second)

-- the name that a list of bytes is
unfoldable pub named : List ℕ → Name
named bytes = record { first = word_of (take 8 bytes); second = word_of (drop 8 bytes); len = length bytes }

unfoldable pub naming_of : List ℕ → Option Name
naming_of text = cond (accepted text) (Some (named text)) None

abbrev pub is_zero : ℕ → Bool
is_zero b = eqb b 0

-- Whether three numbers are a name, well formed: the length is 1..16, the bytes may stand in a name, and all bytes of the two words
-- past the length are zero. So two well-formed names are equal, byte by byte, exactly when their three numbers are. (The first two
-- lines hold of every u64; they stand here because a definition speaks of all numbers.)
unfoldable pub is_name : Name → Bool
is_name n =
    ltb n.first (2 ^ 64)
    && ltb n.second (2 ^ 64)
    && leb 1 n.len
    && leb n.len 16
    && every name_byte (bytes_of n)
    && every is_zero (past_end n)

-- the same of one byte: whether b may be byte i of the two words of a name of len bytes
unfoldable pub in_place : ℕ → ℕ → ℕ → Bool
in_place len i b = cond (ltb i len) (name_byte b) (is_zero b)

-- whether two names have the same three numbers
unfoldable pub same_name : Name → Name → Bool
same_name a b = eqb a.first b.first && eqb a.second b.second && eqb a.len b.len

-- whether a name is one of a list
unfoldable pub is_in : Name → List Name → Bool
is_in n [] = false
is_in n (m ∷ ms) = same_name m n || is_in n ms

-- ---- writing

-- whether n can be put at a place of a text: it is a name, and the text has room for it there
unfoldable pub writable : Name → List ℕ → ℕ → Bool
writable n text at = is_name n && leb (at + n.len) (length text)

-- a text with a name's bytes at a place; where they cannot be put, the text as it is
unfoldable pub written : Name → List ℕ → ℕ → List ℕ
written n text at = cond (writable n text at) (take at text ++ bytes_of n ++ drop (at + n.len) text) text

-- what writing a name at a place of a text answers and leaves
pub record Wrote (n : Name) (before : List ℕ) (at : ℕ) (answer : Bool) (after : List ℕ) : Type 0 where
  pub answered : answer ≡ writable n before at
  pub left : after ≡ written n before at
