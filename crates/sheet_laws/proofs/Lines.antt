-- A text that starts with a line: how it is cut and read on. The one idea: a line that holds no LF is cut off whole. Assumes nothing.
use Prim.Native.Nat.{ℕ, zero, suc, ◌+◌, ◌-◌, ◌/◌, ◌%◌, ◌^◌, ◌≤◌}
use mathlib.Core.Path.{◌≡◌, refl}
use mathlib.Core.Bool.{Bool, true, false, not, cond}
use mathlib.Core.List.{List, [], ◌∷◌, ◌++◌}
use native.Mathlib.Omega.{arith}
use borrow.Author.Tests.{eq-eqb, ne_eqb, not-true}
use lib.Dec.{eqb, ltb}
use Rattle.hexadecimal.specs.Hex.{digit_of, digits}
use Rattle.naming.specs.Name.{name_byte, every, bytes_of}
use Rattle.naming.specs.declared.Name.{Name}
use Rattle.naming.proofs.Named.{standing, well-formed}
use Rattle.exact.proofs.Truth.{both}
use Rattle.naming.specs.Name.{is_name}
use Rattle.sheet.specs.Sheet.{value, behind, onto, cut, SoFar, goes, step, accepts, onward, read_from}

-- ---- bytes that are no LF

unfoldable pub plain : ℕ → Bool
plain b = not (eqb b 10)

pub plain-above : (b : ℕ) → 11 ≤ b → plain b ≡ true
unfolding plain
plain-above b h = simp (ne_eqb b 10 (λ e. omega arith))

pub every-both : (p : ℕ → Bool) (a b : List ℕ) → every p a ≡ true → every p b ≡ true → every p (a ++ b) ≡ true
unfolding every
every-both p [] b h k = k
every-both p (x ∷ xs) b h k = let parts = both (p x) (every p xs) h in simp (parts.0, every-both p xs b parts.1 k)

plain-bytes : (l : List ℕ) → every name_byte l ≡ true → every plain l ≡ true
unfolding every
plain-bytes [] e = refl
plain-bytes (b ∷ bs) e =
    let parts = both (name_byte b) (every name_byte bs) e in
    let from = ((standing b).0 parts.0).from in
    simp (plain-above b (omega arith), plain-bytes bs parts.1)

pub plain-name : (n : Name) → is_name n ≡ true → every plain (bytes_of n) ≡ true
plain-name n ok = plain-bytes (bytes_of n) ((well-formed n).0 ok).stand

digit-high : (n : ℕ) → 11 ≤ digit_of n
unfolding digit_of
digit-high n = by (ltb n 10)
  where
    by : (t : Bool) → 11 ≤ cond t (48 + n) (97 + (n - 10))
    by true = omega arith
    by false = omega arith

pub plain-digits : (k n : ℕ) → every plain (digits k n) ≡ true
unfolding every digits
plain-digits zero n = refl
plain-digits (suc k) n = let d = n / 16 ^ k % 16 in simp (plain-above (digit_of d) (digit-high d), plain-digits k n)

-- ---- a key and what stands behind it

pub behind-key : (key x : List ℕ) → behind key (key ++ x) ≡ value x
unfolding behind
behind-key [] x = refl
behind-key (k ∷ ks) x = simp (eq-eqb k k refl, behind-key ks x)

-- ---- the first line of a text

pub cut_line : (line more : List ℕ) → every plain line ≡ true → cut (line ++ 10 ∷ more) ≡ record { whole = line ∷ (cut more).whole; rest = (cut more).rest }
unfolding cut onto every plain
cut_line [] more e = refl
cut_line (b ∷ bs) more e =
    let parts = both (not (eqb b 10)) (every plain bs) e in
    rw (not-true (eqb b 10) parts.0, cut_line bs more parts.1)

-- a text is read to the end from where something is known, at whatever line
abbrev pub Accepts : SoFar → List ℕ → SoFar → Type 0
Accepts s text u = (place : ℕ) → read_from place s (cut text).whole (cut text).rest ≡ accepts u

pub line_taken : (s t u : SoFar) (line more : List ℕ) → every plain line ≡ true → step s line ≡ goes t → Accepts t more u → Accepts s (line ++ 10 ∷ more) u
unfolding read_from onward
line_taken s t u line more e taken rest place = rw (cut_line line more e, taken) (rest (suc place))
