-- Laws of the first lines of a text: they are its first lines, what is left are its other lines, and each has a byte. Byte by byte. Assumes nothing.
use Rattle.std.specs.Prelude.{Option, Some, None}
use Prim.Native.Nat.{ℕ, zero, suc, ◌+◌, ◌-◌, ◌≤◌, ◌<◌}
use native.Mathlib.Omega.{arith}
use mathlib.Core.Path.{◌≡◌, refl, sym, ap, ◌∙◌}
use mathlib.Core.Bool.{Bool, true, false, cond}
use mathlib.Core.List.{List, [], ◌∷◌}
use borrow.Author.Tests.{leb-true, le-leb, lt-leb}
use lib.Dec.{leb, eqb}
use lib.ListN.{length, take, drop, length-drop, drop_of_length-le}
use lib.Seq.{drop-drop}
use Rattle.lines.specs.Text.{before, lines_of, line_length}
use Rattle.crosstalk.specs.declared.names.Crosstalk.{Crosstalk}
use Rattle.job_sheet.specs.First.{lines_bytes, first_lines, first_of}
use Rattle.job_sheet.specs.Inset.{taken_of, Within}

-- ---- a byte before the first line

take-before : (b more : ℕ) (ls : List (List ℕ)) → before b (take (suc more) ls) ≡ take (suc more) (before b ls)
take-before b zero [] = refl
take-before b (suc more) [] = refl
take-before b more (l ∷ ls) = refl

drop-before : (b more : ℕ) (ls : List (List ℕ)) → drop (suc more) ls ≡ drop (suc more) (before b ls)
drop-before b zero [] = refl
drop-before b (suc more) [] = refl
drop-before b more (l ∷ ls) = refl

-- ---- the first lines, and what is left

pub the-lines : (count : ℕ) (text : List ℕ) → lines_of (first_lines count text) ≡ take count (lines_of text)
unfolding lines_of lines_bytes
the-lines zero text = refl
the-lines (suc more) [] = refl
the-lines (suc more) (b ∷ bs) = go (eqb b 10) (the-lines more bs) (the-lines (suc more) bs)
  where
    go : (feed : Bool) → lines_of (first_lines more bs) ≡ take more (lines_of bs) → lines_of (first_lines (suc more) bs) ≡ take (suc more) (lines_of bs)
        → let rest = lines_of (take (cond feed (lines_bytes more bs) (lines_bytes (suc more) bs)) bs) in
        cond feed ([] ∷ rest) (before b rest) ≡ take (suc more) (cond feed ([] ∷ lines_of bs) (before b (lines_of bs)))
    go true h k = ap (λ (ls : List (List ℕ)). [] ∷ ls) h
    go false h k = ap (before b) k ∙ take-before b more (lines_of bs)

pub the_rest : (count : ℕ) (text : List ℕ) → lines_of (drop (lines_bytes count text) text) ≡ drop count (lines_of text)
unfolding lines_of lines_bytes
the_rest zero text = refl
the_rest (suc more) [] = refl
the_rest (suc more) (b ∷ bs) = go (eqb b 10) (the_rest more bs) (the_rest (suc more) bs)
  where
    go : (feed : Bool) → lines_of (drop (lines_bytes more bs) bs) ≡ drop more (lines_of bs) → lines_of (drop (lines_bytes (suc more) bs) bs) ≡ drop (suc more) (lines_of bs)
        → lines_of (drop (cond feed (lines_bytes more bs) (lines_bytes (suc more) bs)) bs) ≡ drop (suc more) (cond feed ([] ∷ lines_of bs) (before b (lines_of bs)))
    go true h k = h
    go false h k = k ∙ drop-before b more (lines_of bs)

-- ---- how many bytes

pub bytes-within : (count : ℕ) (text : List ℕ) → lines_bytes count text ≤ length text
unfolding lines_bytes
bytes-within zero text = omega arith
bytes-within (suc more) [] = omega arith
bytes-within (suc more) (b ∷ bs) = go (eqb b 10) (bytes-within more bs) (bytes-within (suc more) bs)
  where
    go : (feed : Bool) → lines_bytes more bs ≤ length bs → lines_bytes (suc more) bs ≤ length bs → suc (cond feed (lines_bytes more bs) (lines_bytes (suc more) bs)) ≤ suc (length bs)
    go true h k = omega arith
    go false h k = omega arith

-- each line has a byte: its line feed, or, of the last, one before the end
pub line-each : (count : ℕ) (text : List ℕ) → count ≤ length (lines_of text) → count ≤ lines_bytes count text
unfolding lines_of lines_bytes
line-each zero text h = omega arith
line-each (suc more) [] h = h
line-each (suc more) (b ∷ bs) h = go (eqb b 10) h (line-each more bs) (line-each (suc more) bs)
  where
    last : (ls : List (List ℕ)) → suc more ≤ length (before b ls) → (suc more ≤ length ls → suc more ≤ lines_bytes (suc more) bs) → suc more ≤ suc (lines_bytes (suc more) bs)
    last [] h k = omega arith
    last (l ∷ ls) h k = let some = k h in omega arith

    go : (feed : Bool) → suc more ≤ length (cond feed ([] ∷ lines_of bs) (before b (lines_of bs))) → (more ≤ length (lines_of bs) → more ≤ lines_bytes more bs)
        → (suc more ≤ length (lines_of bs) → suc more ≤ lines_bytes (suc more) bs) → suc more ≤ suc (cond feed (lines_bytes more bs) (lines_bytes (suc more) bs))
    go true h j k = let some = j (omega arith) in omega arith
    go false h j k = last (lines_of bs) h k

-- ---- one line

none_left : (count : ℕ) → lines_bytes count [] ≡ 0
unfolding lines_bytes
none_left zero = refl
none_left (suc more) = refl

-- the first, and then the others
pub line-by-line : (more : ℕ) (text : List ℕ) → lines_bytes (suc more) text ≡ lines_bytes 1 text + lines_bytes more (drop (lines_bytes 1 text) text)
unfolding lines_bytes
line-by-line more [] = omega (arith, none_left more)
line-by-line more (b ∷ bs) = go (eqb b 10) (line-by-line more bs)
  where
    go : (feed : Bool) → lines_bytes (suc more) bs ≡ lines_bytes 1 bs + lines_bytes more (drop (lines_bytes 1 bs) bs)
        → suc (cond feed (lines_bytes more bs) (lines_bytes (suc more) bs)) ≡ suc (cond feed 0 (lines_bytes 1 bs)) + lines_bytes more (drop (cond feed 0 (lines_bytes 1 bs)) bs)
    go true h = omega arith
    go false h = omega (arith, h)

-- up to its line feed and with it, or to the end
pub with-feed : (text : List ℕ) → line_length text < length text → lines_bytes 1 text ≡ line_length text + 1
unfolding lines_bytes line_length
with-feed [] h = absurd (omega arith)
with-feed (b ∷ bs) h = go (eqb b 10) h (with-feed bs)
  where
    go : (feed : Bool) → cond feed 0 (suc (line_length bs)) < suc (length bs) → (line_length bs < length bs → lines_bytes 1 bs ≡ line_length bs + 1)
        → suc (cond feed 0 (lines_bytes 1 bs)) ≡ cond feed 0 (suc (line_length bs)) + 1
    go true h k = refl
    go false h k = omega (arith, k (omega arith))

pub to_the_end : (text : List ℕ) → length text ≤ line_length text → lines_bytes 1 text ≡ line_length text
unfolding lines_bytes line_length
to_the_end [] h = refl
to_the_end (b ∷ bs) h = go (eqb b 10) h (to_the_end bs)
  where
    go : (feed : Bool) → suc (length bs) ≤ cond feed 0 (suc (line_length bs)) → (length bs ≤ line_length bs → lines_bytes 1 bs ≡ line_length bs)
        → suc (cond feed 0 (lines_bytes 1 bs)) ≡ cond feed 0 (suc (line_length bs))
    go true h k = absurd (omega arith)
    go false h k = omega (arith, k (omega arith))

pub one_line : (text : List ℕ) → 0 < length text → length (lines_of text) ≡ suc (length (lines_of (drop (lines_bytes 1 text) text)))
unfolding lines_of
one_line [] h = absurd (omega arith)
one_line (b ∷ bs) h = go (lines_of (b ∷ bs)) refl (the_rest 1 (b ∷ bs))
  where
    some : (feed : Bool) (ls : List (List ℕ)) → 0 < length (cond feed ([] ∷ ls) (before b ls))
    some true ls = omega arith
    some false [] = omega arith
    some false (l ∷ ls) = omega arith

    go : (ls : List (List ℕ)) → lines_of (b ∷ bs) ≡ ls → lines_of (drop (lines_bytes 1 (b ∷ bs)) (b ∷ bs)) ≡ drop 1 (lines_of (b ∷ bs))
        → length (lines_of (b ∷ bs)) ≡ suc (length (lines_of (drop (lines_bytes 1 (b ∷ bs)) (b ∷ bs))))
    go ls e r = let none = some (eqb b 10) (lines_of bs) in rw r (omega (arith, length-drop 1 (lines_of (b ∷ bs))))

-- ---- from a place on, with so many lines still to go over
pub record Going (text : List ℕ) (count at left : ℕ) : Type 0 where
  pub within : at ≤ length text
  pub bytes : at + lines_bytes left (drop at text) ≡ lines_bytes count text
  pub lines : length (lines_of text) + left ≡ length (lines_of (drop at text)) + count

pub starts : (text : List ℕ) (count : ℕ) → Going text count 0 (count - 0)
starts text count = let all : count - 0 ≡ count = omega arith in rw all (record { within = omega arith; bytes = omega arith; lines = omega arith })

a_line_on : (text : List ℕ) (count at left next : ℕ) → Going text count at left → 0 < left → at < length text → next ≡ at + lines_bytes 1 (drop at text)
    → Going text count next (left - 1)
a_line_on text count at zero next g more h e = absurd (omega arith)
a_line_on text count at (suc left) next g more h e =
    let some : 0 < length (drop at text) = rw (length-drop at text) (omega arith) in
    let further : drop (lines_bytes 1 (drop at text)) (drop at text) ≡ drop next text = drop-drop (lines_bytes 1 (drop at text)) at text ∙ ap (λ (k : ℕ). drop k text) (sym e) in
    let line = rw further at (line-by-line left (drop at text)) in
    let gone = rw further at (one_line (drop at text) some) in
    let inside = rw (length-drop at text) at (bytes-within 1 (drop at text)) in
    let one_less : suc left - 1 ≡ left = omega arith in
    rw one_less (record { within = omega (arith, inside, e, h); bytes = omega (arith, g.bytes, line, e); lines = omega (arith, g.lines, gone) })

pub goes_on : (text : List ℕ) (count at gone next : ℕ) → Going text count at (count - gone) → gone < count → at < length text → next ≡ at + lines_bytes 1 (drop at text)
    → Going text count next (count - (gone + 1))
goes_on text count at gone next g more h e =
    let one_less : count - (gone + 1) ≡ count - gone - 1 = omega arith in
    rw one_less (a_line_on text count at (count - gone) next g (omega arith) h e)

pub ran_out : (text : List ℕ) (count at left : ℕ) → Going text count at left → 0 < left → length text ≤ at → first_of count text ≡ None
unfolding first_of lines_of
ran_out text count at left g some h =
    let gone = rw (drop_of_length-le text h) at g.lines in
    rw (lt-leb count (length (lines_of text)) (omega (arith, gone)))

pub gone-over : (text : List ℕ) (count at left : ℕ) → Going text count at left → left ≤ 0 → first_of count text ≡ Some at
unfolding first_of lines_bytes
gone-over text count at (suc left) g none = absurd (omega arith)
gone-over text count at zero g none =
    let bytes : lines_bytes count text ≡ at = omega (arith, g.bytes) in
    rw (le-leb count (length (lines_of text)) (omega (arith, g.lines)), bytes)

-- what is found are the first lines' bytes, and lies within
pub first-bytes : (count : ℕ) (text : List ℕ) (n : ℕ) → first_of count text ≡ Some n → n ≡ lines_bytes count text
unfolding first_of
first-bytes count text n e = go (leb count (length (lines_of text))) e
  where
    go : (b : Bool) → cond b (Some (lines_bytes count text)) None ≡ Some n → n ≡ lines_bytes count text
    go true e = cc
    go false e = let z : ◌≡◌ {A = ℕ} 0 1 = cc in absurd (omega arith)

pub first-within : (count : ℕ) (text : List ℕ) (n : ℕ) → first_of count text ≡ Some n → n ≤ length text
first-within count text n e = omega (arith, first-bytes count text n e, bytes-within count text)

pub first-lines-each : (count : ℕ) (text : List ℕ) (n : ℕ) → first_of count text ≡ Some n → count ≤ n
unfolding first_of
first-lines-each count text n e = go (leb count (length (lines_of text))) refl e
  where
    go : (b : Bool) → leb count (length (lines_of text)) ≡ b → cond b (Some (lines_bytes count text)) None ≡ Some n → count ≤ n
    go true f e = let same : lines_bytes count text ≡ n = cc in omega (arith, line-each count text (leb-true count (length (lines_of text)) f))
    go false f e = let z : ◌≡◌ {A = ℕ} 0 1 = cc in absurd (omega arith)

-- what is taken lies within what is behind
pub taken-within : (behind : List ℕ) (count : ℕ) (c : Crosstalk) (numbers : ℕ) → Within (taken_of behind count c numbers (first_of count behind)) behind
unfolding taken_of
taken-within behind count c numbers = go (first_of count behind) refl
  where
    go : (f : Option ℕ) → first_of count behind ≡ f → Within (taken_of behind count c numbers f) behind
    go (Some n) e = record { lines = first-lines-each count behind n e; bytes = first-within count behind n e }
    go None e = record { lines = omega arith; bytes = omega arith }
