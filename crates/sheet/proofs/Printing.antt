-- A sheet's text line by line, as it is put, and how long it is; and what its first bad line says of its names and numbers. Assumes nothing.
use Rattle.quant.specs.Refusal.{refuse, Answer}
use Rattle.std.specs.Prelude.{Ok}
use Prim.Native.Nat.{ℕ, zero, suc, ◌+◌, ◌*◌, ◌≤◌, ◌<◌}
use mathlib.Core.Bool.{Bool, true, false, ◌&&◌, not, cond}
use mathlib.Core.List.{List, [], ◌∷◌, ◌++◌, append_assoc}
use mathlib.Core.Path.{◌≡◌, refl, sym, ap, ◌∙◌}
use native.Mathlib.Nat.{suc-mul, zero-mul}
use native.Mathlib.Omega.{arith}
use borrow.Author.Tests.{le-leb, leb-true}
use lib.Dec.{leb}
use lib.Ieee.{Float, binary64, to_bits, nan}
use lib.Ieee.Scale.{finite}
use lib.ListN.{length, get_or, take, drop, length-append, length-drop}
use lib.Seq.{append_snoc, drop-cons, drop-drop, length-take-le, take-suc}
use Rattle.hexadecimal.proofs.Number.{length_digits}
use Rattle.hexadecimal.specs.Hex as hex
use Rattle.naming.proofs.Named.{well-formed, length-bytes, writes}
use Rattle.exact.proofs.Truth.{both}
use Rattle.naming.proofs.Words.{length-sixteen}
use Rattle.naming.specs.Name as quant
use Rattle.naming.specs.Name.{bytes_of, sixteen, is_name, is_in}
use Rattle.naming.specs.declared.Name.{Name}
use Rattle.quant.specs.declared.refusal.Refusal.{Refusal}
use Rattle.quant.specs.declared.refusal.Refusal.TheVariants.{Malformed, WrongSize, DoubledName}
use Rattle.sheet.specs.Puts.{Put, name_line, factor_line, block_text, two_lines, names_size}
use Rattle.sheet.specs.Sheet.{channels_key, column_key, row_key, factor_key, good_names, all_finite, patterns, count_text, columns_text, factors_text, blocks_text, blocks_of, sheet_of, sheet_text, print_fits, columns_judged, factor_at, factors_judged, printed_by, printed_of, bytes_after, Print}
use Rattle.sheet.proofs.Parts.{part-cons}

-- ---- what the writers of names and words leave

pub name-long : (n : Name) → is_name n ≡ true → length (bytes_of n) ≡ n.len
name-long n ok = length-bytes n ((well-formed n).0 ok).most

pub name-put : {n : Name} {text : List ℕ} {at : ℕ} {answer : Bool} {after : List ℕ} → is_name n ≡ true → at + n.len ≤ length text
    → quant.Wrote n text at answer after → Put (bytes_of n) text at (at + n.len) after
unfolding quant.written
name-put {n} {text} {at} ok room w =
    record { next = ap (λ (k : ℕ). at + k) (sym (name-long n ok)); left = w.left ∙ rw (writes n text at ok room, name-long n ok) }

pub word-put : {word : ℕ} {text : List ℕ} {at : ℕ} {answer : Bool} {after : List ℕ} → at + 16 ≤ length text
    → hex.Wrote word text at answer after → Put (hex.digits 16 word) text at (at + 16) after
unfolding hex.written hex.room
word-put {word} {text} {at} room w =
    record {
      next = ap (λ (k : ℕ). at + k) (sym (length_digits 16 word));
      left = w.left ∙ rw (le-leb (at + 16) (length text) room, length_digits 16 word, append_assoc (take at text) (hex.digits 16 word) (drop (at + 16) text));
    }

pub name-line-long : (key : List ℕ) (n : Name) → length (name_line key n) ≡ length key + length (bytes_of n) + 1
name-line-long key n = length-append (key ++ bytes_of n) (10 ∷ []) ∙ ap (λ (k : ℕ). k + 1) (length-append key (bytes_of n))

pub factor-line-long : (x : Float) → length (factor_line x) ≡ 24
unfolding factor_key
factor-line-long x =
    length-append (factor_key ++ hex.digits 16 (to_bits binary64 x)) (10 ∷ [])
    ∙ rw (length-append factor_key (hex.digits 16 (to_bits binary64 x)), length_digits 16 (to_bits binary64 x))

-- ---- the lines of some names

module _ (names : List Name) (count : ℕ) (within : count ≤ length names) (i : ℕ) (d : Name) (h : i < count) where
  pub columns-line : columns_text (drop i (take count names)) ≡ name_line column_key (get_or names i d) ++ columns_text (drop (suc i) (take count names))
  unfolding columns_text
  columns-line =
      rw (part-cons names count within i d h)
      (sym (append_snoc (column_key ++ bytes_of (get_or names i d)) 10 (columns_text (drop (suc i) (take count names)))))

  pub good-next : good_names (drop i (take count names)) ≡ (is_name (get_or names i d) && good_names (drop (suc i) (take count names)))
  unfolding good_names
  good-next = rw (part-cons names count within i d h)

  pub columns-next : columns_judged (take i names) (drop i (take count names))
      ≡ cond (not (is_name (get_or names i d))) (refuse Malformed (i + 2))
      (cond (is_in (get_or names i d) (take i names)) (refuse DoubledName (i + 2)) (columns_judged (take (suc i) names) (drop (suc i) (take count names))))
  unfolding columns_judged
  columns-next = rw (part-cons names count within i d h, take-suc names i d (omega arith), length-take-le i names (omega arith))

  pub blocks-line : (matrix : List Float)
      → blocks_text (blocks_of count (drop i (take count names)) (drop (i * count) matrix))
      ≡ block_text (get_or names i d) (take count (drop (i * count) matrix)) ++ blocks_text (blocks_of count (drop (suc i) (take count names)) (drop (suc i * count) matrix))
  unfolding blocks_text blocks_of
  blocks-line matrix =
      let n = get_or names i d in
      let numbers : List ℕ = factors_text (patterns (take count (drop (i * count) matrix))) in
      let behind : drop count (drop (i * count) matrix) ≡ drop (suc i * count) matrix =
      drop-drop count (i * count) matrix ∙ ap (λ (k : ℕ). drop k matrix) (sym (suc-mul i count)) in
      let rest : List ℕ = blocks_text (blocks_of count (drop (suc i) (take count names)) (drop (suc i * count) matrix)) in
      rw (part-cons names count within i d h, behind)
      (sym (append_assoc (name_line row_key n) numbers rest ∙ append_snoc (row_key ++ bytes_of n) 10 (numbers ++ rest)))

pub size-next : (names : List Name) (i : ℕ) (d : Name) → i < length names → names_size (drop i names) ≡ two_lines (get_or names i d) + names_size (drop (suc i) names)
unfolding names_size
size-next names i d h = rw (drop-cons names i d h)

module _ (numbers : List Float) (i : ℕ) (h : i < length numbers) where
  pub factors-line : factors_text (patterns (drop i numbers)) ≡ factor_line (get_or numbers i nan) ++ factors_text (patterns (drop (suc i) numbers))
  unfolding factors_text patterns
  factors-line =
      rw (drop-cons numbers i nan h)
      (sym (append_snoc (factor_key ++ hex.digits 16 (to_bits binary64 (get_or numbers i nan))) 10 (factors_text (patterns (drop (suc i) numbers)))))

  pub finite-next : all_finite (drop i numbers) ≡ (finite (get_or numbers i nan) && all_finite (drop (suc i) numbers))
  unfolding all_finite
  finite-next = rw (drop-cons numbers i nan h)

  pub judged-next : (count : ℕ) → factors_judged count i (drop i numbers)
      ≡ cond (finite (get_or numbers i nan)) (factors_judged count (suc i) (drop (suc i) numbers)) (refuse Malformed (factor_at count i))
  unfolding factors_judged
  judged-next count = rw (drop-cons numbers i nan h)

-- ---- finite numbers

pub finite-take : (k : ℕ) (l : List Float) → all_finite l ≡ true → all_finite (take k l) ≡ true
unfolding all_finite
finite-take zero l e = refl
finite-take (suc k) [] e = refl
finite-take (suc k) (x ∷ l) e = let parts = both (finite x) (all_finite l) e in rw (parts.0, finite-take k l parts.1)

pub finite-drop : (k : ℕ) (l : List Float) → all_finite l ≡ true → all_finite (drop k l) ≡ true
unfolding all_finite
finite-drop zero l e = e
finite-drop (suc k) [] e = refl
finite-drop (suc k) (x ∷ l) e = finite-drop k l (both (finite x) (all_finite l) e).1

-- ---- how long the text is

pub bytes_most : (n : Name) → length (bytes_of n) ≤ 16
unfolding bytes_of
bytes_most n = omega (arith, length-sixteen n.first n.second, short n.len (sixteen n.first n.second))
  where
    short : (k : ℕ) (l : List ℕ) → length (take k l) ≤ length l
    short zero l = omega arith
    short (suc k) [] = omega arith
    short (suc k) (x ∷ l) = omega (arith, short k l)

pub two-most : (n : Name) → two_lines n ≤ 45
unfolding two_lines
two-most n = omega (arith, bytes_most n)

pub size-most : (l : List Name) → names_size l ≤ 45 * length l
unfolding names_size
size-most [] = omega arith
size-most (n ∷ l) = omega (arith, two-most n, size-most l)

pub factors-long : (l : List ℕ) → length (factors_text l) ≡ 24 * length l
unfolding factors_text factor_key
factors-long [] = refl
factors-long (b ∷ l) =
    length-append (factor_key ++ hex.digits 16 b) (10 ∷ factors_text l)
    ∙ rw (length-append factor_key (hex.digits 16 b), length_digits 16 b) (omega (arith, factors-long l))

patterns-long : (l : List Float) → length (patterns l) ≡ length l
unfolding patterns
patterns-long [] = refl
patterns-long (x ∷ l) = ap suc (patterns-long l)

lines_long : (count : ℕ) (l : List Name) (matrix : List Float) → length l * count ≤ length matrix
    → length (columns_text l) + length (blocks_text (blocks_of count l matrix)) ≡ names_size l + 24 * (length l * count)
unfolding columns_text blocks_text blocks_of names_size two_lines column_key row_key
lines_long count [] matrix h = rw (zero-mul count) refl
lines_long count (n ∷ l) matrix h =
    let more = suc-mul (length l) count in
    let numbers : List ℕ = patterns (take count matrix) in
    let rest : List ℕ = blocks_text (blocks_of count l (drop count matrix)) in
    let size : length (factors_text numbers) ≡ 24 * count =
    factors-long numbers ∙ ap (λ (k : ℕ). 24 * k) (patterns-long (take count matrix) ∙ length-take-le count matrix (omega arith)) in
    let columns = length-append (column_key ++ bytes_of n) (10 ∷ columns_text l) in
    let column = length-append column_key (bytes_of n) in
    let blocks = length-append (row_key ++ bytes_of n) (10 ∷ (factors_text numbers ++ rest)) in
    let row = length-append row_key (bytes_of n) in
    let both = length-append (factors_text numbers) rest in
    let others = lines_long count l (drop count matrix) (rw length-drop (omega arith)) in
    omega arith

module _ (count : ℕ) (names : List Name) (matrix : List Float) (within : count ≤ length names) where
  pub text-is : sheet_text (sheet_of count names matrix)
      ≡ count_text count ++ columns_text (take count names) ++ blocks_text (blocks_of count (take count names) matrix)
  unfolding sheet_text sheet_of
  text-is = rw (length-take-le count names within)

  pub text-parts : length (sheet_text (sheet_of count names matrix))
      ≡ 11 + length (columns_text (take count names)) + length (blocks_text (blocks_of count (take count names) matrix))
  unfolding count_text channels_key
  text-parts =
      ap length text-is
      ∙ length-append (count_text count ++ columns_text (take count names)) (blocks_text (blocks_of count (take count names) matrix))
      ∙ rw (length-append (count_text count) (columns_text (take count names)))

  pub text-long : count * count ≤ length matrix
      → length (sheet_text (sheet_of count names matrix)) ≡ 11 + 24 * (count * count) + names_size (take count names)
  text-long h =
      let size = length-take-le count names within in
      let lines = rw size at (lines_long count (take count names) matrix (rw size h)) in
      omega (arith, text-parts)

-- ---- the answer

-- columns of which no line is bad are names
pub good-columns : (before ns : List Name) (k : ℕ) → columns_judged before ns ≡ Ok k → good_names ns ≡ true
unfolding columns_judged good_names
good-columns before [] k e = refl
good-columns before (n ∷ ns) k e = by (is_name n) (is_in n before) e (good-columns (before ++ n ∷ []) ns k)
  where
    by : (t u : Bool)
        → cond (not t) (refuse Malformed (length before + 2))
        (cond u (refuse DoubledName (length before + 2)) (columns_judged (before ++ n ∷ []) ns)) ≡ Ok k
        → (columns_judged (before ++ n ∷ []) ns ≡ Ok k → good_names ns ≡ true) → (t && good_names ns) ≡ true
    by false u q more = let z : ◌≡◌ {A = ℕ} 0 1 = cc in absurd (omega arith)
    by true true q more = let z : ◌≡◌ {A = ℕ} 0 1 = cc in absurd (omega arith)
    by true false q more = more q

-- factors of which no line is bad are finite
pub fine-factors : (count i : ℕ) (l : List Float) (k : ℕ) → factors_judged count i l ≡ Ok k → all_finite l ≡ true
unfolding factors_judged all_finite
fine-factors count i [] k e = refl
fine-factors count i (x ∷ l) k e = by (finite x) e (fine-factors count (suc i) l k)
  where
    by : (t : Bool) → cond t (factors_judged count (suc i) l) (refuse Malformed (factor_at count i)) ≡ Ok k
        → (factors_judged count (suc i) l ≡ Ok k → all_finite l ≡ true) → (t && all_finite l) ≡ true
    by false q more = let z : ◌≡◌ {A = ℕ} 0 1 = cc in absurd (omega arith)
    by true q more = more q

-- and finite factors have no bad line
pub no-bad-factor : (count i : ℕ) (l : List Float) → all_finite l ≡ true → factors_judged count i l ≡ Ok 0
unfolding factors_judged all_finite
no-bad-factor count i [] e = refl
no-bad-factor count i (x ∷ l) e = let parts = both (finite x) (all_finite l) e in rw parts.0 (no-bad-factor count (suc i) l parts.1)

-- what `print_fits` says
pub record Sized (count : ℕ) (names : List Name) (matrix : List Float) (room : ℕ) : Type 0 where
  pub some : 1 ≤ count
  pub most : count ≤ 8
  pub numbers : count * count ≤ length matrix
  pub text : length (sheet_text (sheet_of count names matrix)) ≤ room

pub sized : (count : ℕ) (names : List Name) (matrix : List Float) (room : ℕ) → print_fits count names matrix room ≡ true → Sized count names matrix room
unfolding print_fits
sized count names matrix room e =
    let outer = both _ (leb (length (sheet_text (sheet_of count names matrix))) room) e in
    let middle = both _ (leb (count * count) (length matrix)) outer.0 in
    let inner = both (leb 1 count) (leb count 8) middle.0 in
    record {
      some = leb-true 1 count inner.0;
      most = leb-true count 8 inner.1;
      numbers = leb-true (count * count) (length matrix) middle.1;
      text = leb-true (length (sheet_text (sheet_of count names matrix))) room outer.1;
    }

module _ (count : ℕ) (names : List Name) (matrix : List Float) (before : List ℕ) where
  pub of-printed : (r : Answer) (after : List ℕ) → printed_of count names matrix (length before) ≡ r
      → after ≡ bytes_after count names matrix r before → Print count names matrix before r after
  of-printed r after e m = record { answered = sym e; left = rw e m }

  pub no_room : print_fits count names matrix (length before) ≡ false → printed_of count names matrix (length before) ≡ refuse WrongSize 0
  unfolding printed_of
  no_room e = rw e

  module _ (e : print_fits count names matrix (length before) ≡ true) where
    pub bad-column : (r : Refusal) (line : ℕ) → columns_judged [] (take count names) ≡ refuse r line
        → printed_of count names matrix (length before) ≡ refuse r line
    unfolding printed_of printed_by
    bad-column r line g = rw (e, g)

    module _ (k : ℕ) (g : columns_judged [] (take count names) ≡ Ok k) where
      pub bad-factor : (r : Refusal) (line : ℕ) → factors_judged count 0 (take (count * count) matrix) ≡ refuse r line
          → printed_of count names matrix (length before) ≡ refuse r line
      unfolding printed_of printed_by
      bad-factor r line f = rw (e, g, f)

      pub printed : (l : ℕ) → factors_judged count 0 (take (count * count) matrix) ≡ Ok l
          → printed_of count names matrix (length before) ≡ Ok (length (sheet_text (sheet_of count names matrix)))
      unfolding printed_of printed_by
      printed l f = rw (e, g, f)
