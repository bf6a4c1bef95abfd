-- Law 1: what is read is printed back, reads to the same, and printing that changes nothing more. The one idea: what `print` writes is the
-- text of the sheet with its rows in column order. Assumes nothing.
use Rattle.quant.specs.Refusal.{Answer}
use Rattle.std.specs.Prelude.{Ok}
use Prim.Native.Nat.{ℕ, ◌+◌, ◌-◌, ◌*◌, ◌^◌, ◌≤◌, ◌<◌}
use mathlib.Core.Path.{◌≡◌, refl, ap, ◌∙◌}
use mathlib.Core.Bool.{Bool, true, false, ◌&&◌, cond}
use mathlib.Core.Logic.{⊎_elim}
use mathlib.Core.List.{List, [], ◌∷◌, ◌++◌, append_assoc}
use native.Mathlib.Omega.{arith}
use borrow.Author.Tests.{le-leb, lt-leb, leb-true, ltb-true}
use lib.Dec.{leb, ltb}
use lib.Ieee.{Float, binary64, of_bits}
use lib.Ieee.Bits.{to_bits-of_bits}
use lib.Ieee.Scale.{finite}
use lib.ListN.{length, take, drop, replicate, length-append}
use lib.Seq.{append_snoc, take_at, drop_at}
use Rattle.exact.proofs.Naturals.{below_or}
use Rattle.naming.specs.Name.{is_name}
use Rattle.naming.specs.declared.Name.{Name}
use Rattle.quant.specs.declared.refusal.Refusal.TheVariants.{WrongSize}
use Rattle.exact.proofs.Truth.{both, number_if_finite}
use Rattle.sheet.specs.Sheet.{cut, SoFar, nothing, Outcome, accepts, refuses, read_from, outcome, answer_of, blank, eight, names_of, doubles, under, rows_for, matrix_of, Block, Sheet, good_names, single, finite_bits, WellFormed, sheet_text, patterns, blocks_of, sheet_of, all_finite, print_fits, columns_judged, printed_by, printed_of, bytes_after}
use Rattle.sheet.proofs.Filling.{doubles-long, doubles-append}
use Rattle.sheet.proofs.Printing.{no-bad-factor}
use Rattle.sheet_laws.specs.Words.{In, here, there, contents, Reads, count_in, text_printed, print_answers, print_leaves, ReadAlike, PrintedBack}
use Rattle.sheet_laws.proofs.Accepted.{accepted, sheet-long}
use Rattle.sheet_laws.proofs.Arranged.{ordered, arranged, arranged-formed, arranged-matrix, fine, in_order}
use Rattle.sheet_laws.proofs.Factors.{eight_are, rows_long, wide}
use Rattle.sheet_laws.proofs.Names.{fresh}

-- ---- doubles and their bits

pub patterns-back : (fs : List ℕ) → finite_bits fs ≡ true → patterns (doubles fs) ≡ fs
unfolding patterns doubles finite_bits
patterns-back [] e = refl
patterns-back (f ∷ fs) e =
    let outer = both (ltb f (2 ^ 64) && finite (of_bits binary64 f)) (finite_bits fs) e in
    let inner = both (ltb f (2 ^ 64)) (finite (of_bits binary64 f)) outer.0 in
    rw (to_bits-of_bits binary64 f (ltb-true f (2 ^ 64) inner.0) (number_if_finite (of_bits binary64 f) inner.1), patterns-back fs outer.1)

all-finite : (fs more : List ℕ) → finite_bits fs ≡ true → all_finite (doubles more) ≡ true → all_finite (doubles (fs ++ more)) ≡ true
unfolding finite_bits doubles all_finite
all-finite [] more e rest = rest
all-finite (f ∷ fs) more e rest =
    let outer = both (ltb f (2 ^ 64) && finite (of_bits binary64 f)) (finite_bits fs) e in
    let inner = both (ltb f (2 ^ 64)) (finite (of_bits binary64 f)) outer.0 in
    simp (inner.1, all-finite fs more outer.1 rest)

-- ---- blocks from a matrix

module _ (t : SoFar) (count : ℕ) where
  blocks-back : (ns : List Name) (rest : List Float) → ((n : Name) → In n ns → length (under t n) ≡ count)
      → ((n : Name) → In n ns → finite_bits (under t n) ≡ true) → blocks_of count ns (doubles (rows_for t ns) ++ rest) ≡ ordered t ns
  unfolding blocks_of rows_for ordered
  blocks-back [] rest wide fine = refl
  blocks-back (n ∷ ns) rest wide fine =
      let row = doubles (under t n) in
      let more = doubles (rows_for t ns) ++ rest in
      let long : length row ≡ count = doubles-long (under t n) ∙ wide n here in
      let parted : doubles (under t n ++ rows_for t ns) ++ rest ≡ row ++ more =
      rw (doubles-append (under t n) (rows_for t ns)) (append_assoc row (doubles (rows_for t ns)) rest) in
      rw (
        parted,
        take_at row more count long,
        drop_at row more count long,
        patterns-back (under t n) (fine n here),
        blocks-back ns rest (λ m h. wide m (there h)) (λ m h. fine m (there h)),
      )

  rows-finite : (ns : List Name) → ((n : Name) → In n ns → finite_bits (under t n) ≡ true) → all_finite (doubles (rows_for t ns)) ≡ true
  unfolding rows_for doubles all_finite
  rows-finite [] fine = refl
  rows-finite (n ∷ ns) fine = all-finite (under t n) (rows_for t ns) (fine n here) (rows-finite ns (λ m h. fine m (there h)))

-- ---- lines that are not bad

-- names that follow the rule, none of them doubled
no-bad-column : (before ns : List Name) → good_names ns ≡ true → single (before ++ ns) ≡ true → columns_judged before ns ≡ Ok 0
unfolding columns_judged good_names
no-bad-column before [] good one = refl
no-bad-column before (n ∷ ns) good one =
    let goods = both (is_name n) (good_names ns) good in
    rw (goods.0, fresh n before ns one) (no-bad-column (before ++ n ∷ []) ns goods.1 (rw (append_snoc before n ns) one))

-- ---- what is printed

module _ (s : Sheet) (w : WellFormed s) where
  abbrev N : ℕ
  N = length s.columns

  most : N ≤ 8
  most = leb-true N 8 w.most

  names-back : take N (eight s.columns) ≡ s.columns
  names-back = rw (eight_are s.columns most) (take_at s.columns (take (8 - N) (replicate 8 blank)) N refl)

  pub printed-is : (before : List Float) → sheet_of N (names_of (accepts (contents s))) (matrix_of (accepts (contents s)) before) ≡ arranged s
  unfolding sheet_of names_of matrix_of contents arranged
  printed-is before =
      rw names-back
      (ap (λ (bs : List Block). record { columns = s.columns; blocks = bs })
      (blocks-back (contents s) N s.columns (drop (N * N) before) (wide s w) (fine s w)))

  pub prints : (before : List Float) (room : ℕ) → length (sheet_text (arranged s)) ≤ room
      → printed_of N (names_of (accepts (contents s))) (matrix_of (accepts (contents s)) before) room ≡ Ok (length (sheet_text (arranged s)))
  unfolding printed_of printed_by print_fits names_of matrix_of contents
  prints before room fits =
      let rows = doubles (rows_for (contents s) s.columns) in
      let long : length rows ≡ N * N = doubles-long (rows_for (contents s) s.columns) ∙ rows_long (contents s) N s.columns (wide s w) in
      let enough : N * N ≤ length (rows ++ drop (N * N) before) = rw length-append (omega arith) in
      rw (
        printed-is before,
        w.some,
        w.most,
        le-leb (N * N) (length (rows ++ drop (N * N) before)) enough,
        le-leb (length (sheet_text (arranged s))) room fits,
        names-back,
        no-bad-column [] s.columns w.names w.single_columns,
        take_at rows (drop (N * N) before) (N * N) long,
        no-bad-factor N 0 rows (rows-finite (contents s) N s.columns (fine s w)),
      )

-- ---- read, printed, read again

small : (text : List ℕ) (numbers : ℕ) → numbers < 64 → outcome text numbers ≡ refuses WrongSize 0
unfolding outcome
small text numbers few = rw (lt-leb 64 numbers few) (by (leb (length text) 4096))
  where
    by : (b : Bool) → cond (b && false) (read_from 1 nothing (cut text).whole (cut text).rest) (refuses WrongSize 0) ≡ refuses WrongSize 0
    by true = refl
    by false = refl

module _ (s : Sheet) (w : WellFormed s) where
  -- the same in any lent matrix, large enough or not
  each : {A : Type 0} (f : Outcome → A) (numbers : ℕ) → f (accepts (contents (arranged s))) ≡ f (accepts (contents s))
      → f (outcome (sheet_text (arranged s)) numbers) ≡ f (outcome (sheet_text s) numbers)
  each f numbers same = ⊎_elim few enough (below_or numbers 64)
    where
      few : numbers < 64 → f (outcome (sheet_text (arranged s)) numbers) ≡ f (outcome (sheet_text s) numbers)
      few h = rw (small (sheet_text (arranged s)) numbers h, small (sheet_text s) numbers h)

      enough : 64 ≤ numbers → f (outcome (sheet_text (arranged s)) numbers) ≡ f (outcome (sheet_text s) numbers)
      enough h = rw (accepted (arranged s) (arranged-formed s w) numbers h, accepted s w numbers h) same

  alike : ReadAlike (sheet_text (arranged s)) (sheet_text s)
  unfolding answer_of names_of contents arranged
  alike =
      record {
        answer = λ numbers. each answer_of numbers refl;
        names = λ numbers. each names_of numbers refl;
        matrix = λ before. each (λ (o : Outcome). matrix_of o before) (length before) (arranged-matrix s w before);
      }

  pub printed-text : (before : List Float) → outcome (sheet_text s) (length before) ≡ accepts (contents s) → text_printed (sheet_text s) before ≡ sheet_text (arranged s)
  unfolding text_printed answer_of count_in contents
  printed-text before e = rw e (ap sheet_text (printed-is s w before))

  printed-again : (after : List Float) → 64 ≤ length after → text_printed (sheet_text (arranged s)) after ≡ sheet_text (arranged s)
  unfolding text_printed answer_of count_in names_of contents arranged
  printed-again after room =
      rw (accepted (arranged s) (arranged-formed s w) (length after) room, arranged-matrix s w after) (ap sheet_text (printed-is s w after))

  answers : (before : List Float) → outcome (sheet_text s) (length before) ≡ accepts (contents s) → (room : ℕ) → length (sheet_text (arranged s)) ≤ room
      → print_answers (sheet_text s) before room ≡ Ok (length (sheet_text (arranged s)))
  unfolding print_answers answer_of count_in contents
  answers before e room fits = rw e (prints s w before room fits)

  leaves : (before : List Float) → outcome (sheet_text s) (length before) ≡ accepts (contents s) → (bytes : List ℕ)
      → length (sheet_text (arranged s)) ≤ length bytes
      → print_leaves (sheet_text s) before bytes ≡ sheet_text (arranged s) ++ drop (length (sheet_text (arranged s))) bytes
  unfolding print_leaves bytes_after answer_of count_in contents
  leaves before e bytes fits = rw (answers before e (length bytes) fits, e, printed-is s w before)

  back : (before : List Float) → outcome (sheet_text s) (length before) ≡ accepts (contents s) → PrintedBack (sheet_text s) before s
  back before e =
      let text = printed-text before e in
      record {
        sheet = (arranged s, text, in_order s w);
        short = rw text (sheet-long (arranged s) (arranged-formed s w));
        answer = λ bytes fits. rw text (answers before e (length bytes) (rw text at fits));
        left = λ bytes fits. rw text (leaves before e bytes (rw text at fits));
        alike = rw text alike;
        stays = λ after room. rw text (printed-again after room);
      }

pub printed-back : (text : List ℕ) (before : List Float) (s : Sheet) → Reads text (length before) s → PrintedBack text before s
printed-back text before s read = rw read.text-is (back s read.formed before (rw read.text-is at read.answered))
