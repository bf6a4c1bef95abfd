-- The document's example by the laws: it is read, each pair of names finds its own factor in either order of the columns, and it is printed as
-- the document says. Assumes nothing.
use Prim.Native.Nat.{ℕ, ◌≤◌}
use mathlib.Core.Path.{◌≡◌, refl, ap, ◌∙◌}
use mathlib.Core.List.{List, [], ◌∷◌}
use lib.Ieee.{Float, binary64, of_bits}
use lib.ListN.{length}
use Rattle.hexadecimal.specs.Hex.{digits, digit_of}
use Rattle.naming.specs.Name.{name_byte, every, word_of, low_bytes, bytes_of_word, sixteen, bytes_of, past_end, named, is_name, same_name, is_in}
use Rattle.naming.specs.declared.Name.{Name}
use Rattle.sheet.specs.Sheet.{channels_key, column_key, row_key, factor_key, position, under, Block, row_names, good_names, single, among, finite_bits, full_blocks, WellFormed, count_text, columns_text, factors_text, blocks_text, sheet_text}
use Rattle.sheet_laws.specs.Example.{channels_2, column-q10, column-q2, row-q10, row-q2, factor-tenth, factor-one, factor-zero, example_text, printed_text, sorted_text, q10, q2, tenth, one, example, sorted}
use Rattle.sheet_laws.specs.Words.{In, here, there, swap, factors_of, contents, Reads, first, later, Stands, factor_read, entries, Counterpart, SameUpToOrder, text_printed}
use Rattle.sheet_laws.proofs.Arranged.{ordered, arranged}
use Rattle.sheet_laws.proofs.Laws.{every-sheet-is-read, factor-is_what_stands, order-says-nothing}
use Rattle.sheet_laws.proofs.Printing.{printed-text}

-- ---- it is read

example-formed : WellFormed example
unfolding example q10 q2 tenth one named word_of bytes_of past_end sixteen bytes_of_word low_bytes good_names is_name every name_byte single is_in same_name row_names among full_blocks finite_bits of_bits
example-formed =
    record {
      some = refl;
      most = refl;
      names = refl;
      single_columns = refl;
      block_each = refl;
      single_rows = refl;
      rows_are_columns = refl;
      full = refl;
    }

sorted-formed : WellFormed sorted
unfolding sorted q10 q2 tenth one named word_of bytes_of past_end sixteen bytes_of_word low_bytes good_names is_name every name_byte single is_in same_name row_names among full_blocks finite_bits of_bits
sorted-formed =
    record {
      some = refl;
      most = refl;
      names = refl;
      single_columns = refl;
      block_each = refl;
      single_rows = refl;
      rows_are_columns = refl;
      full = refl;
    }

example-text : example_text ≡ sheet_text example
unfolding example_text channels_2 column-q10 column-q2 row-q10 row-q2 factor-tenth factor-one factor-zero q10 q2 tenth one example sheet_text count_text columns_text blocks_text factors_text channels_key column_key row_key factor_key named word_of bytes_of sixteen bytes_of_word low_bytes digits digit_of
example-text = refl

sorted-text : sorted_text ≡ sheet_text sorted
unfolding sorted_text channels_2 column-q10 column-q2 row-q10 row-q2 factor-tenth factor-one factor-zero q10 q2 tenth one sorted sheet_text count_text columns_text blocks_text factors_text channels_key column_key row_key factor_key named word_of bytes_of sixteen bytes_of_word low_bytes digits digit_of
sorted-text = refl

pub example-reads : (numbers : ℕ) → 64 ≤ numbers → Reads example_text numbers example
example-reads numbers room =
    record {
      room = room;
      formed = example-formed;
      text-is = example-text;
      answered = rw example-text (every-sheet-is-read example numbers example-formed room);
    }

pub sorted-reads : (numbers : ℕ) → 64 ≤ numbers → Reads sorted_text numbers sorted
sorted-reads numbers room =
    record {
      room = room;
      formed = sorted-formed;
      text-is = sorted-text;
      answered = rw sorted-text (every-sheet-is-read sorted numbers sorted-formed room);
    }

-- ---- each pair of names finds its own factor

tenth-stands : Stands example q2 q10 tenth
unfolding example
tenth-stands = record { block = record { row = q2; factors = tenth ∷ one ∷ [] }; listed = here; named = refl; at = first }

zero-stands : Stands example q10 q2 0
unfolding example
zero-stands = record { block = record { row = q10; factors = one ∷ 0 ∷ [] }; listed = there here; named = refl; at = later first }

pub q2-at-q10 : (before : List Float) → 64 ≤ length before → factor_read example_text before q2 q10 ≡ of_bits binary64 tenth
q2-at-q10 before room = factor-is_what_stands example_text before example q2 q10 tenth (example-reads (length before) room) tenth-stands

pub q10-at-q2 : (before : List Float) → 64 ≤ length before → factor_read example_text before q10 q2 ≡ of_bits binary64 0
q10-at-q2 before room = factor-is_what_stands example_text before example q10 q2 0 (example-reads (length before) room) zero-stands

-- ---- in either order of the columns

q2-block : Counterpart example sorted (record { row = q2; factors = tenth ∷ one ∷ [] })
unfolding example sorted entries
q2-block = record { block = record { row = q2; factors = one ∷ tenth ∷ [] }; listed = here; same_row = refl; same_entries = swap }

q10-block : Counterpart example sorted (record { row = q10; factors = one ∷ 0 ∷ [] })
unfolding example sorted entries
q10-block = record { block = record { row = q10; factors = 0 ∷ one ∷ [] }; listed = there here; same_row = refl; same_entries = swap }

no_block : (b : Block) → In b [] → Counterpart example sorted b
no_block b = elim [ ]

more-blocks : (x : Block) (xs : List Block) → Counterpart example sorted x → ((b : Block) → In b xs → Counterpart example sorted b)
    → (b : Block) → In b (x ∷ xs) → Counterpart example sorted b
more-blocks x xs one more b here = one
more-blocks x xs one more b (there h) = more b h

either_order : SameUpToOrder example sorted
unfolding example sorted
either_order = record { columns = swap; blocks = more-blocks _ _ q2-block (more-blocks _ _ q10-block no_block) }

pub sorting_says-nothing : (before after : List Float) → 64 ≤ length before → 64 ≤ length after → (r c : Name) → In r example.columns → In c example.columns
    → factor_read example_text before r c ≡ factor_read sorted_text after r c
sorting_says-nothing before after room more r c =
    order-says-nothing example_text sorted_text before after example sorted r c (example-reads (length before) room) (sorted-reads (length after) more) either_order

-- ---- it is printed with its rows in column order

rows_in_order : sheet_text (arranged example) ≡ printed_text
unfolding printed_text channels_2 column-q10 column-q2 row-q10 row-q2 factor-tenth factor-one factor-zero q10 q2 tenth one example sheet_text count_text columns_text blocks_text factors_text channels_key column_key row_key factor_key named word_of bytes_of sixteen bytes_of_word low_bytes digits digit_of arranged ordered under contents position row_names factors_of same_name
rows_in_order = refl

pub example-printed : (before : List Float) → 64 ≤ length before → text_printed example_text before ≡ printed_text
example-printed before room =
    ap (λ (text : List ℕ). text_printed text before) example-text
    ∙ printed-text example example-formed before (every-sheet-is-read example (length before) example-formed room)
    ∙ rows_in_order
