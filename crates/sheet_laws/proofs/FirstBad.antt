-- A refusal tells the first bad line, and 17 and 19 are told exactly where that line is doubled, or a row that is no column. The one idea:
-- behind lines that are taken the reader goes on as if it began there. Assumes nothing.
use Rattle.std.specs.Prelude.{Option, Some, None}
use Prim.Native.Nat.{ℕ, suc, ◌+◌, ◌*◌, ◌≤◌}
use mathlib.Core.Path.{◌≡◌, refl, sym, ap, ◌∙◌}
use mathlib.Core.Bool.{Bool, true, false, ◌&&◌, cond}
use mathlib.Core.List.{List, [], ◌∷◌, ◌++◌, append-nil}
use mathlib.Core.Logic.{◌↔◌}
use native.Mathlib.Omega.{arith}
use borrow.Author.Tests.{leb-true, ltb-true, ltb-false, eqb-true, eqb-false, lt-ltb, le-ltb, le-leb, ne_eqb}
use lib.Dec.{leb, ltb, eqb}
use lib.Ieee.{binary64, of_bits}
use lib.Ieee.Scale.{finite}
use lib.ListN.{length}
use Rattle.exact.proofs.Truth.{never, both}
use Rattle.hexadecimal.specs.Hex.{all_digits, number}
use Rattle.naming.specs.Name.{naming_of, is_in, bytes_of}
use Rattle.naming.specs.declared.Name.{Name}
use Rattle.quant.specs.declared.refusal.Refusal.{Refusal}
use Rattle.quant.specs.declared.refusal.Refusal.TheVariants.{Malformed, Layout, WrongSize, DoubledName, NoList, NoColumn}
use Rattle.sheet.specs.Sheet.{channels_key, column_key, row_key, factor_key, Behind, value, other, behind, cut, SoFar, nothing, Step, goes, stops, count_step, column_named, column_step, row_named, row_step, factor_bits, factor_step, step, complete, Outcome, accepts, refuses, onward, read_from, outcome}
use Rattle.sheet_laws.specs.FirstBad.{AllTaken, no_line, a-line, FirstLine, FirstBad, bad-line, bad-end, ColumnDue, RowDue, NameLine, DoubledLine, doubled-column, doubled-row, NoColumnLine}
use Rattle.sheet_laws.proofs.Backwards.{behind-is, spelled}
use Rattle.sheet_laws.proofs.Lines.{behind-key}
use Rattle.sheet_laws.proofs.Names.{in_is, is-in, not_in}
use Rattle.sheet_laws.proofs.Only.{not-refuses}
use Rattle.sheet_laws.proofs.Parts.{empty}
use Rattle.sheet_laws.proofs.Steps.{naming-back}

-- ---- one line

-- what a line comes to, and why
data Judged (s : SoFar) (line : List ℕ) : Step → Type 0 where
  passes : {t : SoFar} → Judged s line (goes t)
  layout : Judged s line (stops Layout)
  malformed : Judged s line (stops Malformed)
  doubled : DoubledLine s line → Judged s line (stops DoubledName)
  columnless : NoColumnLine s line → Judged s line (stops NoColumn)

module _ (s : SoFar) (line : List ℕ) where
  either : (b : Bool) (x y : Step) → (b ≡ true → Judged s line x) → (b ≡ false → Judged s line y) → Judged s line (cond b x y)
  either true x y f g = f refl
  either false x y f g = g refl

  count-judged : (v : Behind) → Judged s line (count_step v)
  unfolding count_step
  count-judged other = layout
  count-judged (value []) = layout
  count-judged (value (d ∷ [])) = either (leb 49 d && leb d 56) _ _ (λ _. passes) (λ _. layout)
  count-judged (value (d ∷ (e ∷ es))) = layout

  factor-judged : (v : Behind) → Judged s line (factor_step s v)
  unfolding factor_step factor_bits
  factor-judged other = layout
  factor-judged (value text) =
      either (eqb (length text) 16 && all_digits text) _ _ (λ _. either (finite (of_bits binary64 (number text))) _ _ (λ _. passes) (λ _. malformed)) (λ _. layout)

  name-line : (key bytes : List ℕ) (n : Name) → behind key line ≡ value bytes → naming_of bytes ≡ Some n → NameLine key line n
  name-line key bytes n is naming =
      let sp = spelled bytes n naming in
      record { good = sp.ok; line-is = rw sp.bytes-are at (behind-is key line bytes is) }

  column-judged : ColumnDue s → (v : Behind) → behind column_key line ≡ v → Judged s line (column_step s v)
  unfolding column_step column_named
  column-judged due other is = layout
  column-judged due (value bytes) is = by (naming_of bytes) refl
    where
      by : (m : Option Name) → naming_of bytes ≡ m → Judged s line (column_named s m)
      by None _ = malformed
      by (Some n) naming =
          either (is_in n s.columns) _ _
          (λ old. doubled (doubled-column n due (name-line column_key bytes n is naming) (is-in n s.columns old)))
          (λ _. passes)

  row-judged : RowDue s → (v : Behind) → behind row_key line ≡ v → Judged s line (row_step s v)
  unfolding row_step row_named
  row-judged due other is = layout
  row-judged due (value bytes) is = by (naming_of bytes) refl
    where
      by : (m : Option Name) → naming_of bytes ≡ m → Judged s line (row_named s m)
      by None _ = malformed
      by (Some n) naming =
          let row = name-line row_key bytes n is naming in
          either (is_in n s.rows) _ _
          (λ old. doubled (doubled-row n due row (is-in n s.rows old)))
          (λ new.
          either (is_in n s.columns) _ _
          (λ _. passes)
          (λ none.
          columnless (record {
            name = n;
            due = due;
            row = row;
            no_row = λ h. never (in_is n s.rows h) new;
            no-column = λ h. never (in_is n s.columns h) none;
          })))

  judged : Judged s line (step s line)
  unfolding step
  judged =
      either (eqb s.count 0) _ _
      (λ _. count-judged (behind channels_key line))
      (λ begun.
      let counted : 1 ≤ s.count = omega (arith, eqb-false s.count 0 begun) in
      either (ltb (length s.columns) s.count) _ _
      (λ short. column-judged (record { counted = counted; missing = ltb-true (length s.columns) s.count short }) (behind column_key line) refl)
      (λ columned.
      either (ltb (length s.factors) (length s.rows * s.count)) _ _
      (λ _. factor-judged (behind factor_key line))
      (λ filled.
      either (ltb (length s.rows) s.count) _ _
      (λ short.
      row-judged
      (record {
        counted = counted;
        columned = ltb-false (length s.columns) s.count columned;
        filled = ltb-false (length s.factors) (length s.rows * s.count) filled;
        missing = ltb-true (length s.rows) s.count short;
      })
      (behind row_key line)
      refl)
      (λ _. layout))))

begun : (s : SoFar) → 1 ≤ s.count → eqb s.count 0 ≡ false
begun s some = ne_eqb s.count 0 (λ e. omega arith)

-- where a row's line is due, it is judged by its name
row_named_lem : (s : SoFar) (line : List ℕ) (n : Name) → RowDue s → NameLine row_key line n → step s line ≡ row_named s (Some n)
unfolding step row_step
row_named_lem s line n due row =
    rw (
      row.line-is,
      begun s due.counted,
      le-ltb (length s.columns) s.count due.columned,
      le-ltb (length s.factors) (length s.rows * s.count) due.filled,
      lt-ltb (length s.rows) s.count due.missing,
      behind-key row_key (bytes_of n),
      naming-back n row.good,
    )

pub doubled-exactly : (s : SoFar) (line : List ℕ) → (step s line ≡ stops DoubledName) ↔ DoubledLine s line
unfolding step column_step column_named row_named
doubled-exactly s line = (λ e. out (rw e at (judged s line)), back)
  where
    out : Judged s line (stops DoubledName) → DoubledLine s line
    out (doubled d) = d

    back : DoubledLine s line → step s line ≡ stops DoubledName
    back (doubled-column n due column old) =
        rw (
          column.line-is,
          begun s due.counted,
          lt-ltb (length s.columns) s.count due.missing,
          behind-key column_key (bytes_of n),
          naming-back n column.good,
          in_is n s.columns old,
        )
    back (doubled-row n due row old) = row_named_lem s line n due row ∙ rw (in_is n s.rows old)

pub no-column-exactly : (s : SoFar) (line : List ℕ) → (step s line ≡ stops NoColumn) ↔ NoColumnLine s line
unfolding row_named
no-column-exactly s line = (λ e. out (rw e at (judged s line)), back)
  where
    out : Judged s line (stops NoColumn) → NoColumnLine s line
    out (columnless h) = h

    back : NoColumnLine s line → step s line ≡ stops NoColumn
    back h =
        row_named_lem s line h.name h.due h.row
        ∙ rw (not_in h.name s.rows h.no_row, not_in h.name s.columns h.no-column)

pub no-list-never : (s : SoFar) (line : List ℕ) → step s line ≡ stops NoList → ⊥
no-list-never s line e = out (rw e at (judged s line))
  where
    out : Judged s line (stops NoList) → ⊥
    out = elim [ ]

-- ---- a whole text

-- behind lines that are taken the reader goes on
onward-from : (place : ℕ) (s t : SoFar) (lines more : List (List ℕ)) (rest : List ℕ) → AllTaken s lines t
    → read_from place s (lines ++ more) rest ≡ read_from (length lines + place) t more rest
unfolding read_from onward
onward-from place s t [] more rest no_line = let shifted : place ≡ 0 + place = omega arith in ap (λ (p : ℕ). read_from p s more rest) shifted
onward-from place s t (line ∷ lines) more rest (a-line {t = u} goes_on then) =
    let shifted : length lines + suc place ≡ suc (length lines) + place = omega arith in
    rw goes_on (onward-from (suc place) u t lines more rest then ∙ ap (λ (p : ℕ). read_from p t more rest) shifted)

-- lines are all taken, or one is refused and all before it are taken
data Run (s : SoFar) (lines : List (List ℕ)) : Type 0 where
  all-taken : (t : SoFar) → AllTaken s lines t → Run s lines
  one-refused : (before : List (List ℕ)) (line : List ℕ) (after : List (List ℕ)) (t : SoFar) (r : Refusal) → lines ≡ before ++ line ∷ after → AllTaken s before t
      → step t line ≡ stops r → Run s lines

run : (s : SoFar) (lines : List (List ℕ)) → Run s lines
run s [] = all-taken s no_line
run s (line ∷ lines) = by (λ t. run t lines) (step s line) refl
  where
    on : (t : SoFar) → step s line ≡ goes t → Run t lines → Run s (line ∷ lines)
    on t goes_on (all-taken u then) = all-taken u (a-line goes_on then)
    on t goes_on (one-refused before bad after u r parts then refused) =
        one-refused (line ∷ before) bad after u r (ap (λ (l : List (List ℕ)). line ∷ l) parts) (a-line goes_on then) refused

    by : ((t : SoFar) → Run t lines) → (x : Step) → step s line ≡ x → Run s (line ∷ lines)
    by behind (goes t) e = on t e (behind t)
    by behind (stops r) e = one-refused [] line lines s r refl no_line e

refuses-alike : {r q : Refusal} {place at : ℕ} → refuses r place ≡ refuses q at → (q ≡ r) × (at ≡ place)
refuses-alike e = (cc, cc)

module _ (text : List ℕ) where
  abbrev reading : Outcome
  reading = read_from 1 nothing (cut text).whole (cut text).rest

  line-refuses : (r : Refusal) (place : ℕ) → FirstLine (λ s line. step s line ≡ stops r) text place → reading ≡ refuses r place
  unfolding read_from onward
  line-refuses r place f =
      rw (f.lines, f.place_is) (onward-from 1 nothing f.said f.before (f.line ∷ f.after) (cut text).rest f.taken ∙ rw f.bad)

  -- whether the end is good
  abbrev ended : SoFar → Bool
  ended s = complete s && eqb (length (cut text).rest) 0

  end-decides : (s : SoFar) → AllTaken nothing (cut text).whole s
      → reading ≡ cond (ended s) (accepts s) (refuses Layout (length (cut text).whole + 1))
  unfolding read_from
  end-decides s taken =
      ap (λ (l : List (List ℕ)). read_from 1 nothing l (cut text).rest) (sym (append-nil (cut text).whole))
      ∙ onward-from 1 nothing s (cut text).whole [] (cut text).rest taken

  good-end : (s : SoFar) → ended s ≡ true → (complete s ≡ true) × ((cut text).rest ≡ [])
  good-end s e =
      let parts = both (complete s) (eqb (length (cut text).rest) 0) e in
      (parts.0, empty (cut text).rest (omega (arith, eqb-true (length (cut text).rest) 0 parts.1)))

  told : (r : Refusal) (place : ℕ) → reading ≡ refuses r place → FirstBad text r place
  told r place e = by (run nothing (cut text).whole)
    where
      end : (s : SoFar) → AllTaken nothing (cut text).whole s → (b : Bool) → ended s ≡ b
          → cond b (accepts s) (refuses Layout (length (cut text).whole + 1)) ≡ refuses r place → FirstBad text r place
      end s taken true _ e = absurd (not-refuses (sym e))
      end s taken false bad e =
          let same = refuses-alike e in
          bad-end same.0
          (record { said = s; taken = taken; bad = λ whole none. never (rw (whole, none)) bad; place_is = same.1 })

      by : Run nothing (cut text).whole → FirstBad text r place
      by (all-taken s taken) = end s taken (ended s) refl (sym (end-decides s taken) ∙ e)
      by (one-refused before line after s q lines taken refused) =
          let f : FirstLine (λ s line. step s line ≡ stops q) text (length before + 1) =
          record { before = before; line = line; after = after; said = s; lines = lines; taken = taken; bad = refused; place_is = refl } in
          let same = refuses-alike (sym (line-refuses q (length before + 1) f) ∙ e) in
          rw (same.0, same.1) (bad-line f)

  tells : (r : Refusal) (place : ℕ) → FirstBad text r place → reading ≡ refuses r place
  tells r place (bad-line f) = line-refuses r place f
  tells r place (bad-end is f) = end-decides f.said f.taken ∙ by (ended f.said) refl
    where
      by : (b : Bool) → ended f.said ≡ b → cond b (accepts f.said) (refuses Layout (length (cut text).whole + 1)) ≡ refuses r place
      by true e = let good = good-end f.said e in absurd (f.bad good.0 good.1)
      by false _ = rw (is, f.place_is)

  pub first-bad-told : (numbers : ℕ) (r : Refusal) (place : ℕ) → length text ≤ 4096 → 64 ≤ numbers
      → (outcome text numbers ≡ refuses r place) ↔ FirstBad text r place
  unfolding outcome
  first-bad-told numbers r place short room = rw (le-leb (length text) 4096 short, le-leb 64 numbers room) (told r place, tells r place)

  -- the sizes come before the lines
  pub wrong-sizes : (numbers : ℕ) → (length text ≤ 4096 → 64 ≤ numbers → ⊥) → outcome text numbers ≡ refuses WrongSize 0
  unfolding outcome
  wrong-sizes numbers wrong = by (leb (length text) 4096 && leb 64 numbers) refl
    where
      by : (b : Bool) → leb (length text) 4096 && leb 64 numbers ≡ b → cond b reading (refuses WrongSize 0) ≡ refuses WrongSize 0
      by false _ = refl
      by true e =
          let parts = both (leb (length text) 4096) (leb 64 numbers) e in
          absurd (wrong (leb-true (length text) 4096 parts.0) (leb-true 64 numbers parts.1))

-- ---- 17, 18 and 19

-- a line's fault said otherwise
said_as : {Fault Other : SoFar → List ℕ → Type 0} {text : List ℕ} {place : ℕ} → ((s : SoFar) (line : List ℕ) → Fault s line → Other s line)
    → FirstLine Fault text place → FirstLine Other text place
said_as otherwise f =
    record {
      before = f.before;
      line = f.line;
      after = f.after;
      said = f.said;
      lines = f.lines;
      taken = f.taken;
      bad = otherwise f.said f.line f.bad;
      place_is = f.place_is;
    }

module _ (text : List ℕ) (numbers place : ℕ) where
  -- a refusal that is not 15 is told exactly where the first bad line is bad for it
  told-exactly : (Fault : SoFar → List ℕ → Type 0) (r : Refusal) → (r ≡ Layout → ⊥) → ((s : SoFar) (line : List ℕ) → (step s line ≡ stops r) ↔ Fault s line)
      → length text ≤ 4096 → 64 ≤ numbers → (outcome text numbers ≡ refuses r place) ↔ FirstLine Fault text place
  told-exactly Fault r unlike exactly short room =
      let first = first-bad-told text numbers r place short room in
      (λ e. out (first.0 e), λ f. first.1 (bad-line (said_as (λ s line. (exactly s line).1) f)))
    where
      out : FirstBad text r place → FirstLine Fault text place
      out (bad-line f) = said_as (λ s line. (exactly s line).0) f
      out (bad-end is _) = absurd (unlike is)

  pub doubled-told : length text ≤ 4096 → 64 ≤ numbers → (outcome text numbers ≡ refuses DoubledName place) ↔ FirstLine DoubledLine text place
  doubled-told = told-exactly DoubledLine DoubledName (λ e. let z : ◌≡◌ {A = ℕ} 0 1 = cc in omega arith) doubled-exactly

  pub no-column-told : length text ≤ 4096 → 64 ≤ numbers → (outcome text numbers ≡ refuses NoColumn place) ↔ FirstLine NoColumnLine text place
  no-column-told = told-exactly NoColumnLine NoColumn (λ e. let z : ◌≡◌ {A = ℕ} 0 1 = cc in omega arith) no-column-exactly

  pub never-no-list : outcome text numbers ≡ refuses NoList place → ⊥
  unfolding outcome
  never-no-list e = by (leb (length text) 4096 && leb 64 numbers) e
    where
      out : FirstBad text NoList place → ⊥
      out (bad-line f) = no-list-never f.said f.line f.bad
      out (bad-end is _) = let z : ◌≡◌ {A = ℕ} 0 1 = cc in omega arith

      by : (b : Bool) → cond b (reading text) (refuses WrongSize 0) ≡ refuses NoList place → ⊥
      by true e = out (told text NoList place e)
      by false e = let z : ◌≡◌ {A = ℕ} 0 1 = cc in omega arith
