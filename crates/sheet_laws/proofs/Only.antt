-- Every accepted text is the text of a sheet that follows the layout, and of one only: the sheet that was read. The one idea: a text is its
-- lines, and each line that is taken grows the text of what was read by exactly itself. Assumes nothing.
use Prim.Native.Nat.{ℕ, suc, ◌+◌, ◌-◌, ◌*◌, ◌≤◌}
use mathlib.Core.Path.{◌≡◌, refl, sym, ap, ◌∙◌}
use mathlib.Core.Bool.{Bool, true, false, ◌&&◌, cond}
use mathlib.Core.List.{List, [], ◌∷◌, ◌++◌, append_assoc, append-nil}
use native.Mathlib.Omega.{arith}
use borrow.Author.Tests.{leb-true, le-leb, eqb-true}
use lib.Dec.{leb, eqb, lit≤}
use lib.ListN.{length}
use lib.Seq.{take_at, drop_at}
use Rattle.quant.specs.declared.refusal.Refusal.{Refusal}
use Rattle.quant.specs.declared.refusal.Refusal.TheVariants.{Layout, WrongSize}
use Rattle.exact.proofs.Truth.{both}
use Rattle.sheet.specs.Sheet.{Cut, onto, cut, behind, SoFar, nothing, Step, goes, stops, count_step, step, complete, accepts, refuses, onward, read_from, outcome, Block, Sheet, row_names, full_blocks, good_names, single, among, finite_bits, WellFormed, channels_key, count_text, columns_text, blocks_text, sheet_text}
use Rattle.sheet_laws.specs.Words.{factors_of, contents, blocks_from, sheet_read, Reads}
use Rattle.sheet_laws.proofs.Accepted.{accepted}
use Rattle.sheet_laws.proofs.Backwards.{count-line}
use Rattle.sheet_laws.proofs.Parts.{empty, rows-from, long-from, factors-from, full_from}
use Rattle.sheet_laws.proofs.Steps.{known}
use Rattle.sheet_laws.proofs.Growing.{Sound, text_of, line-grows}

-- ---- line after line

-- some lines, each with its LF
joined : List (List ℕ) → List ℕ
joined [] = []
joined (line ∷ lines) = line ++ 10 ∷ joined lines

-- what is left at the end of an accepted text
record Ended (s : SoFar) (lines : List (List ℕ)) (rest : List ℕ) (u : SoFar) : Type 0 where
  sound : Sound u
  whole : complete u ≡ true
  none : rest ≡ []
  text : text_of u ≡ text_of s ++ joined lines

pub not-refuses : {r : Refusal} {place : ℕ} {u : SoFar} → refuses r place ≡ accepts u → ⊥
not-refuses e = let z : ◌≡◌ {A = ℕ} 0 1 = cc in omega arith

ends : (place : ℕ) (s : SoFar) (lines : List (List ℕ)) (rest : List ℕ) (u : SoFar) → Sound s → read_from place s lines rest ≡ accepts u → Ended s lines rest u
unfolding read_from joined onward
ends place s [] rest u g e = by (complete s && eqb (length rest) 0) refl e
  where
    by : (b : Bool) → complete s && eqb (length rest) 0 ≡ b → cond b (accepts s) (refuses Layout place) ≡ accepts u → Ended s [] rest u
    by false _ e = absurd (not-refuses e)
    by true tests e =
        let parts = both (complete s) (eqb (length rest) 0) tests in
        let same : u ≡ s = cc in
        rw same (record { sound = g; whole = parts.0; none = empty rest (omega (arith, eqb-true (length rest) 0 parts.1)); text = sym (append-nil (text_of s)) })
ends place s (line ∷ lines) rest u g e = by (λ t. ends (suc place) t lines rest u) (step s line) refl e
  where
    by : ((t : SoFar) → Sound t → read_from (suc place) t lines rest ≡ accepts u → Ended t lines rest u) → (x : Step) → step s line ≡ x
        → onward place x (λ t. read_from (suc place) t lines rest) ≡ accepts u → Ended s (line ∷ lines) rest u
    by on (stops r) _ e = absurd (not-refuses e)
    by on (goes t) taken e =
        let grown = line-grows s t line g taken in
        let last = on t grown.sound e in
        record { sound = last.sound; whole = last.whole; none = last.none; text = rw (last.text, grown.text) (simp append_assoc) }

-- ---- a text is its lines and what stands behind them

put : (b : ℕ) (whole : List (List ℕ)) (rest : List ℕ) → joined (onto b whole rest).whole ++ (onto b whole rest).rest ≡ b ∷ (joined whole ++ rest)
unfolding joined onto
put b [] rest = refl
put b (line ∷ lines) rest = refl

cut-joined : (text : List ℕ) → joined (cut text).whole ++ (cut text).rest ≡ text
unfolding cut joined
cut-joined [] = refl
cut-joined (b ∷ bs) = by (cut-joined bs) (eqb b 10) refl
  where
    next : Bool → Cut
    next t = cond t (record { whole = [] ∷ (cut bs).whole; rest = (cut bs).rest }) (onto b (cut bs).whole (cut bs).rest)

    by : joined (cut bs).whole ++ (cut bs).rest ≡ bs → (t : Bool) → eqb b 10 ≡ t → joined (next t).whole ++ (next t).rest ≡ b ∷ bs
    by tail true feed = let head = sym (eqb-true b 10 feed) in λ i. head i ∷ tail i
    by tail false other = put b (cut bs).whole (cut bs).rest ∙ ap (λ (l : List ℕ). b ∷ l) tail

-- ---- a whole text

record Begun (lines : List (List ℕ)) (rest : List ℕ) (u : SoFar) : Type 0 where
  sound : Sound u
  whole : complete u ≡ true
  none : rest ≡ []
  text : text_of u ≡ joined lines

first : (count : ℕ) → 1 ≤ count → count ≤ 8 → Sound (known count [] [] [])
unfolding good_names single among finite_bits
first count some most =
    record {
      some = some;
      most = most;
      names = refl;
      single_columns = refl;
      width = omega arith;
      early = λ more. (refl, refl);
      single_rows = refl;
      rows_are_columns = refl;
      height = omega arith;
      fine = refl;
      most-factors = omega arith;
      least-factors = omega arith;
    }

first-text : (line : List ℕ) (lines : List (List ℕ)) (count : ℕ) → line ≡ channels_key ++ (48 + count) ∷ []
    → text_of (known count [] [] []) ++ joined lines ≡ line ++ 10 ∷ joined lines
unfolding text_of count_text channels_key columns_text blocks_text blocks_from
first-text line lines count e = rw e

begins : (lines : List (List ℕ)) (rest : List ℕ) (u : SoFar) → read_from 1 nothing lines rest ≡ accepts u → Begun lines rest u
unfolding read_from nothing complete onward joined step
begins [] rest u e = absurd (not-refuses e)
begins (line ∷ lines) rest u e = by (count_step (behind channels_key line)) refl e
  where
    by : (x : Step) → count_step (behind channels_key line) ≡ x → onward 1 x (λ t. read_from 2 t lines rest) ≡ accepts u → Begun (line ∷ lines) rest u
    by (stops r) _ e = absurd (not-refuses e)
    by (goes t) taken e =
        let c = count-line line t taken in
        let last = ends 2 (known c.count [] [] []) lines rest u (first c.count c.some c.most) (rw c.now-known at e) in
        record { sound = last.sound; whole = last.whole; none = last.none; text = last.text ∙ first-text line lines c.count c.line-is }

record Whole (u : SoFar) : Type 0 where
  columns : length u.columns ≡ u.count
  rows : length u.rows ≡ u.count
  factors : length u.factors ≡ u.count * u.count

is_whole : (u : SoFar) → complete u ≡ true → Whole u
unfolding complete
is_whole u e =
    let a = leb 1 u.count in
    let b = eqb (length u.columns) u.count in
    let d = eqb (length u.rows) u.count in
    let outer = both (a && b && d) (eqb (length u.factors) (u.count * u.count)) e in
    let middle = both (a && b) d outer.0 in
    let inner = both a b middle.0 in
    record {
      columns = eqb-true (length u.columns) u.count inner.1;
      rows = eqb-true (length u.rows) u.count middle.1;
      factors = eqb-true (length u.factors) (u.count * u.count) outer.1;
    }

module _ (u : SoFar) (g : Sound u) (w : Whole u) where
  held : length u.factors ≡ length u.rows * u.count
  held = rw w.rows w.factors

  reads-back : contents (sheet_read u) ≡ u
  unfolding contents sheet_read
  reads-back =
      let rows = rows-from u.count u.rows u.factors in
      let factors = factors-from u.count u.rows u.factors (omega (arith, held)) in
      λ i. record { count = w.columns i; columns = u.columns; rows = rows i; factors = factors i }

  same_text : text_of u ≡ sheet_text (sheet_read u)
  unfolding text_of sheet_text sheet_read
  same_text = rw w.columns

  well-formed : WellFormed (sheet_read u)
  unfolding sheet_read
  well-formed =
      let rows = rows-from u.count u.rows u.factors in
      record {
        some = rw w.columns (le-leb 1 u.count g.some);
        most = rw w.columns (le-leb u.count 8 g.most);
        names = g.names;
        single_columns = g.single_columns;
        block_each = long-from u.count u.rows u.factors ∙ w.rows ∙ sym w.columns;
        single_rows = rw rows g.single_rows;
        rows_are_columns = rw rows g.rows_are_columns;
        full = rw w.columns (full_from u.count u.rows u.factors held g.fine);
      }

pub record Found (text : List ℕ) (numbers : ℕ) (u : SoFar) : Type 0 where
  pub roomy : 64 ≤ numbers
  pub formed : WellFormed (sheet_read u)
  pub text-is : text ≡ sheet_text (sheet_read u)
  pub read_is : contents (sheet_read u) ≡ u

pub only : (text : List ℕ) (numbers : ℕ) (u : SoFar) → outcome text numbers ≡ accepts u → Found text numbers u
unfolding outcome
only text numbers u e = by (leb (length text) 4096 && leb 64 numbers) refl e
  where
    by : (b : Bool) → leb (length text) 4096 && leb 64 numbers ≡ b → cond b (read_from 1 nothing (cut text).whole (cut text).rest) (refuses WrongSize 0) ≡ accepts u
        → Found text numbers u
    by false _ e = absurd (not-refuses e)
    by true sizes e =
        let b = begins (cut text).whole (cut text).rest u e in
        let w = is_whole u b.whole in
        let lines : joined (cut text).whole ≡ text = sym (append-nil (joined (cut text).whole)) ∙ rw b.none at (cut-joined text) in
        record {
          roomy = leb-true 64 numbers (both (leb (length text) 4096) (leb 64 numbers) sizes).1;
          formed = well-formed u b.sound w;
          text-is = sym lines ∙ sym b.text ∙ same_text u b.sound w;
          read_is = reads-back u b.sound w;
        }

pub reads : (text : List ℕ) (numbers : ℕ) (u : SoFar) → outcome text numbers ≡ accepts u → Reads text numbers (sheet_read u)
reads text numbers u e =
    let f = only text numbers u e in
    record { room = f.roomy; formed = f.formed; text-is = f.text-is; answered = e ∙ ap accepts (sym f.read_is) }

-- ---- and of one sheet only

blocks-back : (count : ℕ) (bs : List Block) → full_blocks count bs ≡ true → blocks_from count (row_names bs) (factors_of bs) ≡ bs
unfolding full_blocks blocks_from row_names factors_of
blocks-back count [] full = refl
blocks-back count (b ∷ bs) full =
    let outer = both (eqb (length b.factors) count && finite_bits b.factors) (full_blocks count bs) full in
    let long = eqb-true (length b.factors) count (both (eqb (length b.factors) count) (finite_bits b.factors) outer.0).0 in
    rw (take_at b.factors (factors_of bs) count long, drop_at b.factors (factors_of bs) count long, blocks-back count bs outer.1)

sheet-back : (s : Sheet) → WellFormed s → sheet_read (contents s) ≡ s
unfolding sheet_read contents
sheet-back s w = ap (λ (bs : List Block). record { columns = s.columns; blocks = bs }) (blocks-back (length s.columns) s.blocks w.full)

pub one-sheet : (s t : Sheet) → WellFormed s → WellFormed t → sheet_text s ≡ sheet_text t → s ≡ t
one-sheet s t v w same =
    let a : outcome (sheet_text s) 64 ≡ accepts (contents s) = accepted s v 64 (lit≤ tt) in
    let b : outcome (sheet_text t) 64 ≡ accepts (contents t) = accepted t w 64 (lit≤ tt) in
    let equal : contents s ≡ contents t = cc in
    sym (sheet-back s v) ∙ ap sheet_read equal ∙ sheet-back t w
