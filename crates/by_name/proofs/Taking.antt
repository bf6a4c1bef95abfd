-- The parts of an accepted plan of what was read: of a channel that the sheet names, its own block's entries that count; of another, its
-- own list alone. Assumes nothing.
use Rattle.std.specs.Prelude.{Some}
use Prim.Native.Nat.{ℕ}
use mathlib.Core.Path.{◌≡◌, sym, ap, subst, ◌∙◌}
use mathlib.Core.Bool.{true, true≢false}
use mathlib.Core.List.{List, [], ◌∷◌}
use lib.Ieee.{Float, binary64, of_bits, to_bits, eq}
use lib.ListN.{length}
use Rattle.exact.specs.Doubles.{nought, one}
use Rattle.naming.specs.declared.Name.{Name}
use Rattle.sheet.specs.Sheet.{under, Block, Sheet, finite_bits}
use Rattle.sheet_laws.specs.Words.{In, contents, Stands, Entry, entries}
use Rattle.sheet_laws.proofs.Arranged.{fine}
use Rattle.sheet_laws.proofs.Factors.{at_entry, entry_at}
use Rattle.sheet_laws.proofs.Laws.{no-other-stands}
use Rattle.sheet_laws.proofs.Rows.{block-for, under-own}
use Rattle.tables.specs.declared.Tables.{Tables}
use Rattle.tables.specs.Tables.{found}
use Rattle.merge.specs.Taking.{Part}
use Rattle.crosstalk.specs.declared.names.Crosstalk.{Crosstalk}
use Rattle.crosstalk.specs.Crosstalk.{parts_at}
use Rattle.crosstalk.proofs.Laws.{plan-parts, not_named, own-list}
use Rattle.by_name.specs.Words.{Given, Planned, parts, Counts, FromColumn, HasPart, TakesRow, TakesOwn, counted, placed, pair, pairs_of, pairs_from}
use Rattle.by_name.proofs.Accepting.{accepted-knows}
use Rattle.by_name.proofs.Finding.{found_name, one_name, known_at}
use Rattle.by_name.proofs.Parts.{row-placed, entry-column, bits_back, counted_in, in_counted, entries-apart, counted-apart, of_entry, once, pairs-placed}
use Rattle.by_name.proofs.Row.{names-are, row-place, no_row, row-numbers}

module _ (text : List ℕ) (before : List Float) (s : Sheet) (c : Crosstalk) (factors : List Float) (g : Given text before s c factors) (t : Tables) (r : Name) (ok : Planned t r c factors) where
  -- ---- a channel that the sheet names

  pub row-parts : In r s.columns → parts t r c factors ≡ placed t (counted (entries s.columns (under (contents s) r)))
  unfolding parts_at
  row-parts h =
      (plan-parts t r c factors ok).parts
      ∙ rw (row-place text before s c factors g r h, names-are text before s c factors g, row-numbers text before s c factors g r h)
      (row-placed t s.columns (under (contents s) r))

  own_row : (b : Block) → In b s.blocks → b.row ≡ r → under (contents s) r ≡ b.factors
  own_row b listed named = ap (under (contents s)) (sym named) ∙ under-own s g.reads.formed b listed

  pub block-parts : In r s.columns → (b : Block) → In b s.blocks → b.row ≡ r → parts t r c factors ≡ placed t (counted (entries s.columns b.factors))
  block-parts h b listed named = row-parts h ∙ ap (λ (fs : List ℕ). placed t (counted (entries s.columns fs))) (own_row b listed named)

  from-sheet : In r s.columns → (p : Part) → In p (parts t r c factors) → FromColumn s t r p
  from-sheet h p listed =
      let w = g.reads.formed in
      let b = block-for s w r h in
      let fs = b.block.factors in
      let e = of_entry t p (counted (entries s.columns fs)) (subst (In p) (block-parts h b.block b.listed b.named) listed) in
      let k = counted_in e.entry (entries s.columns fs) e.listed in
      let at = entry_at e.entry s.columns fs k.0 in
      let fine-row : finite_bits fs ≡ true = ap finite_bits (sym (own_row b.block b.listed b.named)) ∙ fine s w r h in
      record {
        column = e.entry.column;
        bits = e.entry.bits;
        stands = record { block = b.block; listed = b.listed; named = b.named; at = at };
        place = e.place;
        named = found_name t e.entry.column p.place e.place;
        factor = ap (to_bits binary64) e.factor ∙ bits_back e.entry.column e.entry.bits s.columns fs fine-row at;
        counts = k.1;
      }

  each-column : In r s.columns → (d : Name) (bits : ℕ) → Stands s r d bits → Counts bits → HasPart t d bits (parts t r c factors)
  each-column h d bits st counts =
      let w = g.reads.formed in
      let fs = st.block.factors in
      let e : Entry = record { column = d; bits = bits } in
      let listed = at_entry d bits s.columns fs st.at in
      let k = known_at t d ((accepted-knows text before s c factors g t r ok).columns d (entry-column e s.columns fs listed)) in
      let only = once t (counted-apart (entries-apart s.columns fs w.single_columns)) e (in_counted e (entries s.columns fs) listed counts) k.place k.is in
      record { place = k.place; found_at = k.is; once = rw (block-parts h st.block st.listed st.named) only }

  zero-skips : In r s.columns → (d : Name) (bits : ℕ) → Stands s r d bits → eq (of_bits binary64 bits) nought ≡ true
      → (p : Part) → In p (parts t r c factors) → found t d ≡ Some p.place → ⊥
  zero-skips h d bits st zero p listed at =
      let f = from-sheet h p listed in
      let same = one_name t f.column d p.place f.place at in
      let stands : Stands s r d f.bits = subst (λ (n : Name). Stands s r n f.bits) same f.stands in
      let bits-same = no-other-stands text (length before) s r d f.bits bits g.reads stands st in
      true≢false (sym zero ∙ ap (λ (b : ℕ). eq (of_bits binary64 b) nought) (sym bits-same) ∙ f.counts)

  pub takes-row : In r s.columns → TakesRow s t r (parts t r c factors)
  takes-row h = record { from-sheet = from-sheet h; each-column = each-column h; zero-skips = zero-skips h }

  -- by name

  pub row-pairs : In r s.columns → pairs_of t (parts t r c factors) ≡ pairs_from (counted (entries s.columns (under (contents s) r)))
  row-pairs h =
      let es = entries s.columns (under (contents s) r) in
      rw (row-parts h)
      (pairs-placed t (counted es)
      (λ e k. (accepted-knows text before s c factors g t r ok).columns e.column (entry-column e s.columns (under (contents s) r) (counted_in e es k).0)))

  pub block-pairs : In r s.columns → (b : Block) → In b s.blocks → b.row ≡ r
      → pairs_of t (parts t r c factors) ≡ pairs_from (counted (entries s.columns b.factors))
  block-pairs h b listed named = row-pairs h ∙ ap (λ (fs : List ℕ). pairs_from (counted (entries s.columns fs))) (own_row b listed named)

  -- ---- a channel that it does not name

  pub takes-own : (In r s.columns → ⊥) → TakesOwn t r (parts t r c factors)
  takes-own out =
      let k = known_at t r (accepted-knows text before s c factors g t r ok).channel in
      record {
        place = k.place;
        found_at = k.is;
        alone = (plan-parts t r c factors ok).parts ∙ not_named t r c factors (no_row text before s c factors g r out) ∙ own-list t r c factors k.place k.is;
      }

  pub own-pairs : (In r s.columns → ⊥) → pairs_of t (parts t r c factors) ≡ pair r one ∷ []
  unfolding pairs_of
  own-pairs out =
      let o = takes-own out in
      rw (o.alone, found_name t r o.place o.found_at)
