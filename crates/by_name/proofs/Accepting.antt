-- A plan of what was read is accepted exactly where the tables have the channel and every column: the sheet's own rules leave nothing else
-- to refuse. Assumes nothing.
use Prim.Native.Nat.{ℕ, ◌*◌, ◌^◌, ◌≤◌}
use native.Mathlib.Omega.{arith}
use mathlib.Core.Path.{◌≡◌, refl, ap, ◌∙◌}
use mathlib.Core.Bool.{true, ◌&&◌}
use mathlib.Core.List.{List, [], ◌∷◌, ◌++◌}
use borrow.Author.Tests.{le-leb}
use lib.Dec.{ltb}
use lib.Ieee.{Float, binary64, of_bits}
use lib.Ieee.Scale.{finite}
use lib.ListN.{length, take, length-take}
use Rattle.exact.proofs.Truth.{both}
use Rattle.naming.specs.declared.Name.{Name}
use Rattle.naming.specs.Name.{is_name}
use Rattle.rows.specs.Rows.{all_finite}
use Rattle.sheet.specs.Sheet.{SoFar, doubles, under, rows_for, Sheet, good_names, finite_bits}
use Rattle.sheet.proofs.Filling.{doubles-long}
use Rattle.sheet_laws.specs.Words.{In, here, there, contents}
use Rattle.sheet_laws.proofs.Arranged.{fine}
use Rattle.sheet_laws.proofs.Factors.{rows_long, wide}
use Rattle.tables.specs.declared.Tables.{Tables}
use Rattle.crosstalk.specs.declared.names.Crosstalk.{Crosstalk}
use Rattle.crosstalk.specs.Crosstalk.{Plan, is_refused, all_names}
use Rattle.crosstalk.proofs.Laws.{Passes, passed-all, accepted-is}
use Rattle.by_name.specs.Words.{Given, Planned, AllKnown}
use Rattle.by_name.proofs.Finding.{all_one, one-all}
use Rattle.by_name.proofs.Row.{most, count-is, names-are, numbers-are}

-- ---- names

all-good : (ns : List Name) → good_names ns ≡ true → all_names ns ≡ true
unfolding good_names all_names
all-good [] e = refl
all-good (n ∷ ns) e = let two = both (is_name n) (good_names ns) e in rw (two.0, all-good ns two.1)

-- ---- numbers

all-finite : (fs more : List ℕ) → finite_bits fs ≡ true → all_finite (doubles more) ≡ true → all_finite (doubles (fs ++ more)) ≡ true
unfolding finite_bits doubles all_finite
all-finite [] more e rest = rest
all-finite (f ∷ fs) more e rest =
    let outer = both (ltb f (2 ^ 64) && finite (of_bits binary64 f)) (finite_bits fs) e in
    let inner = both (ltb f (2 ^ 64)) (finite (of_bits binary64 f)) outer.0 in
    simp (inner.1, all-finite fs more outer.1 rest)

rows-finite : (t : SoFar) (ns : List Name) → ((n : Name) → In n ns → finite_bits (under t n) ≡ true) → all_finite (doubles (rows_for t ns)) ≡ true
unfolding rows_for doubles all_finite
rows-finite t [] each = refl
rows-finite t (n ∷ ns) each = all-finite (under t n) (rows_for t ns) (each n here) (rows-finite t ns (λ m h. each m (there h)))

-- ---- the plan

module _ (text : List ℕ) (before : List Float) (s : Sheet) (c : Crosstalk) (factors : List Float) (g : Given text before s c factors) (t : Tables) (r : Name) where
  abbrev N : ℕ
  N = length s.columns

  enough : N * N ≤ length factors
  enough =
      let rows = rows_for (contents s) s.columns in
      let long : length (doubles rows) ≡ N * N = doubles-long rows ∙ rows_long (contents s) N s.columns (wide s g.reads.formed) in
      let cut = rw (length-take (N * N) factors) at (ap length (numbers-are text before s c factors g)) in
      omega (arith, cut, long)

  passes : AllKnown s t r → Passes t r c factors
  passes k =
      let w = g.reads.formed in
      let count = count-is text before s c factors g in
      let names = names-are text before s c factors g in
      let few = most text before s c factors g in
      record {
        fits = rw (count, le-leb N 8 few, le-leb (N * N) (length factors) enough);
        fine =
            rw (names, count, k.good, all-good s.columns w.names, numbers-are text before s c factors g)
            (rows-finite (contents s) s.columns (fine s w));
        clear = rw names (one-all t [] s.columns w.single_columns k.columns);
        known = k.channel;
      }

  pub accepts-known : AllKnown s t r → Planned t r c factors
  accepts-known k = ap (λ (x : Plan). is_refused x) (accepted-is t r c factors (passes k))

  pub accepted-knows : Planned t r c factors → AllKnown s t r
  accepted-knows e =
      let p = passed-all t r c factors e in
      let names = names-are text before s c factors g in
      record {
        good = (both (is_name r) _ (both _ (all_finite (take (c.count * c.count) factors)) p.fine).0).0;
        channel = p.known;
        columns = all_one t [] s.columns 0 (rw names at p.clear);
      }
