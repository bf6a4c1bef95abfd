-- The parts of a row: those of its entries that count, each once and at its column's place; and their pairs. Assumes nothing.
use Rattle.std.specs.Prelude.{Option, Some, None}
use Prim.Native.Nat.{ℕ, ◌^◌}
use mathlib.Core.Path.{◌≡◌, refl, ap, subst, ◌∙◌}
use mathlib.Core.Bool.{Bool, true, false, ◌&&◌, cond}
use mathlib.Core.List.{List, [], ◌∷◌, ◌++◌}
use borrow.Author.Tests.{ltb-true}
use lib.Dec.{ltb}
use lib.Ieee.{binary64, of_bits, to_bits, eq}
use lib.Ieee.Bits.{to_bits-of_bits}
use lib.Ieee.Scale.{finite}
use Rattle.exact.specs.Doubles.{nought}
use Rattle.exact.proofs.Truth.{both, number_if_finite}
use Rattle.naming.specs.declared.Name.{Name}
use Rattle.sheet.specs.Sheet.{doubles, single, finite_bits}
use Rattle.sheet_laws.specs.Words.{In, here, there, AtColumn, first, later, Entry, entries}
use Rattle.sheet_laws.proofs.Factors.{column_in, entry_at}
use Rattle.sheet_laws.proofs.Names.{single-first, single-rest}
use Rattle.tables.specs.declared.Tables.{Tables}
use Rattle.tables.specs.Tables.{found}
use Rattle.merge.specs.Taking.{Part, part}
use Rattle.crosstalk.specs.Crosstalk.{is_known, part_of, row_parts}
use Rattle.by_name.specs.Words.{Counts, OnceAt, counted, placed, pairs_of, pairs_from}
use Rattle.by_name.proofs.Finding.{found_name, one_name, known_at}

-- ---- a row as entries

pub row-placed : (t : Tables) (cs : List Name) (fs : List ℕ) → row_parts t cs (doubles fs) ≡ placed t (counted (entries cs fs))
unfolding row_parts doubles placed counted entries
row-placed t [] fs = refl
row-placed t (c ∷ cs) [] = refl
row-placed t (c ∷ cs) (f ∷ fs) = go (eq (of_bits binary64 f) nought) (row-placed t cs fs)
  where
    es : List Entry
    es = counted (entries cs fs)

    e : Entry
    e = record { column = c; bits = f }

    go : (b : Bool) → row_parts t cs (doubles fs) ≡ placed t es
        → cond b (row_parts t cs (doubles fs)) (part_of (found t c) (of_bits binary64 f) (row_parts t cs (doubles fs))) ≡ placed t (cond b es (e ∷ es))
    go true h = h
    go false h = ap (part_of (found t c) (of_bits binary64 f)) h

pub entry-column : (e : Entry) (cs : List Name) (fs : List ℕ) → In e (entries cs fs) → In e.column cs
entry-column e cs fs h = column_in e.column e.bits cs fs (entry_at e cs fs h)

-- a factor's bits come back
pub bits_back : (c : Name) (bits : ℕ) (cs : List Name) (fs : List ℕ) → finite_bits fs ≡ true → AtColumn c bits cs fs → to_bits binary64 (of_bits binary64 bits) ≡ bits
unfolding finite_bits
bits_back c bits (d ∷ cs) (f ∷ fs) e first =
    let outer = both (ltb f (2 ^ 64) && finite (of_bits binary64 f)) (finite_bits fs) e in
    let inner = both (ltb f (2 ^ 64)) (finite (of_bits binary64 f)) outer.0 in
    to_bits-of_bits binary64 f (ltb-true f (2 ^ 64) inner.0) (number_if_finite (of_bits binary64 f) inner.1)
bits_back c bits (d ∷ cs) (f ∷ fs) e (later h) = bits_back c bits cs fs (both (ltb f (2 ^ 64) && finite (of_bits binary64 f)) (finite_bits fs) e).1 h
bits_back c bits [] fs e x'' = elim x'' [ ]
bits_back c bits (d ∷ cs) [] e x5 = elim x5 [ ]

-- ---- those that count

pub counted_in : (e : Entry) (es : List Entry) → In e (counted es) → In e es × Counts e.bits
unfolding counted
counted_in e (d ∷ es) h = go (eq (of_bits binary64 d.bits) nought) refl e h (counted_in e es)
  where
    go : (b : Bool) → eq (of_bits binary64 d.bits) nought ≡ b → (x : Entry) → In x (cond b (counted es) (d ∷ counted es))
        → (In x (counted es) → In x es × Counts x.bits) → In x (d ∷ es) × Counts x.bits
    go true z x h rest = let r = rest h in (there r.0, r.1)
    go false z x here rest = (here, z)
    go false z x (there h) rest = let r = rest h in (there r.0, r.1)
counted_in e [] h = elim h [ ]

pub in_counted : (e : Entry) (es : List Entry) → In e es → Counts e.bits → In e (counted es)
unfolding counted
in_counted e (d ∷ es) here z = rw z here
in_counted e (d ∷ es) (there h) z = go (eq (of_bits binary64 d.bits) nought) (in_counted e es h z)
  where
    go : (b : Bool) → In e (counted es) → In e (cond b (counted es) (d ∷ counted es))
    go true k = k
    go false k = there k
in_counted e [] x'' z = elim x'' [ ]

-- ---- no column twice

pub data Apart : List Entry → Type 0 where
  none : Apart []
  more : {e : Entry} {es : List Entry} → ((x : Entry) → In x es → x.column ≡ e.column → ⊥) → Apart es → Apart (e ∷ es)

pub entries-apart : (cs : List Name) (fs : List ℕ) → single cs ≡ true → Apart (entries cs fs)
unfolding entries
entries-apart [] fs one = none
entries-apart (c ∷ cs) [] one = none
entries-apart (c ∷ cs) (f ∷ fs) one =
    more (λ x h e. single-first c cs one (subst (λ (n : Name). In n cs) e (entry-column x cs fs h))) (entries-apart cs fs (single-rest c cs one))

pub counted-apart : {es : List Entry} → Apart es → Apart (counted es)
unfolding counted
counted-apart none = none
counted-apart (more {e = e} {es = es} out rest) = go (eq (of_bits binary64 e.bits) nought) (counted-apart rest)
  where
    go : (b : Bool) → Apart (counted es) → Apart (cond b (counted es) (e ∷ counted es))
    go true k = k
    go false k = more (λ x h. out x (counted_in x es h).0) k

-- ---- their parts

module _ (t : Tables) where
  -- a part is an entry's
  pub record OfEntry (p : Part) (es : List Entry) : Type 0 where
    pub entry : Entry
    pub listed : In entry es
    pub place : found t entry.column ≡ Some p.place
    pub factor : p.factor ≡ of_bits binary64 entry.bits

  pub of_entry : (p : Part) (es : List Entry) → In p (placed t es) → OfEntry p es
  unfolding placed part_of
  of_entry p (e ∷ es) h = go (found t e.column) refl p h (of_entry p es)
    where
      further : (p : Part) → OfEntry p es → OfEntry p (e ∷ es)
      further p r = record { entry = r.entry; listed = there r.listed; place = r.place; factor = r.factor }

      go : (f : Option ℕ) → found t e.column ≡ f → (p : Part) → In p (part_of f (of_bits binary64 e.bits) (placed t es)) → (In p (placed t es) → OfEntry p es) → OfEntry p (e ∷ es)
      go (Some i) s p here rest = record { entry = e; listed = here; place = s; factor = refl }
      go (Some i) s p (there h) rest = further p (rest h)
      go None s p h rest = further p (rest h)
  of_entry p [] h = elim h [ ]

  pub once : {es : List Entry} → Apart es → (e : Entry) → In e es → (i : ℕ) → found t e.column ≡ Some i → OnceAt i (of_bits binary64 e.bits) (placed t es)
  unfolding placed part_of
  once (more {e = d} {es = es} out rest) e here i s =
      record {
        earlier = [];
        later = placed t es;
        split = rw s;
        no_other = λ p h same.
            let r = of_entry p es h in
            out r.entry r.listed (one_name t r.entry.column d.column i (r.place ∙ ap Some same) s);
      }
  once (more {e = d} {es = es} out rest) e (there h) i s = go (found t d.column) refl (once rest e h i s)
    where
      go : (f : Option ℕ) → found t d.column ≡ f → OnceAt i (of_bits binary64 e.bits) (placed t es)
          → OnceAt i (of_bits binary64 e.bits) (part_of f (of_bits binary64 d.bits) (placed t es))
      go None k o = o
      go (Some j) k o =
          record {
            earlier = part j (of_bits binary64 d.bits) ∷ o.earlier;
            later = o.later;
            split = ap (λ (l : List Part). part j (of_bits binary64 d.bits) ∷ l) o.split;
            no_other = other o;
          }
        where
          other : (o : OnceAt i (of_bits binary64 e.bits) (placed t es)) (p : Part) → In p (part j (of_bits binary64 d.bits) ∷ (o.earlier ++ o.later)) → p.place ≡ i → ⊥
          other o p here same = out e h (one_name t e.column d.column i s (k ∙ ap Some same))
          other o p (there l) same = o.no_other p l same
  once none e x5 i s = elim x5 [ ]

  -- ---- their pairs

  pub pairs-placed : (es : List Entry) → ((e : Entry) → In e es → is_known (found t e.column) ≡ true) → pairs_of t (placed t es) ≡ pairs_from es
  unfolding placed part_of pairs_of pairs_from
  pairs-placed [] known = refl
  pairs-placed (e ∷ es) known =
      let k = known_at t e.column (known e here) in
      rw (k.is, pairs-placed es (λ d h. known d (there h)), found_name t e.column k.place k.is)
