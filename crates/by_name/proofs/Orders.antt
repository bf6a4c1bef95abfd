-- Entries in another order: those that count, their parts and their pairs are the same in another order. Assumes nothing.
use Rattle.std.specs.Prelude.{Option, Some, None, ℕ}
use mathlib.Core.Bool.{Bool, true, false, cond}
use mathlib.Core.List.{List, ◌∷◌}
use lib.Ieee.{Float, binary64, of_bits, eq}
use Rattle.exact.specs.Doubles.{nought}
use Rattle.sheet_laws.specs.Words.{Permuted, nil, keep, swap, then, Entry}
use Rattle.sheet_laws.proofs.Rows.{self}
use Rattle.tables.specs.declared.Tables.{Tables}
use Rattle.tables.specs.Tables.{found}
use Rattle.merge.specs.Taking.{Part}
use Rattle.crosstalk.specs.Crosstalk.{part_of}
use Rattle.by_name.specs.Words.{counted, placed, pairs_of}

-- ---- those that count

abbrev zero? : Entry → Bool
zero? e = eq (of_bits binary64 e.bits) nought

pub counted-order : {es ds : List Entry} → Permuted es ds → Permuted (counted es) (counted ds)
unfolding counted
counted-order nil = nil
counted-order (keep {a = e} {l = es} {m = ds} p) = go (zero? e) (counted-order p)
  where
    go : (b : Bool) → Permuted (counted es) (counted ds) → Permuted (cond b (counted es) (e ∷ counted es)) (cond b (counted ds) (e ∷ counted ds))
    go true h = h
    go false h = keep h
counted-order (swap {a = e} {b = d} {l = es}) = go (zero? e) (zero? d)
  where
    go : (b c : Bool)
        → Permuted (cond b (cond c (counted es) (d ∷ counted es)) (e ∷ cond c (counted es) (d ∷ counted es)))
        (cond c (cond b (counted es) (e ∷ counted es)) (d ∷ cond b (counted es) (e ∷ counted es)))
    go true true = self (counted es)
    go true false = self (d ∷ counted es)
    go false true = self (e ∷ counted es)
    go false false = swap
counted-order (then p q) = then (counted-order p) (counted-order q)

-- ---- their parts

module _ (t : Tables) where
  pub placed-order : {es ds : List Entry} → Permuted es ds → Permuted (placed t es) (placed t ds)
  unfolding placed part_of
  placed-order nil = nil
  placed-order (keep {a = e} {l = es} {m = ds} p) = go (found t e.column) (of_bits binary64 e.bits) (placed-order p)
    where
      go : (f : Option ℕ) (x : Float) → Permuted (placed t es) (placed t ds) → Permuted (part_of f x (placed t es)) (part_of f x (placed t ds))
      go (Some i) x h = keep h
      go None x h = h
  placed-order (swap {a = e} {b = d} {l = es}) = go (found t e.column) (found t d.column) (of_bits binary64 e.bits) (of_bits binary64 d.bits)
    where
      go : (f g : Option ℕ) (x y : Float) → Permuted (part_of f x (part_of g y (placed t es))) (part_of g y (part_of f x (placed t es)))
      go (Some i) (Some j) x y = swap
      go (Some i) None x y = self (part_of (Some i) x (placed t es))
      go None (Some j) x y = self (part_of (Some j) y (placed t es))
      go None None x y = self (placed t es)
  placed-order (then p q) = then (placed-order p) (placed-order q)

-- ---- their pairs

pub pairs-of-order : (t : Tables) {ps qs : List Part} → Permuted ps qs → Permuted (pairs_of t ps) (pairs_of t qs)
unfolding pairs_of
pairs-of-order t nil = nil
pairs-of-order t (keep p) = keep (pairs-of-order t p)
pairs-of-order t swap = swap
pairs-of-order t (then p q) = then (pairs-of-order t p) (pairs-of-order t q)
