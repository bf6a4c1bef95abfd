-- The rows of several lists: whether a bin is among them, list by list; and the lists that take part, one by one. Assumes nothing.
use Prim.Native.Nat.{ℕ, zero, suc, ◌+◌, ◌-◌, ◌<◌, ◌≤◌}
use native.Mathlib.Omega.{arith}
use mathlib.Core.Path.{◌≡◌, refl, sym, ap, ◌∙◌}
use mathlib.Core.Bool.{Bool, true, false, ◌||◌, cond}
use mathlib.Core.List.{List, [], ◌∷◌, ◌++◌, append-nil, append_assoc}
use lib.Dec.{ltb, leb-suc-suc}
use lib.Ieee.{Float, nan}
use lib.ListN.{length, take, drop, get_or, length-take}
use borrow.Author.Tests.{lt-ltb, le-ltb}
use lib.Seq.{take-suc, take-add, get_or-take}
use Rattle.pulse.specs.Bin.{same_row, place_of}
use Rattle.tables.specs.declared.Tables.{Tables}
use Rattle.commands.specs.Play.{rows_of}
use Rattle.merge.specs.declared.taking.Taking.{Taking}
use Rattle.merge.specs.Taking.{Part, part, zipped, parts_in}
use Rattle.mixdown.specs.Bins.{is_among, all_rows}

-- ---- among rows

among-cons : (row r : List Float) (rs : List (List Float)) → is_among row (r ∷ rs) ≡ (same_row r row || is_among row rs)
unfolding place_of
among-cons row r rs = go (same_row r row)
  where
    go : (b : Bool) → ltb (cond b 0 (suc (place_of row rs))) (suc (length rs)) ≡ (b || is_among row rs)
    go true = lt-ltb 0 (suc (length rs)) (omega arith)
    go false = leb-suc-suc (suc (place_of row rs)) (length rs)

or_assoc : (a b c : Bool) → (a || b || c) ≡ (a || (b || c))
or_assoc true b c = refl
or_assoc false b c = refl

pub among_none : (row : List Float) → is_among row [] ≡ false
among_none row = le-ltb (place_of row []) 0 (omega arith)

pub among-append : (row : List Float) (xs ys : List (List Float)) → is_among row (xs ++ ys) ≡ (is_among row xs || is_among row ys)
unfolding place_of
among-append row [] ys = refl
among-append row (x ∷ xs) ys =
    among-cons row x (xs ++ ys) ∙ ap (λ (b : Bool). same_row x row || b) (among-append row xs ys) ∙ sym (or_assoc (same_row x row) (is_among row xs) (is_among row ys)) ∙ ap (λ (b : Bool). b || is_among row ys) (sym (among-cons row x xs))

-- ---- list by list
module _ (t : Tables) (bins : List (List Float)) (row : List Float) where
  pub rows_append : (xs ys : List Part) → all_rows t bins (xs ++ ys) ≡ all_rows t bins xs ++ all_rows t bins ys
  unfolding all_rows
  rows_append [] ys = refl
  rows_append (x ∷ xs) ys = ap (λ (rs : List (List Float)). rows_of t bins x.place ++ rs) (rows_append xs ys) ∙ sym (append_assoc (rows_of t bins x.place) (all_rows t bins xs) (all_rows t bins ys))

  pub rows-one : (p : Part) → all_rows t bins (p ∷ []) ≡ rows_of t bins p.place
  unfolding all_rows
  rows-one p = append-nil (rows_of t bins p.place)

  pub among_first : (parts : List Part) → is_among row (all_rows t bins (take 0 parts)) ≡ false
  unfolding all_rows
  among_first parts = among_none row

  module _ (parts : List Part) (j : ℕ) (d : Part) (h : j < length parts) where
    abbrev here : List (List Float)
    here = rows_of t bins (get_or parts j d).place

    pub among-suc : is_among row (all_rows t bins (take (suc j) parts)) ≡ (is_among row (all_rows t bins (take j parts)) || is_among row here)
    among-suc =
        ap (λ (ps : List Part). is_among row (all_rows t bins ps)) (take-suc parts j d h) ∙ ap (is_among row) (rows_append (take j parts) (get_or parts j d ∷ []) ∙ ap (λ (rs : List (List Float)). all_rows t bins (take j parts) ++ rs) (rows-one (get_or parts j d))) ∙ among-append row (all_rows t bins (take j parts)) here

    pub among_later : (k : ℕ) → j < k → is_among row (all_rows t bins (take j parts)) ≡ false → is_among row here ≡ true → is_among row (all_rows t bins (take k parts)) ≡ true
    among_later k under before found =
        let split : k ≡ suc j + (k - suc j) = omega arith in
        let both : (is_among row (all_rows t bins (take j parts)) || is_among row here) ≡ true = rw (before, found) refl in
        ap (λ (n : ℕ). is_among row (all_rows t bins (take n parts))) split ∙ ap (λ (ps : List Part). is_among row (all_rows t bins ps)) (take-add (suc j) (k - suc j) parts) ∙ ap (is_among row) (rows_append (take (suc j) parts) _) ∙ among-append row (all_rows t bins (take (suc j) parts)) _ ∙ ap (λ (b : Bool). b || is_among row (all_rows t bins (take (k - suc j) (drop (suc j) parts)))) (among-suc ∙ both)

-- ---- the lists that take part

zipped-length : (is : List ℕ) (fs : List Float) → length is ≡ length fs → length (zipped is fs) ≡ length is
unfolding zipped
zipped-length [] fs e = refl
zipped-length (i ∷ is) [] e = absurd (omega arith)
zipped-length (i ∷ is) (f ∷ fs) e = ap suc (zipped-length is fs (omega arith))

zipped-at : (is : List ℕ) (fs : List Float) (k : ℕ) (d : Part) → k < length is → k < length fs → get_or (zipped is fs) k d ≡ part (get_or is k 0) (get_or fs k nan)
unfolding zipped
zipped-at [] fs k d h g = absurd (omega arith)
zipped-at (i ∷ is) [] k d h g = absurd (omega arith)
zipped-at (i ∷ is) (f ∷ fs) zero d h g = refl
zipped-at (i ∷ is) (f ∷ fs) (suc k) d h g = zipped-at is fs k d (omega arith) (omega arith)

module _ (taking : Taking) (places : length taking.places ≡ 8) (factors : length taking.factors ≡ 8) (few : taking.count ≤ 8) where
  long : {A : Type 0} (l : List A) → length l ≡ 8 → length (take taking.count l) ≡ taking.count
  long l e = length-take taking.count l ∙ omega (arith, e, few)

  pub parts-length : length (parts_in taking) ≡ taking.count
  parts-length = zipped-length (take taking.count taking.places) (take taking.count taking.factors) (long taking.places places ∙ sym (long taking.factors factors)) ∙ long taking.places places

  pub parts_at : (k : ℕ) (d : Part) → k < taking.count → get_or (parts_in taking) k d ≡ part (get_or taking.places k 0) (get_or taking.factors k nan)
  parts_at k d h =
      zipped-at (take taking.count taking.places) (take taking.count taking.factors) k d (rw (long taking.places places) h) (rw (long taking.factors factors) h) ∙ rw (get_or-take taking.count taking.places k 0 h, get_or-take taking.count taking.factors k nan h) refl
