-- Each column has a row: names that are single, among others, and as many as those, are all of them. The one idea: take a name away on
-- both sides. Assumes nothing.
use Prim.Native.Nat.{suc, ◌≤◌}
use mathlib.Core.Bool.{Bool, true, false, ◌&&◌, ◌||◌, not, cond, true≢false, or_assoc, and_assoc}
use mathlib.Core.List.{List, [], ◌∷◌, ◌++◌}
use mathlib.Core.Path.{◌≡◌, refl, sym, ap, ◌∙◌}
use native.Mathlib.Omega.{arith}
use borrow.Author.Tests.{not-true}
use lib.ListN.{length}
use Rattle.naming.proofs.Named.{same-exactly}
use Rattle.exact.proofs.Truth.{both, neither}
use Rattle.naming.specs.Name.{same_name, is_in}
use Rattle.naming.specs.declared.Name.{Name}
use Rattle.sheet.specs.Sheet.{single, among}

pub same_self : (n : Name) → same_name n n ≡ true
same_self n = (same-exactly n n).1 refl

swap : (a b : Name) → same_name a b ≡ false → same_name b a ≡ false
swap a b e = by (same_name b a) refl
  where
    by : (t : Bool) → same_name b a ≡ t → same_name b a ≡ false
    by true s = absurd (true≢false (sym ((same-exactly a b).1 (sym ((same-exactly b a).0 s))) ∙ e))
    by false s = s

-- ---- one name more at the end

pub in_append : (n : Name) (l m : List Name) → is_in n (l ++ m) ≡ (is_in n l || is_in n m)
unfolding is_in
in_append n [] m = refl
in_append n (x ∷ l) m = rw (in_append n l m) (sym (or_assoc (same_name x n) (is_in n l) (is_in n m)))

pub among-append : (all l m : List Name) → among all (l ++ m) ≡ (among all l && among all m)
unfolding among
among-append all [] m = refl
among-append all (x ∷ l) m = rw (among-append all l m) (sym (and_assoc (is_in x all) (among all l) (among all m)))

pub among-more : (all more l : List Name) → among all l ≡ true → among (all ++ more) l ≡ true
unfolding among
among-more all more [] e = refl
among-more all more (x ∷ l) e =
    let parts = both (is_in x all) (among all l) e in
    rw (in_append x all more, parts.0, among-more all more l parts.1)

pub single_more : (n : Name) (l : List Name) → single l ≡ true → is_in n l ≡ false → single (l ++ n ∷ []) ≡ true
unfolding single is_in
single_more n [] e f = refl
single_more n (m ∷ l) e f =
    let parts = both (not (is_in m l)) (single l) e in
    let others = neither (same_name m n) (is_in n l) f in
    rw (
      in_append m l (n ∷ []),
      not-true (is_in m l) parts.0,
      swap m n others.0,
      single_more n l parts.1 others.1,
    )

-- ---- a name taken away

unfoldable without : Name → List Name → List Name
without n [] = []
without n (m ∷ l) = cond (same_name m n) l (m ∷ without n l)

shorter : (n : Name) (l : List Name) → is_in n l ≡ true → length l ≡ suc (length (without n l))
unfolding is_in without
shorter n [] e = absurd (true≢false (sym e))
shorter n (m ∷ l) e = by (same_name m n) refl (shorter n l)
  where
    by : (t : Bool) → same_name m n ≡ t → (is_in n l ≡ true → length l ≡ suc (length (without n l))) → suc (length l) ≡ suc (length (cond t l (m ∷ without n l)))
    by true s rest = refl
    by false s rest = ap suc (rest (rw s at e))

still_in : (n x : Name) (l : List Name) → same_name n x ≡ false → is_in x l ≡ true → is_in x (without n l) ≡ true
unfolding is_in without
still_in n x [] d e = e
still_in n x (m ∷ l) d e = by (same_name m n) refl (same_name m x) refl (still_in n x l d)
  where
    by : (t : Bool) → same_name m n ≡ t → (u : Bool) → same_name m x ≡ u → (is_in x l ≡ true → is_in x (without n l) ≡ true) → is_in x (cond t l (m ∷ without n l)) ≡ true
    by true s true v rest = absurd (true≢false (sym v ∙ ap (λ (k : Name). same_name k x) ((same-exactly m n).0 s) ∙ d))
    by true s false v rest = rw v at e
    by false s true v rest = rw v
    by false s false v rest = rw v (rest (rw v at e))

still-among : (n : Name) (all l : List Name) → is_in n l ≡ false → among all l ≡ true → among (without n all) l ≡ true
unfolding is_in among
still-among n all [] d e = refl
still-among n all (x ∷ l) d e =
    let parts = both (is_in x all) (among all l) e in
    let others = neither (same_name x n) (is_in n l) d in
    rw (still_in n x all (swap x n others.0) parts.0, still-among n all l others.1 parts.1)

pub each : (x : Name) (all l : List Name) → single l ≡ true → among all l ≡ true → length all ≤ length l → is_in x all ≡ true → is_in x l ≡ true
unfolding single is_in among
each x [] [] s a h e = e
each x (y ∷ all) [] s a h e = absurd (none h)
  where
    none : suc (length all) ≤ 0 → ⊥
    none k = omega arith
each x all (n ∷ l) s a h e =
    let singles = both (not (is_in n l)) (single l) s in
    let ins = both (is_in n all) (among all l) a in
    let long = shorter n all ins.0 in
    let few : length (without n all) ≤ length l = omega arith in
    by (same_name n x) refl (λ d. each x (without n all) l singles.1 (still-among n all l (not-true (is_in n l) singles.0) ins.1) few (still_in n x all d e))
  where
    by : (t : Bool) → same_name n x ≡ t → (same_name n x ≡ false → is_in x l ≡ true) → (t || is_in x l) ≡ true
    by true v rest = refl
    by false v rest = rest v
