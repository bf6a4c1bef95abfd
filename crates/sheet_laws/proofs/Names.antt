-- Laws of names among names: a name is in a list exactly where the test says so, and a list without doubles has no name twice.
-- Assumes nothing.
use mathlib.Core.Path.{◌≡◌, refl, sym, subst}
use mathlib.Core.Bool.{Bool, true, false, ◌||◌, not, true≢false}
use mathlib.Core.List.{List, [], ◌∷◌, ◌++◌}
use borrow.Author.Tests.{not-true}
use Rattle.naming.specs.Name.{same_name, is_name, is_in}
use Rattle.naming.specs.declared.Name.{Name}
use Rattle.naming.proofs.Named.{same-exactly}
use Rattle.exact.proofs.Truth.{never, both}
use Rattle.sheet.specs.Sheet.{good_names, single, among}
use Rattle.sheet_laws.specs.Words.{In, here, there}
use Rattle.sheet.proofs.Each.{same_self}

-- ---- one of a list

pub in_right : {A : Type 0} {a : A} (l : List A) {r : List A} → In a r → In a (l ++ r)
in_right [] h = h
in_right (x ∷ xs) h = there (in_right xs h)

pub in_left : {A : Type 0} {a : A} {l : List A} (r : List A) → In a l → In a (l ++ r)
in_left r here = here
in_left r (there h) = there (in_left r h)

pub in_is : (n : Name) (l : List Name) → In n l → is_in n l ≡ true
unfolding is_in
in_is n (m ∷ ms) here = rw (same_self n)
in_is n (m ∷ ms) (there h) = rw (in_is n ms h) (or-true (same_name m n))
  where
    or-true : (b : Bool) → (b || true) ≡ true
    or-true true = refl
    or-true false = refl
in_is n [] x' = elim x' [ ]

pub is-in : (n : Name) (l : List Name) → is_in n l ≡ true → In n l
unfolding is_in
is-in n [] e = absurd (true≢false (sym e))
is-in n (m ∷ ms) e = by (is-in n ms) (same_name m n) refl e
  where
    by : (is_in n ms ≡ true → In n ms) → (t : Bool) → same_name m n ≡ t → (t || is_in n ms) ≡ true → In n (m ∷ ms)
    by rest true same _ = subst (λ (x : Name). In n (x ∷ ms)) (sym ((same-exactly m n).0 same)) here
    by rest false _ h = there (rest h)

pub not_in : (n : Name) (l : List Name) → (In n l → ⊥) → is_in n l ≡ false
not_in n l out = by (is_in n l) refl
  where
    by : (t : Bool) → is_in n l ≡ t → t ≡ false
    by true e = absurd (out (is-in n l e))
    by false e = refl

-- ---- all of a list

pub good-one : (ns : List Name) → good_names ns ≡ true → (n : Name) → In n ns → is_name n ≡ true
unfolding good_names
good-one (m ∷ ms) e n here = (both (is_name m) (good_names ms) e).0
good-one (m ∷ ms) e n (there h) = good-one ms (both (is_name m) (good_names ms) e).1 n h
good-one [] e n x'' = elim x'' [ ]

pub among_one : (all ns : List Name) → among all ns ≡ true → (n : Name) → In n ns → In n all
unfolding among
among_one all (m ∷ ms) e n here = is-in m all (both (is_in m all) (among all ms) e).0
among_one all (m ∷ ms) e n (there h) = among_one all ms (both (is_in m all) (among all ms) e).1 n h
among_one all [] e n x'' = elim x'' [ ]

-- ---- no name twice

pub single-first : (n : Name) (ns : List Name) → single (n ∷ ns) ≡ true → In n ns → ⊥
unfolding single
single-first n ns e h = never (in_is n ns h) (not-true (is_in n ns) (both (not (is_in n ns)) (single ns) e).0)

pub single-rest : (n : Name) (ns : List Name) → single (n ∷ ns) ≡ true → single ns ≡ true
unfolding single
single-rest n ns e = (both (not (is_in n ns)) (single ns) e).1

pub not-twice : (n : Name) (xs ys : List Name) → single (xs ++ n ∷ ys) ≡ true → In n xs → ⊥
not-twice n (x ∷ xs) ys e here = single-first n (xs ++ n ∷ ys) e (in_right xs here)
not-twice n (x ∷ xs) ys e (there h) = not-twice n xs ys (single-rest x (xs ++ n ∷ ys) e) h
not-twice n [] ys e x'' = elim x'' [ ]

pub fresh : (n : Name) (xs ys : List Name) → single (xs ++ n ∷ ys) ≡ true → is_in n xs ≡ false
fresh n xs ys e = not_in n xs (not-twice n xs ys e)
