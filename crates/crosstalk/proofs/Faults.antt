-- What is told of the names: a name at fault, none before it is, and nothing exactly where none is. Assumes nothing.
use Rattle.quant.specs.Refusal.{Answer, refuse}
use Rattle.std.specs.Prelude.{Option, Some, None, Ok, Err}
use Prim.Native.Nat.{ℕ, zero, suc, ◌+◌, ◌≤◌, ◌<◌}
use native.Mathlib.Omega.{arith}
use mathlib.Core.Path.{◌≡◌, refl, sym, ap, subst, ◌∙◌}
use mathlib.Core.Bool.{Bool, true, false, ◌||◌, cond, true≢false}
use mathlib.Core.Logic.{◌↔◌, ◌⊎◌, inl, inr}
use mathlib.Core.List.{List, [], ◌∷◌, ◌++◌, append_assoc, append-nil}
use lib.ListN.{length, get_or-append, length-append}
use lib.Seq.{get_or-append_seam}
use Rattle.exact.proofs.Naturals.{below_or, first-once}
use Rattle.naming.specs.declared.Name.{Name}
use Rattle.naming.specs.Name.{same_name, is_in}
use Rattle.naming.proofs.Named.{same-exactly}
use Rattle.quant.specs.declared.refusal.Refusal.{Refusal}
use Rattle.quant.specs.declared.refusal.Refusal.TheVariants.{DoubledName, NoList}
use Rattle.tables.specs.declared.Tables.{Tables}
use Rattle.tables.specs.Tables.{no_name, found}
use Rattle.crosstalk.specs.Crosstalk.{is_known, names_judged}
use Rattle.crosstalk.specs.Faults.{name_at, StoodBefore, AtFault, doubled, no-list, NoneBefore, FirstAtFault}

-- ---- a name among those before it

-- a name is one of a list exactly where it stands at a place of it
record Somewhere (n : Name) (ns : List Name) : Type 0 where
  place : ℕ
  there : place < length ns
  same : name_at ns place ≡ n

in_stands : (n : Name) (ns : List Name) → is_in n ns ≡ true → Somewhere n ns
unfolding is_in
in_stands n [] e = absurd (true≢false (sym e))
in_stands n (m ∷ ms) e = go (same_name m n) refl e (in_stands n ms)
  where
    go : (b : Bool) → same_name m n ≡ b → (b || is_in n ms) ≡ true → (is_in n ms ≡ true → Somewhere n ms) → Somewhere n (m ∷ ms)
    go true s e later = record { place = 0; there = omega arith; same = (same-exactly m n).0 s }
    go false s e later = let h = later e in record { place = suc h.place; there = omega (arith, h.there); same = h.same }

stands_in : (ns : List Name) (i : ℕ) → i < length ns → is_in (name_at ns i) ns ≡ true
unfolding is_in
stands_in [] i h = absurd (omega arith)
stands_in (m ∷ ms) zero h = rw ((same-exactly m m).1 refl)
stands_in (m ∷ ms) (suc i) h = go (same_name m (name_at ms i)) (stands_in ms i (omega arith))
  where
    go : (b : Bool) → is_in (name_at ms i) ms ≡ true → (b || is_in (name_at ms i) ms) ≡ true
    go true e = refl
    go false e = e

module _ (before : List Name) (n : Name) (ns : List Name) where
  -- the names, and the name at the seam
  abbrev all : List Name
  all = before ++ n ∷ ns

  at-seam : name_at all (length before) ≡ n
  at-seam = get_or-append_seam before n ns no_name

  stood : is_in n before ≡ true → StoodBefore all (length before)
  stood e =
      let h = in_stands n before e in
      record { first = h.place; earlier = h.there; same = get_or-append before (n ∷ ns) no_name h.place h.there ∙ h.same ∙ sym at-seam }

  not_stood : is_in n before ≡ false → StoodBefore all (length before) → ⊥
  not_stood e h =
      let same : name_at before h.first ≡ n = sym (get_or-append before (n ∷ ns) no_name h.first h.earlier) ∙ h.same ∙ at-seam in
      true≢false (sym (subst (λ (m : Name). is_in m before ≡ true) same (stands_in before h.first h.earlier)) ∙ e)

-- ---- what is told

module _ (t : Tables) where
  -- a refusal tells the first name at fault; done, none is
  abbrev Tells : List Name → Answer → Type 0
  Tells ns (Err e) = FirstAtFault t ns e.why e.place
  Tells ns (Ok n) = (n ≡ 0) × NoneBefore t ns (length ns)

  not-nowhere : (p : Option ℕ) → is_known p ≡ true → p ≡ None → ⊥
  not-nowhere (Some i) e f = let z : ◌≡◌ {A = ℕ} 0 1 = cc in omega arith
  not-nowhere None e f = true≢false (sym e)

  nowhere : (p : Option ℕ) → is_known p ≡ false → p ≡ None
  nowhere (Some i) e = absurd (true≢false e)
  nowhere None e = refl

  -- a name that is new and known is not at fault
  clear : (ns : List Name) (i : ℕ) → (StoodBefore ns i → ⊥) → is_known (found t (name_at ns i)) ≡ true → (q : Refusal) → AtFault t ns i q → ⊥
  clear ns i new known q (doubled h) = new h
  clear ns i new known q (no-list h f) = not-nowhere (found t (name_at ns i)) known f

  one_more : (ns : List Name) (i : ℕ) → NoneBefore t ns i → ((q : Refusal) → AtFault t ns i q → ⊥) → NoneBefore t ns (i + 1)
  one_more ns i none this j under q f = go (below_or j i)
    where
      go : (j < i) ⊎ (i ≤ j) → ⊥
      go (inl h) = none j h q f
      go (inr h) = let same : j ≡ i = omega arith in this q (subst (λ (x : ℕ). AtFault t ns x q) same f)

  told : (before ns : List Name) → NoneBefore t (before ++ ns) (length before) → Tells (before ++ ns) (names_judged t before ns)
  unfolding names_judged
  told before [] none = (refl, subst (λ (k : ℕ). NoneBefore t (before ++ []) k) (sym (ap length (append-nil before))) none)
  told before (n ∷ ns) none = go (is_in n before) (is_known (found t n)) refl refl (later (told (before ++ n ∷ []) ns))
    where
      same : (before ++ n ∷ []) ++ ns ≡ before ++ n ∷ ns
      same = append_assoc before (n ∷ []) ns

      here : length before < length (before ++ n ∷ ns)
      here = rw (length-append before (n ∷ ns)) (omega arith)

      later : (NoneBefore t ((before ++ n ∷ []) ++ ns) (length (before ++ n ∷ [])) → Tells ((before ++ n ∷ []) ++ ns) (names_judged t (before ++ n ∷ []) ns))
          → NoneBefore t (before ++ n ∷ ns) (length before + 1) → Tells (before ++ n ∷ ns) (names_judged t (before ++ n ∷ []) ns)
      later next h = rw same at (next (rw (same, length-append before (n ∷ [])) h))

      go : (b k : Bool) → is_in n before ≡ b → is_known (found t n) ≡ k
          → (NoneBefore t (before ++ n ∷ ns) (length before + 1) → Tells (before ++ n ∷ ns) (names_judged t (before ++ n ∷ []) ns))
          → Tells (before ++ n ∷ ns) (cond b (refuse DoubledName (length before + 1)) (cond k (names_judged t (before ++ n ∷ []) ns) (refuse NoList (length before + 1))))
      go true k e f next = record { place = length before; there = here; from_1 = refl; fault = doubled (stood before n ns e); none_before = none }
      go false false e f next =
          let missing = nowhere (found t (name_at (before ++ n ∷ ns) (length before))) (rw (at-seam before n ns) f) in
          record { place = length before; there = here; from_1 = refl; fault = no-list (not_stood before n ns e) missing; none_before = none }
      go false true e f next = next (one_more (before ++ n ∷ ns) (length before) none (clear (before ++ n ∷ ns) (length before) (not_stood before n ns e) (rw (at-seam before n ns) f)))

  -- ---- one name is the first at fault, and in one way

  one_way : (ns : List Name) (i : ℕ) (q r : Refusal) → AtFault t ns i q → AtFault t ns i r → q ≡ r
  one_way ns i q r (doubled g) (doubled h) = refl
  one_way ns i q r (doubled g) (no-list h e) = absurd (h g)
  one_way ns i q r (no-list g e) (doubled h) = absurd (g h)
  one_way ns i q r (no-list g e) (no-list h f) = refl

  pub one-first : (ns : List Name) (q r : Refusal) (j k : ℕ) → FirstAtFault t ns q j → FirstAtFault t ns r k → (q ≡ r) × (j ≡ k)
  one-first ns q r j k f g =
      let at-fault : ℕ → Type 0 = λ i. (w : Refusal) × AtFault t ns i w in
      let same : g.place ≡ f.place = first-once at-fault g.place f.place (r, g.fault) (λ i under h. g.none_before i under h.0 h.1) (q, f.fault) (λ i under h. f.none_before i under h.0 h.1) in
      (one_way ns f.place q r f.fault (subst (λ (x : ℕ). AtFault t ns x r) same g.fault), omega (arith, f.from_1, g.from_1))

  -- ---- the laws, of all names

  module _ (ns : List Name) where
    none_yet : NoneBefore t ns 0
    none_yet j under = absurd (omega arith)

    -- a refusal with its position tells the first name at fault, and that is told
    pub name-told : (r : Refusal) (k : ℕ) → names_judged t [] ns ≡ refuse r k ↔ FirstAtFault t ns r k
    name-told r k = ((λ e. rw e at (told [] ns none_yet)), (λ f. by (names_judged t [] ns) refl (told [] ns none_yet) f))
      where
        by : (a : Answer) → names_judged t [] ns ≡ a → Tells ns a → FirstAtFault t ns r k → a ≡ refuse r k
        by (Ok n) e h f = absurd (h.1 f.place f.there r f.fault)
        by (Err x) e h f = let same = one-first ns x.why r x.place k h f in λ i. refuse (same.0 i) (same.1 i)

    pub told-done : (n : ℕ) → names_judged t [] ns ≡ Ok n → n ≡ 0
    told-done n e = (rw e at (told [] ns none_yet)).0

    -- none is told exactly where none is at fault
    pub none_told : names_judged t [] ns ≡ Ok 0 ↔ NoneBefore t ns (length ns)
    none_told = ((λ e. (rw e at (told [] ns none_yet)).1), (λ h. by (names_judged t [] ns) (told [] ns none_yet) h))
      where
        by : (a : Answer) → Tells ns a → NoneBefore t ns (length ns) → a ≡ Ok 0
        by (Ok n) h none = ap Ok h.0
        by (Err e) f none = absurd (none f.place f.there e.why f.fault)

-- ---- examples

module _ (t : Tables) (a : Name) (known : is_known (found t a) ≡ true) where
  -- b stands again before a does
  pub a-b-b-a : (b : Name) → same_name a b ≡ false → is_known (found t b) ≡ true → names_judged t [] (a ∷ b ∷ b ∷ a ∷ []) ≡ refuse DoubledName 3
  unfolding names_judged is_in
  a-b-b-a b apart too = rw (known, apart, too, (same-exactly b b).1 refl)

  -- x has no list, and stands before a's repeat
  pub a-x-a : (x : Name) → same_name a x ≡ false → found t x ≡ None → names_judged t [] (a ∷ x ∷ a ∷ []) ≡ refuse NoList 2
  unfolding names_judged is_in
  a-x-a x apart none = rw (known, apart, none)
