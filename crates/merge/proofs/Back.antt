-- The lists read back from the rows: list k's rows are those from where the list before it ends up to its own end, and each is its pulse.
-- Assumes nothing.
use Prim.Native.Nat.{ℕ, zero, suc, ◌+◌, ◌-◌, ◌<◌, ◌≤◌}
use mathlib.Core.Path.{◌≡◌, refl, ◌∙◌}
use mathlib.Core.List.{List, [], ◌∷◌, ◌++◌, map}
use Prim.{⊥}
use native.Mathlib.Omega.{arith}
use lib.Ieee.{Float}
use lib.ListN.{length, get_or, take, drop, replicate, length-append, length-map, get_or-append}
use lib.Seq.{get_or-append-add}
use Rattle.pulse.specs.declared.list.Pulse.{Pulse}
use Rattle.pulse.proofs.Placed.{none}
use Rattle.merge.specs.Work.{row_of_pulse, mark_of, over, in_one, ends_from, ends_of, begin_of}
use Rattle.merge.specs.Keep.{pulse_in}

-- how many pulses stand in the first k lists
abbrev before : ℕ → List (List Pulse) → ℕ
before k ls = length (in_one (take k ls))

one_more : (ls : List (List Pulse)) (k : ℕ) → k < length ls → before (suc k) ls ≡ before k ls + length (get_or ls k [])
unfolding in_one
one_more [] k h = let never : ⊥ = omega arith in absurd never
one_more (l ∷ ls) zero h = let e : length (l ++ []) ≡ length l + 0 = length-append l [] in omega (arith, e)
one_more (l ∷ ls) (suc k) h =
    let e = one_more ls k (omega arith) in
    let a = length-append l (in_one (take (suc k) ls)) in
    let b = length-append l (in_one (take k ls)) in
    omega (arith, e, a, b)

ends_at : (at : ℕ) (ls : List (List Pulse)) (z : List ℕ) (k : ℕ) → k < length ls → get_or (ends_from at ls ++ z) k 0 ≡ at + before (suc k) ls
unfolding ends_from in_one
ends_at at [] z k h = let never : ⊥ = omega arith in absurd never
ends_at at (l ∷ ls) z zero h = let e = length-append l [] in omega (arith, e)
ends_at at (l ∷ ls) z (suc k) h = ends_at (at + length l) ls z k (omega arith) ∙ (let e = length-append l (in_one (take (suc k) ls)) in omega (arith, e))

begins : (ls : List (List Pulse)) (k : ℕ) → k ≤ length ls → begin_of (ends_of ls) k ≡ before k ls
unfolding in_one
begins ls zero h = refl
begins ls (suc k) h = ends_at 0 ls (replicate (8 - length ls) 0) k (omega arith) ∙ omega arith

within : (ls : List (List Pulse)) (k i : ℕ) (d : Pulse) → k < length ls → i < length (get_or ls k []) → get_or (in_one ls) (before k ls + i) d ≡ get_or (get_or ls k []) i d
unfolding in_one
within [] k i d h less = let never : ⊥ = omega arith in absurd never
within (l ∷ ls) zero i d h less = let e : 0 + i ≡ i = omega arith in rw e (get_or-append l (in_one ls) d i less)
within (l ∷ ls) (suc k) i d h less =
    let e : before (suc k) (l ∷ ls) + i ≡ length l + (before k ls + i) = (let a = length-append l (in_one (take k ls)) in omega (arith, a)) in
    rw e (get_or-append-add l (in_one ls) (before k ls + i) d ∙ within ls k i d (omega arith) less)

inside : (ls : List (List Pulse)) (k i : ℕ) → k < length ls → i < length (get_or ls k []) → before k ls + i < length (in_one ls)
unfolding in_one
inside [] k i h less = let never : ⊥ = omega arith in absurd never
inside (l ∷ ls) zero i h less = let a = length-append l (in_one ls) in omega (arith, a)
inside (l ∷ ls) (suc k) i h less =
    let e = inside ls k i (omega arith) less in
    let a = length-append l (in_one (take k ls)) in
    let b = length-append l (in_one ls) in
    omega (arith, e, a, b)

row_of : (ps : List Pulse) (j : ℕ) → j < length ps → get_or (map row_of_pulse ps) j [] ≡ row_of_pulse (get_or ps j none)
row_of [] j h = let never : ⊥ = omega arith in absurd never
row_of (p ∷ ps) zero h = refl
row_of (p ∷ ps) (suc j) h = row_of ps j (omega arith)

mark-of : (ps : List Pulse) (j : ℕ) → j < length ps → get_or (map mark_of ps) j 0 ≡ mark_of (get_or ps j none)
mark-of [] j h = let never : ⊥ = omega arith in absurd never
mark-of (p ∷ ps) zero h = refl
mark-of (p ∷ ps) (suc j) h = mark-of ps j (omega arith)

front : {A : Type 0} (xs l : List A) (j : ℕ) (d : A) → j < length xs → get_or (over 0 xs l) j d ≡ get_or xs j d
unfolding over
front xs l j d h = get_or-append xs (drop (0 + length xs) l) d j h

module _ (ls : List (List Pulse)) (k : ℕ) (h : k < length ls) where
  -- list k ends as many rows behind its beginning as it is long
  pub end_back : get_or (ends_of ls).ends k 0 ≡ begin_of (ends_of ls) k + length (get_or ls k [])
  end_back =
      let e = ends_at 0 ls (replicate (8 - length ls) 0) k h in
      let b = begins ls k (omega arith) in
      let m = one_more ls k h in
      omega (arith, e, b, m)

  -- pulse i of list k
  pub pulse-back : (rows : List (List Float)) (marks : List ℕ) (i : ℕ) → i < length (get_or ls k [])
      → pulse_in (get_or (over 0 (map row_of_pulse (in_one ls)) rows) (begin_of (ends_of ls) k + i) []) (get_or (over 0 (map mark_of (in_one ls)) marks) (begin_of (ends_of ls) k + i) 0) ≡ get_or (get_or ls k []) i none
  pulse-back rows marks i less =
      let j = before k ls + i in
      let in_all : j < length (in_one ls) = inside ls k i h less in
      rw (
        begins ls k (omega arith),
        front (map row_of_pulse (in_one ls)) rows j [] (rw (length-map (in_one ls) row_of_pulse) in_all),
        front (map mark_of (in_one ls)) marks j 0
            (rw (length-map (in_one ls) mark_of) in_all),
        row_of (in_one ls) j in_all,
        mark-of (in_one ls) j in_all,
        within ls k i none h less,
      )
