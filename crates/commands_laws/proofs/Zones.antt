-- The records of one channel do not change where a record is stored among those of another; and a list whose records belong to so many
-- bins does so with one more among them. Assumes nothing.
use Prim.Native.Nat.{ℕ, zero, suc, ◌+◌, ◌-◌, ◌*◌, ◌≤◌, ◌<◌}
use native.Mathlib.Omega.{arith}
use native.Mathlib.Nat.{zero-add, suc-add}
use mathlib.Core.Path.{◌≡◌, refl, sym, ap, ◌∙◌}
use mathlib.Core.Bool.{Bool, true, false, cond}
use mathlib.Core.List.{List, [], ◌∷◌}
use lib.Dec.{ltb}
use borrow.Author.Tests.{ltb-true, ltb-false, lt-ltb}
use lib.ListN.{take, drop}
use lib.Seq.{take-nil, take-take, drop-drop}
use Rattle.exact.proofs.Truth.{both}
use Rattle.pulse.specs.declared.list.Pulse.{Pulse}
use Rattle.pulse.specs.List.{any_before, placed, stored}
use Rattle.pulse.proofs.Stored.{stored-front, stored_back}
use Rattle.commands_laws.specs.Sound.{binned}

-- ---- a part of a list

module _ {A : Type 0} where
  part-of-front : (m n : ℕ) (l : List A) → take n (drop m l) ≡ drop m (take (m + n) l)
  part-of-front zero n l = ap (λ (k : ℕ). take k l) (sym (zero-add n))
  part-of-front (suc m) n [] = take-nil n ∙ sym (ap (drop (suc m)) (take-nil (suc m + n)))
  part-of-front (suc m) n (x ∷ xs) = part-of-front m n xs ∙ ap (λ (k : ℕ). drop (suc m) (take k (x ∷ xs))) (sym (suc-add m n))

  -- it lies before what differs
  pub part-before : (k m n : ℕ) (a b : List A) → m + n ≤ k → take k a ≡ take k b → take n (drop m a) ≡ take n (drop m b)
  part-before k m n a b h e =
      part-of-front m n a
      ∙ ap (drop m) (sym (take-take (m + n) k a h) ∙ ap (take (m + n)) e ∙ take-take (m + n) k b h)
      ∙ sym (part-of-front m n b)

  -- it lies behind what differs
  pub part-behind : (k m n : ℕ) (a b : List A) → k ≤ m → drop k a ≡ drop k b → take n (drop m a) ≡ take n (drop m b)
  part-behind k m n a b h e =
      let up : k + (m - k) ≡ m = omega arith in
      let at : (l : List A) → drop m l ≡ drop (m - k) (drop k l) = λ l. ap (λ (j : ℕ). drop j l) (sym up) ∙ sym (drop-drop (m - k) k l) in
      ap (take n) (at a ∙ ap (drop (m - k)) e ∙ sym (at b))

-- 1,024 places a channel: the records of channel j, where one is stored among those of channel i
pub zone-stays : (i j many count : ℕ) (p : Pulse) (s : List Pulse) → (j ≡ i → ⊥) → many ≤ 1024 → count < 1024
    → take many (drop (1024 * j) (stored (1024 * i) count p s)) ≡ take many (drop (1024 * j) s)
zone-stays i j many count p s apart most room = go (ltb j i) refl
  where
    go : (b : Bool) → ltb j i ≡ b → take many (drop (1024 * j) (stored (1024 * i) count p s)) ≡ take many (drop (1024 * j) s)
    go true e =
        let below = ltb-true j i e in
        part-before (1024 * i) (1024 * j) many (stored (1024 * i) count p s) s (omega arith) (stored-front (1024 * i) count p s)
    go false e =
        let above = ltb-false j i e in
        let further : i < j = omega (arith, apart) in
        part-behind (1024 * i + count + 1) (1024 * j) many (stored (1024 * i) count p s) s (omega arith) (stored_back (1024 * i) count p s)

-- ---- bins

pub binned-more : (a b : ℕ) (l : List Pulse) → a ≤ b → binned a l ≡ true → binned b l ≡ true
unfolding binned
binned-more a b [] h e = refl
binned-more a b (q ∷ qs) h e =
    let p = both (ltb q.bin a) (binned a qs) e in
    let under = ltb-true q.bin a p.0 in
    rw (lt-ltb q.bin b (omega arith)) (binned-more a b qs h p.1)

pub binned-placed : (many : ℕ) (p : Pulse) (l : List Pulse) → p.bin < many → binned many l ≡ true → binned many (placed p l) ≡ true
unfolding binned placed
binned-placed many p [] h e = rw (lt-ltb p.bin many h)
binned-placed many p (q ∷ qs) h e = go (any_before (q ∷ qs) p) (binned-placed many p qs h parts.1)
  where
    parts : (ltb q.bin many ≡ true) × (binned many qs ≡ true)
    parts = both (ltb q.bin many) (binned many qs) e

    go : (b : Bool) → binned many (placed p qs) ≡ true → binned many (cond b (q ∷ placed p qs) (p ∷ q ∷ qs)) ≡ true
    go true more = rw parts.0 more
    go false more = rw (lt-ltb p.bin many h, parts.0) parts.1
