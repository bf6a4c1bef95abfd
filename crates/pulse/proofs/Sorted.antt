-- What `placed` does to a list. p parts the records that it finds into two runs, in their old order, and none of the second stays before
-- it: so equal times stand in order of pushing. A sorted list stays sorted. By the records in turn. Assumes nothing.
use Prim.Native.Nat.{ℕ, zero, suc, ◌<◌}
use mathlib.Core.Path.{◌≡◌, refl, sym, ap, ◌∙◌}
use mathlib.Core.Bool.{Bool, true, false, not, cond, or-false}
use mathlib.Core.List.{List, [], ◌∷◌, ◌++◌}
use native.Mathlib.Omega.{arith}
use borrow.Author.Tests.{not-true}
use lib.Ieee.{is_nan}
use lib.ListN.{length, get_or}
use Rattle.pulse.specs.declared.list.Pulse.{Pulse}
use Rattle.pulse.specs.List.{stays_before, any_before, placed}
use Rattle.pulse.specs.Sorted.{sorted, timed}
use Rattle.exact.proofs.Truth.{both}
use Rattle.pulse.proofs.Order.{none_left, none_right, other-stays}

-- where p came to stand
pub record Parted (p : Pulse) (xs : List Pulse) : Type 0 where
  pub ys : List Pulse
  pub zs : List Pulse
  pub found : xs ≡ ys ++ zs
  pub left : placed p xs ≡ ys ++ p ∷ zs
  pub after : any_before zs p ≡ false

pub parted : (p : Pulse) (xs : List Pulse) → Parted p xs
unfolding placed any_before
parted p [] = record { ys = []; zs = []; found = refl; left = refl; after = refl }
parted p (q ∷ qs) = by-any (any_before (q ∷ qs) p) refl (parted p qs) where
  by-any : (b : Bool) → any_before (q ∷ qs) p ≡ b → Parted p qs → Parted p (q ∷ qs)
  by-any true e r = record { ys = q ∷ r.ys; zs = r.zs; found = ap (λ (l : List Pulse). q ∷ l) r.found; left = rw e (ap (λ (l : List Pulse). q ∷ l) r.left); after = r.after }
  by-any false e r = record { ys = []; zs = q ∷ qs; found = refl; left = rw e; after = e }

-- record by record
pub none_stays : (p : Pulse) (zs : List Pulse) → any_before zs p ≡ false → (d : Pulse) (k : ℕ) → k < length zs → stays_before (get_or zs k d) p ≡ false
unfolding any_before
none_stays p [] e d k h = absurd (omega arith)
none_stays p (z ∷ zs) e d zero h = none_left (stays_before z p) (any_before zs p) e
none_stays p (z ∷ zs) e d (suc k) h = none_stays p zs (none_right (stays_before z p) (any_before zs p) e) d k (omega arith)

pub length-placed : (p : Pulse) (xs : List Pulse) → length (placed p xs) ≡ suc (length xs)
unfolding placed
length-placed p [] = refl
length-placed p (q ∷ qs) = by-any (any_before (q ∷ qs) p) (length-placed p qs) where
  by-any : (b : Bool) → length (placed p qs) ≡ suc (length qs) → length (cond b (q ∷ placed p qs) (p ∷ q ∷ qs)) ≡ suc (suc (length qs))
  by-any true e = ap suc e
  by-any false e = refl

later-sorted : (q : Pulse) (qs : List Pulse) → sorted (q ∷ qs) ≡ true → sorted qs ≡ true
unfolding sorted
later-sorted q [] s = refl
later-sorted q (r ∷ rs) s = (both (stays_before q r) (sorted (r ∷ rs)) s).1

-- q before what follows it, once p is among those
seam : (p q : Pulse) (qs : List Pulse) → any_before (q ∷ qs) p ≡ true → sorted (q ∷ qs) ≡ true → sorted (placed p qs) ≡ true → sorted (q ∷ placed p qs) ≡ true
unfolding placed any_before sorted
seam p q [] e s h = rw (sym (or-false (stays_before q p)) ∙ e)
seam p q (r ∷ rs) e s h = by-any (any_before (r ∷ rs) p) refl h where
  by-any : (b : Bool) → any_before (r ∷ rs) p ≡ b → sorted (cond b (r ∷ placed p rs) (p ∷ r ∷ rs)) ≡ true → sorted (q ∷ cond b (r ∷ placed p rs) (p ∷ r ∷ rs)) ≡ true
  by-any true t g = rw (both (stays_before q r) (sorted (r ∷ rs)) s).0 g
  by-any false t g = rw (sym (or-false (stays_before q p)) ∙ (rw t at e)) g

module _ (p : Pulse) (number : is_nan p.time.0 ≡ false) where
  pub placed-sorted : (xs : List Pulse) → sorted xs ≡ true → timed xs ≡ true → sorted (placed p xs) ≡ true
  unfolding placed any_before sorted timed
  placed-sorted [] s n = refl
  placed-sorted (q ∷ qs) s n = by-any (any_before (q ∷ qs) p) refl (placed-sorted qs (later-sorted q qs s) times.1) where
    times : (not (is_nan q.time.0) ≡ true) × (timed qs ≡ true)
    times = both (not (is_nan q.time.0)) (timed qs) n

    by-any : (b : Bool) → any_before (q ∷ qs) p ≡ b → sorted (placed p qs) ≡ true → sorted (cond b (q ∷ placed p qs) (p ∷ q ∷ qs)) ≡ true
    by-any true t h = seam p q qs t s h
    by-any false t h = rw (other-stays q p (not-true (is_nan q.time.0) times.0) number (none_left (stays_before q p) (any_before qs p) t)) s

  pub placed-timed : (xs : List Pulse) → timed xs ≡ true → timed (placed p xs) ≡ true
  unfolding placed timed
  placed-timed [] n = rw number
  placed-timed (q ∷ qs) n = by-any (any_before (q ∷ qs) p) (placed-timed qs (both (not (is_nan q.time.0)) (timed qs) n).1) where
    by-any : (b : Bool) → timed (placed p qs) ≡ true → timed (cond b (q ∷ placed p qs) (p ∷ q ∷ qs)) ≡ true
    by-any true h = rw (both (not (is_nan q.time.0)) (timed qs) n).0 h
    by-any false h = rw number n
