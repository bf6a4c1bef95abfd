-- What `stored` leaves: with room, the count's records and p among them; nothing before or after them, and no length, is touched. `among`
-- joins three runs of known length, and each law cuts at a seam. Assumes nothing.
use Prim.Native.Nat.{ℕ, ◌+◌, ◌<◌, ◌≤◌}
use mathlib.Core.Path.{◌≡◌, refl, ap, ◌∙◌}
use mathlib.Core.Bool.{Bool, true, false}
use mathlib.Core.List.{List, ◌++◌}
use native.Mathlib.Omega.{arith}
use borrow.Author.Tests.{ltb-true, lt-ltb, le-ltb}
use lib.Dec.{ltb}
use lib.Ieee.{is_nan}
use lib.ListN.{length, take, drop, length-append, length-drop}
use lib.Seq.{take_at, drop_at, drop-drop, length-take-le}
use Rattle.pulse.specs.declared.list.Pulse.{Pulse}
use Rattle.pulse.specs.List.{placed, among, stored}
use Rattle.pulse.specs.Sorted.{sorted, timed}
use Rattle.pulse.proofs.Sorted.{length-placed, placed-sorted, placed-timed}

module _ (from count : ℕ) (p : Pulse) (s : List Pulse) where
  pub stored-room : from + count < length s → stored from count p s ≡ among from count p s
  unfolding stored
  stored-room h = rw (lt-ltb (from + count) (length s) h)

  pub stored-full : length s ≤ from + count → stored from count p s ≡ s
  unfolding stored
  stored-full h = rw (le-ltb (from + count) (length s) h)

  -- what holds of the records as they were, and of them with p among them where there is room
  either_way : (P : List Pulse → Type 0) → P s → (from + count < length s → P (among from count p s)) → P (stored from count p s)
  unfolding stored
  either_way P old new = by-room (ltb (from + count) (length s)) refl where
    by-room : (b : Bool) → ltb (from + count) (length s) ≡ b → P (stored from count p s)
    by-room true e = rw e (new (ltb-true (from + count) (length s) e))
    by-room false e = rw e old

  abbrev front : List Pulse
  front = take from s

  abbrev list : List Pulse
  list = placed p (take count (drop from s))

  abbrev back : List Pulse
  back = drop (from + count + 1) s

  module _ (h : from + count < length s) where
    front_long : length front ≡ from
    front_long = length-take-le from s (omega arith)

    list-long : length list ≡ count + 1
    list-long = rw (length-placed p (take count (drop from s)), length-take-le count (drop from s) (omega (arith, length-drop from s))) (omega arith)

    at-list : drop from (among from count p s) ≡ list ++ back
    unfolding among
    at-list = drop_at front (list ++ back) from front_long

    past-list : drop (from + count + 1) (among from count p s) ≡ back
    past-list = let e : from + count + 1 ≡ from + (count + 1) = omega arith in rw (e, ← drop-drop (count + 1) from (among from count p s), at-list) (drop_at list back (count + 1) list-long ∙ ap (λ (k : ℕ). drop k s) e)

    pub stored-list : take (count + 1) (drop from (stored from count p s)) ≡ list
    stored-list = rw (stored-room h, at-list, take_at list back (count + 1) list-long)

    pub stored-sorted : is_nan p.time.0 ≡ false → sorted (take count (drop from s)) ≡ true → timed (take count (drop from s)) ≡ true
        → sorted (take (count + 1) (drop from (stored from count p s))) ≡ true
    stored-sorted n e t = rw stored-list (placed-sorted p n (take count (drop from s)) e t)

    pub stored-timed : is_nan p.time.0 ≡ false → timed (take count (drop from s)) ≡ true → timed (take (count + 1) (drop from (stored from count p s))) ≡ true
    stored-timed n t = rw stored-list (placed-timed p n (take count (drop from s)) t)

  pub stored-front : take from (stored from count p s) ≡ front
  unfolding among
  stored-front = either_way (λ (z : List Pulse). take from z ≡ front) refl (λ h. take_at front (list ++ back) from (front_long h))

  pub stored_back : drop (from + count + 1) (stored from count p s) ≡ back
  stored_back = either_way (λ (z : List Pulse). drop (from + count + 1) z ≡ back) refl past-list

  pub stored-length : length (stored from count p s) ≡ length s
  unfolding among
  stored-length = either_way (λ (z : List Pulse). length z ≡ length s) refl (λ h. simp (length-append, length-drop) (omega (arith, front_long h, list-long h)))
