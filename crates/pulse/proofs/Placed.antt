-- `placed` of one record more at the end: it stays before p, and p goes behind it, or it does not, and p goes among those before it.
-- So `among` obeys the loop of `store`, from the last record down. Assumes nothing.
use Prim.Native.Nat.{ℕ, suc, ◌+◌, ◌-◌, ◌<◌}
use mathlib.Core.Path.{◌≡◌, refl, sym, ap}
use mathlib.Core.Bool.{Bool, true, false, ◌||◌, cond, or-false, or-true, or_assoc}
use mathlib.Core.List.{List, [], ◌∷◌, ◌++◌, append_assoc}
use native.Mathlib.Omega.{arith}
use lib.Ieee.{nan}
use lib.ListN.{length, get_or, set, take, drop, length-drop}
use lib.Seq.{take-suc, take-add, get_or-drop, take-set-le, drop-set-add, set_split, drop_at, length-take-le}
use Rattle.pulse.specs.declared.list.Pulse.{Pulse}
use Rattle.pulse.specs.List.{stays_before, any_before, placed, among}

module _ (p q : Pulse) where
  any_last : (xs : List Pulse) → any_before (xs ++ q ∷ []) p ≡ (any_before xs p || stays_before q p)
  unfolding any_before
  any_last [] = or-false (stays_before q p)
  any_last (x ∷ xs) = rw (any_last xs, or_assoc (stays_before x p) (any_before xs p) (stays_before q p))

  pub placed-behind : stays_before q p ≡ true → (xs : List Pulse) → placed p (xs ++ q ∷ []) ≡ (xs ++ q ∷ []) ++ p ∷ []
  unfolding placed any_before
  placed-behind e [] = rw e
  placed-behind e (x ∷ xs) = rw (any_last xs, e, or-true (any_before xs p), or-true (stays_before x p), placed-behind e xs)

  pub placed-before : stays_before q p ≡ false → (xs : List Pulse) → placed p (xs ++ q ∷ []) ≡ placed p xs ++ q ∷ []
  unfolding placed any_before
  placed-before e [] = rw e
  placed-before e (x ∷ xs) = rw (any_last xs, e, or-false (any_before xs p)) (by-any (stays_before x p || any_before xs p) (placed-before e xs)) where
    by-any : (b : Bool) → placed p (xs ++ q ∷ []) ≡ placed p xs ++ q ∷ [] → cond b (x ∷ placed p (xs ++ q ∷ [])) (p ∷ x ∷ (xs ++ q ∷ [])) ≡ cond b (x ∷ placed p xs) (p ∷ x ∷ xs) ++ q ∷ []
    by-any true h = ap (λ (r : List Pulse). x ∷ r) h
    by-any false h = refl

-- what an index past the end would read
abbrev pub none : Pulse
none = record { bin = 0; time = record { 0 = nan }; amp = record { re = nan; im = nan }; drag = record { re = nan; im = nan } }

-- from the last of n records down: the slot after them takes p, or the last of them
module _ (from : ℕ) (p : Pulse) (s : List Pulse) where
  pub among_none : from < length s → among from 0 p s ≡ set s from p
  unfolding among placed
  among_none h = let e : from + 0 + 1 ≡ suc from = omega arith in rw (set_split s from p h, e)

  module _ (n : ℕ) (h : from + suc n < length s) where
    abbrev last : Pulse
    last = get_or s (from + n) none

    window : take (suc n) (drop from s) ≡ take n (drop from s) ++ last ∷ []
    window = let g : n < length (drop from s) = omega (arith, length-drop from s) in rw (take-suc (drop from s) n none g, get_or-drop from s n none)

    after : from + suc n + 1 ≡ suc (from + suc n)
    after = omega arith

    pub among-behind : stays_before last p ≡ true → among from (suc n) p s ≡ set s (from + suc n) p
    unfolding among
    among-behind e = rw (set_split s (from + suc n) p h, take-add from (suc n) s, window, placed-behind p last e (take n (drop from s)), after) (simp append_assoc)

    -- the slot, once it holds the last
    slot : drop (from + suc n) (set s (from + suc n) last) ≡ last ∷ drop (suc (from + suc n)) s
    slot = rw (set_split s (from + suc n) last h, drop_at (take (from + suc n) s) (last ∷ drop (suc (from + suc n)) s) (from + suc n) (length-take-le (from + suc n) s (omega arith)))

    pub among-before : stays_before last p ≡ false → among from (suc n) p s ≡ among from n p (set s (from + suc n) last)
    unfolding among
    among-before e =
        let k : from + n + 1 ≡ from + suc n = omega arith in
        rw (window, placed-before p last e (take n (drop from s)), after, take-set-le from s (from + suc n) last (omega arith), drop-set-add from s (suc n) last, take-set-le n (drop from s) (suc n) last (omega arith), k, slot) (simp append_assoc)

  -- the same at the slot i, which comes after the records from `from` up to it
  pub at_from : (i : ℕ) → i ≡ from → i < length s → set s i p ≡ among from (i - from) p s
  at_from i e h = let z : i - from ≡ 0 = omega arith in rw (z, e) (sym (among_none (rw e at h)))

  module _ (i n : ℕ) (is : i ≡ from + suc n) (h : i < length s) where
    prior : i - 1 ≡ from + n
    prior = omega arith

    upto : i - from ≡ suc n
    upto = omega arith

    pub behind : stays_before (get_or s (i - 1) none) p ≡ true → set s i p ≡ among from (i - from) p s
    behind e = rw (upto, is) (sym (among-behind n (rw is at h) (rw prior at e)))

    pub before : stays_before (get_or s (i - 1) none) p ≡ false → among from (i - 1 - from) p (set s i (get_or s (i - 1) none)) ≡ among from (i - from) p s
    before e = let k : i - 1 - from ≡ n = omega arith in rw (k, prior, upto, is) (sym (among-before n (rw is at h) (rw prior at e)))
