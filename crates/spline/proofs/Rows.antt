-- The numbers of a spline's row, one at a time. Assumes nothing.
use Rattle.std.proofs.Common.{◌≡◌, ℕ, zero, suc, ◌+◌, ◌<◌, List, [], ◌∷◌, ◌++◌, length, get_or, set, replicate, sym, refl, ap, ◌∙◌, arith, length-append, length-take, get_or-take, get_or-append-add}
use lib.ListN.{length-replicate, get_or-replicate, get_or-append}
use lib.Ieee.{Float, nan}
use Rattle.exact.specs.Doubles.{nought}
use Rattle.rows.proofs.Turns.{upto, upto_next, upto-end}
use Rattle.spline.specs.Row.{counted, padded, row_of}

extended : (l : List Float) (m i : ℕ) (d : Float) → i < m → get_or (l ++ replicate m nought) i d ≡ get_or l i nought
extended [] m i d h = get_or-replicate m i nought d h
extended (x ∷ l) m zero d h = refl
extended (x ∷ l) m (suc i) d h = extended l m i d (omega arith)

padded-at : (l : List Float) (m i : ℕ) (d : Float) → i < m → get_or (padded m l) i d ≡ get_or l i nought
padded-at l m i d h = get_or-take m (l ++ replicate m nought) i d h ∙ extended l m i d h

padded-length : (l : List Float) (m : ℕ) → length (padded m l) ≡ m
padded-length l m = simp (length-take, length-append, length-replicate) (omega arith)

module _ (p : ℕ) (c t : List Float) where
  row-length : length (row_of p c t) ≡ 72
  unfolding row_of
  row-length = let both = length-append (padded 32 c) (padded 38 t) in omega (arith, padded-length c 32, padded-length t 38)

  row-control : (i : ℕ) (d : Float) → i < 32 → get_or (row_of p c t) (2 + i) d ≡ get_or c i nought
  unfolding row_of
  row-control i d h =
      let place : 2 + i ≡ suc (suc i) = omega arith in
      rw place (get_or-append (padded 32 c) (padded 38 t) d i (omega (arith, padded-length c 32)) ∙ padded-at c 32 i d h)

  row-knot : (i : ℕ) (d : Float) → i < 38 → get_or (row_of p c t) (34 + i) d ≡ get_or t i nought
  unfolding row_of
  row-knot i d h =
      let place : 34 + i ≡ suc (suc (length (padded 32 c) + i)) = omega (arith, padded-length c 32) in
      rw place (get_or-append-add (padded 32 c) (padded 38 t) i d ∙ padded-at t 38 i d h)

  -- the row up to number k, and zeros behind it
  abbrev pub filled : ℕ → List Float
  filled k = upto (row_of p c t) (replicate 72 nought) k

  same : length (row_of p c t) ≡ length (replicate 72 nought)
  same = row-length ∙ sym (length-replicate 72 nought)

  next : (l : List Float) (k : ℕ) (v : Float) → k < 72 → v ≡ get_or (row_of p c t) k nan → l ≡ filled k → set l k v ≡ filled (k + 1)
  next l k v h e f =
      ap (λ (l : List Float). set l k v) f
      ∙ upto_next (row_of p c t) (replicate 72 nought) k nan v (omega (arith, length-replicate 72 nought)) same (sym e)

  pub filled-start : (u v : Float) → u ≡ counted p → v ≡ counted (length c) → set (set (replicate 72 nought) 0 u) 1 v ≡ filled (2 + 0)
  unfolding row_of upto
  filled-start u v e f = rw (e, f)

  pub filled-control : (l : List Float) (i : ℕ) (v : Float) → i < 32 → v ≡ get_or c i nought → l ≡ filled (2 + i)
      → set l (2 + i) v ≡ filled (2 + (i + 1))
  filled-control l i v h e f =
      let place : 2 + i + 1 ≡ 2 + (i + 1) = omega arith in
      next l (2 + i) v (omega arith) (e ∙ sym (row-control i nan h)) f ∙ ap filled place

  pub filled-knot : (l : List Float) (i : ℕ) (v : Float) → i < 38 → v ≡ get_or t i nought → l ≡ filled (34 + i)
      → set l (34 + i) v ≡ filled (34 + (i + 1))
  filled-knot l i v h e f =
      let place : 34 + i + 1 ≡ 34 + (i + 1) = omega arith in
      next l (34 + i) v (omega arith) (e ∙ sym (row-knot i nan h)) f ∙ ap filled place

  pub filled-all : filled 72 ≡ row_of p c t
  filled-all = rw (← length-replicate 72 nought) (upto-end (row_of p c t) (replicate 72 nought) same)
