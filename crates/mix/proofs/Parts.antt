-- What a call leaves: a part of each row lent and put back, by what the test of the sizes found. Assumes nothing.
use Prim.Native.Nat.{ℕ, ◌+◌, ◌-◌, ◌≤◌}
use native.Mathlib.Omega.{arith}
use mathlib.Core.Path.{◌≡◌, refl}
use mathlib.Core.Bool.{Bool, true, false, ◌&&◌, cond, false≢true}
use mathlib.Core.List.{List}
use lib.Dec.{eqb}
use lib.ListN.{length}
use lib.Ieee.{Float}
use borrow.Author.Tests.{leb-true, le-leb}
use borrow.Rule.Slice.PartMut.{mid_of, put_mid, Post-is}
use Rattle.mix.specs.Part.{holds, part_fits, on_part, first_row, second_row}

-- ---- a part that fits
module _ (rows i q s n : ℕ) (fit : part_fits rows i q s n ≡ true) where
  one-fits : (one two h k : Bool) → cond one h (cond two (h && k) false) ≡ true → h ≡ true
  one-fits true two h k e = e
  one-fits false true true k e = refl
  one-fits false true false k e = absurd (false≢true e)
  one-fits false false h k e = absurd (false≢true e)

  two-fit : (two h k : Bool) → cond two (h && k) false ≡ true → (two ≡ true) × (k ≡ true)
  two-fit true true k e = (refl, e)
  two-fit true false k e = absurd (false≢true e)
  two-fit false h k e = absurd (false≢true e)

  pub first_holds : s + n ≤ i
  first_holds = leb-true (s + n) i (one-fits (eqb rows 1) (eqb rows 2) (holds i s n) (holds q s n) fit)

  module _ (not-one : eqb rows 1 ≡ false) where
    both-rows : (eqb rows 2 ≡ true) × (holds q s n ≡ true)
    both-rows = two-fit (eqb rows 2) (holds i s n) (holds q s n) (rw not-one at fit)

    pub are-two : eqb rows 2 ≡ true
    are-two = both-rows.0

    pub second_holds : s + n ≤ q
    second_holds = leb-true (s + n) q both-rows.1

-- a part of one row, and of two rows of one length
pub fits_one : (i q s n : ℕ) → s + n ≤ i → part_fits 1 i q s n ≡ true
fits_one i q s n h = le-leb (s + n) i h

pub fits-two : (i s n : ℕ) → s + n ≤ i → part_fits 2 i i s n ≡ true
fits-two i s n h = rw (le-leb (s + n) i h)

-- a part is lent, and comes back as f of it
put_back : (s n : ℕ) (f : List Float → List Float) (row ys : List Float) → ys ≡ f (mid_of s (s + n - s) row) → put_mid s (s + n - s) row ys ≡ on_part s n f row
unfolding on_part
put_back s n f row ys e =
    let before : s ≤ s + n = omega arith in
    let count : s + n - s ≡ n = omega arith in
    rw (e, Post-is s (s + n) row before, count)

-- ---- the rows afterwards
module _ (rows s n : ℕ) (i q : List Float) (f g : List Float → List Float) where
  pub stays : part_fits rows (length i) (length q) s n ≡ false → (i ≡ first_row rows s n i q f) × (q ≡ second_row rows s n i q g)
  stays e = (rw e, rw e)

  module _ (fit : part_fits rows (length i) (length q) s n ≡ true) where
    pub one-row : rows ≡ 1 → (ys : List Float) → ys ≡ f (mid_of s (s + n - s) i) → (put_mid s (s + n - s) i ys ≡ first_row rows s n i q f) × (q ≡ second_row rows s n i q g)
    one-row one ys e = (rw fit (put_back s n f i ys e), rw (fit, one))

    pub two-rows : eqb rows 1 ≡ false → (ys zs : List Float) → ys ≡ f (mid_of s (s + n - s) i) → zs ≡ g (mid_of s (s + n - s) q)
        → (put_mid s (s + n - s) i ys ≡ first_row rows s n i q f) × (put_mid s (s + n - s) q zs ≡ second_row rows s n i q g)
    two-rows not-one ys zs e h = (rw fit (put_back s n f i ys e), rw (fit, are-two rows (length i) (length q) s n fit not-one) (put_back s n g q zs h))
