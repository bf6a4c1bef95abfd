use borrow.Author.Tests.{eqb-true}
use mathlib.Core.Path.{◌≡◌, sym, ◌∙◌}
use mathlib.Core.Bool.{true, ◌&&◌}
use Prim.Native.Nat.{ℕ}
use native.Mathlib.Omega.{arith}
use lib.Dec.{eqb}
use Rattle.exact.proofs.Truth.{both}
use Rattle.rows.specs.Rows.{rows_fit}
use Rattle.mixer.specs.Mixer.{mixer_fits}
use Rattle.mixer.proofs.Lone.{equal-rows}
use Rattle.mixer.proofs.mixer.Goals as goal

-- what sizes that fit are
record Sizes (i q matrix offsets : ℕ) : Type 0 where
  equal : i ≡ q
  four : matrix ≡ 4
  two : offsets ≡ 2

sizes : (rows i q matrix offsets : ℕ) → mixer_fits rows i q matrix offsets ≡ true → Sizes i q matrix offsets
unfolding mixer_fits
sizes rows i q matrix offsets e =
    let last = both (rows_fit rows i q && eqb rows 2 && eqb matrix 4) (eqb offsets 2) e in
    let third = both (rows_fit rows i q && eqb rows 2) (eqb matrix 4) last.0 in
    let second = both (rows_fit rows i q) (eqb rows 2) third.0 in
    record {
      equal = equal-rows rows i q second.0 (eqb-true rows 2 second.1);
      four = eqb-true matrix 4 third.1;
      two = eqb-true offsets 2 last.1;
    }

pub bounds-matrix-0 : goal.bounds-matrix-0
bounds-matrix-0 c = omega (arith, (sizes _ _ _ _ _ (sym c.fits.ensures ∙ c.if-not-fits.false)).four)

pub bounds-matrix-1 : goal.bounds-matrix-1
bounds-matrix-1 c = omega (arith, (sizes _ _ _ _ _ (sym c.fits.ensures ∙ c.if-not-fits.false)).four)

pub bounds-offsets-0 : goal.bounds-offsets-0
bounds-offsets-0 c = omega (arith, (sizes _ _ _ _ _ (sym c.fits.ensures ∙ c.if-not-fits.false)).two)

pub bounds-matrix-2 : goal.bounds-matrix-2
bounds-matrix-2 c = omega (arith, (sizes _ _ _ _ _ (sym c.fits.ensures ∙ c.if-not-fits.false)).four)

pub bounds-matrix-3 : goal.bounds-matrix-3
bounds-matrix-3 c = omega (arith, (sizes _ _ _ _ _ (sym c.fits.ensures ∙ c.if-not-fits.false)).four)

pub bounds-offsets-1 : goal.bounds-offsets-1
bounds-offsets-1 c = omega (arith, (sizes _ _ _ _ _ (sym c.fits.ensures ∙ c.if-not-fits.false)).two)

pub correct-requires : goal.correct-requires
correct-requires c = (sizes _ _ _ _ _ (sym c.fits.ensures ∙ c.if-not-fits.false)).equal
