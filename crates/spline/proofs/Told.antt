-- What a row tells, and what its value is then. Assumes nothing.
use Rattle.std.proofs.Common.{◌≡◌, ℕ, true, false, ◌&&◌, ltb, leb, List, ltb-true, leb-true}
use lib.Ieee.{Float}
use Rattle.exact.specs.Doubles.{nought}
use Rattle.exact.proofs.Truth.{both}
use Rattle.spline.specs.Spline.{sizes_fit, Sizes}
use Rattle.spline.specs.Value.{spline_at, spline_fine, tells, Told, value_in, fine_in}

pub sized : (p n : ℕ) → sizes_fit p n ≡ true → Sizes p n
sized p n e =
    let h = both (leb p 5 && ltb p n) (leb n 32) e in
    let g = both (leb p 5) (ltb p n) h.0 in
    record { degree = leb-true p 5 g.0; some = ltb-true p n g.1; most = leb-true n 32 h.1 }

module _ (row : List Float) (x : Float) where
  pub told-value : {q : List Float} {p n : ℕ} → Told row q p n → spline_at q p n x ≡ value_in row x
  unfolding value_in
  told-value h = rw (h.told, h.same, h.degree, h.count)

  pub told-fine : {q : List Float} {p n : ℕ} → Told row q p n → spline_fine q p n x ≡ fine_in row x
  unfolding fine_in
  told-fine h = rw (h.told, h.same, h.degree, h.count)

  pub untold-value : tells row ≡ false → nought ≡ value_in row x
  unfolding value_in
  untold-value e = rw e

  pub untold-fine : tells row ≡ false → true ≡ fine_in row x
  unfolding fine_in
  untold-fine e = rw e
