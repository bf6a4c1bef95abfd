-- The ways in which adding a channel, a shape or a spline ends: refused by one of its checks, or done, at a place that is known or behind those that are
-- there. What holds of each way holds of the add. Assumes nothing.
use Rattle.std.specs.Prelude.{Option, Some, None}
use Prim.Native.Nat.{ℕ, ◌+◌}
use mathlib.Core.Path.{◌≡◌, refl}
use mathlib.Core.Bool.{Bool, true, false, ◌&&◌, cond}
use mathlib.Core.List.{List}
use lib.Dec.{ltb, eqb}
use lib.Ieee.{Float}
use lib.ListN.{length, set}
use Rattle.naming.specs.declared.Name.{Name}
use Rattle.naming.specs.Name.{is_name}
use Rattle.quant.specs.declared.refusal.Refusal.TheVariants.{Malformed, Full, WrongSize, WrongSpline}
use Rattle.rows.specs.Rows.{all_finite}
use Rattle.spline.specs.Spline.{is_spline}
use Rattle.spline.specs.Row.{row_of}
use Rattle.pulse.specs.Bin.{no_numbers}
use Rattle.executor.specs.declared.osc.OscState.{OscState}
use Rattle.tables.specs.declared.Tables.{Tables}
use Rattle.tables.specs.declared.Tabled.{Tabled}
use Rattle.tables.specs.Tables.{found, shape_found, done, refused, fresh, finite_osc, with_channels, with_channel, settled, with_added}
use Rattle.tables.specs.Tables.{Formed, formed, with_shape, settled_shape, with_added_shape, with_added_spline}

one_of : {A : Type 0} (P : A → Type 0) (b : Bool) (x y : A) → P x → P y → P (cond b x y)
one_of P true x y h k = h
one_of P false x y h k = k

-- ---- a channel
module _ (P : Tabled → Type 0) (t : Tables) (n : Name) (o : OscState)
    (known : (i : ℕ) → found t n ≡ Some i → P (done (with_channel t i (fresh n o))))
    (new : P (done (with_channels t (set t.channels t.count (fresh n o)) (t.count + 1))))
    (malformed : P (refused Malformed t)) (full : P (refused Full t)) where
  settled-by : (f : Option ℕ) → found t n ≡ f → P (settled t f (fresh n o))
  unfolding settled
  settled-by (Some i) e = known i e
  settled-by None e =
      one_of P (ltb t.count 8) (done (with_channels t (set t.channels t.count (fresh n o)) (t.count + 1))) (refused Full t) new full

  pub channel-by : P (with_added t n o)
  channel-by = one_of P (is_name n && finite_osc o) (settled t (found t n) (fresh n o)) (refused Malformed t) (settled-by (found t n) refl) malformed

-- ---- a shape, or a spline
module _ (P : Formed → Type 0) (t : Tables) (rows : List (List Float)) (n : Name)
    (known : (i : ℕ) (row : List Float) → P (formed (done t) (set rows i row)))
    (new : (row : List Float) → P (formed (done (with_shape t n)) (set rows t.named row)))
    (size : P (formed (refused WrongSize t) rows)) (malformed : P (formed (refused Malformed t) rows)) (full : P (formed (refused Full t) rows)) where
  settled-shape-by : (row : List Float) (f : Option ℕ) → P (settled_shape t f n row rows)
  unfolding settled_shape
  settled-shape-by row (Some i) = known i row
  settled-shape-by row None =
      one_of P (ltb t.named 8) (formed (done (with_shape t n)) (set rows t.named row)) (formed (refused Full t) rows) (new row) full

  -- for rows that are eight
  sized-by : (x : Formed) → P x → P (cond (eqb (length rows) 8) x (formed (refused WrongSize t) rows))
  sized-by x h = one_of P (eqb (length rows) 8) x (formed (refused WrongSize t) rows) h size

  pub shape-by : P (with_added_shape t n rows)
  shape-by =
      let bad = formed (refused Malformed t) rows in
      let x = settled_shape t (shape_found t n) n no_numbers rows in
      sized-by (cond (is_name n) x bad) (one_of P (is_name n) x bad (settled-shape-by no_numbers (shape_found t n)) malformed)

  pub spline-by : (degree : ℕ) (controls knots : List Float) → P (formed (refused WrongSpline t) rows) → P (with_added_spline t n degree controls knots rows)
  spline-by degree controls knots wrong =
      let fine = is_name n && all_finite controls && all_finite knots in
      let fits = is_spline degree (length controls) knots in
      let row = row_of degree controls knots in
      let bad = formed (refused Malformed t) rows in
      let off = formed (refused WrongSpline t) rows in
      let x = settled_shape t (shape_found t n) n row rows in
      sized-by (cond fine (cond fits x off) bad)
      (one_of P fine (cond fits x off) bad (one_of P fits x off (settled-shape-by row (shape_found t n)) wrong) malformed)
