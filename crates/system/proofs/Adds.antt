-- Making tables and adding to them: accepted, the count is 0; refused, with 1, of a channel with 2 or 3, of a shape with 13, 2 or 3, of a spline with
-- 13, 2, 16 or 3, the place is 0 and all is as it came, the shapes' rows too. By the ways in which a call ends. Assumes nothing.
use Prim.Native.Nat.{ℕ}
use mathlib.Core.Path.{◌≡◌, refl}
use mathlib.Core.Bool.{Bool, true, false, ◌&&◌, cond}
use mathlib.Core.List.{List}
use lib.Ieee.{Float}
use Rattle.exact.specs.Doubles.{nought}
use Rattle.exact.specs.Among.{among}
use Rattle.naming.specs.declared.Name.{Name}
use Rattle.quant.specs.declared.refusal.Refusal.{Refusal}
use Rattle.quant.specs.declared.refusal.Refusal.TheVariants.{Unfit, Malformed, Full, WrongSize, WrongSpline}
use Rattle.quant.specs.Refusal.{number_of}
use Rattle.quant.specs.Settings.{is_tolerance}
use Rattle.executor.specs.declared.osc.OscState.{OscState}
use Rattle.tables.specs.declared.Tabled.{Tabled}
use Rattle.tables.specs.Tables.{Formed, formed, empty, done, refused, made, with_added, with_added_shape, with_added_spline}
use Rattle.system.specs.System.{State, tabled, has_formed, remade}
use Rattle.system.specs.Said.{MakeSaid, AddSaid, channel_numbers, shape_numbers, spline_numbers}
use Rattle.system.proofs.Added.{channel-by, shape-by, spline-by}

module _ (s : State) where
  pub make-said : (amp time : Float) (oversize : Bool) → let o = remade s (made amp time oversize) in MakeSaid s o.answer o.after
  unfolding among
  make-said amp time oversize = go (is_tolerance amp && is_tolerance time)
    where
      go : (b : Bool) → let o = remade s (cond b (done (empty amp time oversize)) (refused Unfit (empty nought nought false))) in MakeSaid s o.answer o.after
      go true = refl
      go false = record { number = refl; place = refl; left = refl }

  -- ---- refused with one of some numbers, at place 0: all is as it came
  module _ (numbers : List ℕ) where
    abbrev Said : Tabled → Type 0
    Said x = AddSaid numbers s (tabled s x).answer (tabled s x).after

    abbrev SaidForm : Formed → Type 0
    SaidForm x = AddSaid numbers s (has_formed s x).answer (has_formed s x).after

    came : (why : Refusal) → among numbers (number_of why) ≡ true → Said (refused why s.tables)
    came why number = record { number = number; place = refl; left = refl }

    came-form : (why : Refusal) → among numbers (number_of why) ≡ true → SaidForm (formed (refused why s.tables) s.splines)
    came-form why number = record { number = number; place = refl; left = refl }

  pub channel-said : (n : Name) (o : OscState) → Said channel_numbers (with_added s.tables n o)
  unfolding among
  channel-said n o =
      let l = channel_numbers in
      channel-by (Said l) s.tables n o (λ i e. refl) refl (came l Malformed refl) (came l Full refl)

  pub shape-said : (n : Name) → SaidForm shape_numbers (with_added_shape s.tables n s.splines)
  unfolding among
  shape-said n =
      let l = shape_numbers in
      shape-by (SaidForm l) s.tables s.splines n (λ i row. refl) (λ row. refl) (came-form l WrongSize refl) (came-form l Malformed refl) (came-form l Full refl)

  pub spline-said : (n : Name) (degree : ℕ) (controls knots : List Float)
      → SaidForm spline_numbers (with_added_spline s.tables n degree controls knots s.splines)
  unfolding among
  spline-said n degree controls knots =
      let l = spline_numbers in
      spline-by (SaidForm l) s.tables s.splines n (λ i row. refl) (λ row. refl) (came-form l WrongSize refl) (came-form l Malformed refl) (came-form l Full refl) degree
      controls knots (came-form l WrongSpline refl)
