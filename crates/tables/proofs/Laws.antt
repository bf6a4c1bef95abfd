-- Refusal 3 of the tables: given exactly where a good name is new and the table is full. And a refused addition leaves the tables that
-- came, and the shapes' rows. Assumes nothing.
use Rattle.std.specs.Prelude.{Option, Some, None, Ok}
use Prim.Native.Nat.{ℕ, ◌+◌, ◌≤◌}
use native.Mathlib.Omega.{arith}
use mathlib.Core.Path.{◌≡◌, refl, sym, ap, ◌∙◌}
use mathlib.Core.Bool.{Bool, true, false, ◌&&◌, cond}
use borrow.Author.Tests.{ltb-false, le-ltb}
use mathlib.Core.List.{List}
use lib.Dec.{ltb, eqb}
use lib.Ieee.{Float}
use lib.ListN.{length, set}
use Rattle.naming.specs.declared.Name.{Name}
use Rattle.quant.specs.declared.refusal.Refusal.{Refusal}
use Rattle.quant.specs.declared.refusal.Refusal.TheVariants.{Malformed, Full, WrongSize, WrongSpline}
use Rattle.naming.specs.Name.{is_name}
use Rattle.quant.specs.Refusal.{code_of, Answer, refuse}
use Rattle.rows.specs.Rows.{all_finite}
use Rattle.spline.specs.Spline.{is_spline}
use Rattle.spline.specs.Row.{row_of}
use Rattle.pulse.specs.Bin.{no_numbers}
use Rattle.executor.specs.declared.osc.OscState.{OscState}
use Rattle.tables.specs.declared.Channel.{Channel}
use Rattle.tables.specs.declared.Tables.{Tables}
use Rattle.tables.specs.declared.Tabled.{Tabled}
use Rattle.tables.specs.Tables.{found, shape_found, done, refused, fresh, with_channels, with_channel, finite_osc, settled, with_added, Formed, formed, with_shape, settled_shape, with_added_shape, with_added_spline}

-- answers of other numbers
other : (a b : Answer) (m n : ℕ) → code_of a ≡ m → code_of b ≡ n → (m ≡ n → ⊥) → a ≡ b → ⊥
other a b m n e f apart h = apart (sym e ∙ ap code_of h ∙ f)

-- ---- a channel

-- a good name that is new, and eight channels
pub record ChannelFull (t : Tables) (n : Name) (o : OscState) : Type 0 where
  pub good : (is_name n && finite_osc o) ≡ true
  pub new : found t n ≡ None
  pub full : 8 ≤ t.count

module _ (t : Tables) (n : Name) (o : OscState) where
  pub channel-full : ChannelFull t n o → with_added t n o ≡ refused Full t
  unfolding settled
  channel-full h = rw (h.good, h.new, le-ltb t.count 8 h.full)

  room-full : (is_name n && finite_osc o) ≡ true → found t n ≡ None → (b : Bool) → ltb t.count 8 ≡ b → (d : Tables)
      → (cond b (done d) (refused Full t)).answer ≡ refuse Full 0 → ChannelFull t n o
  room-full g e true k d h = absurd (other (Ok 0) (refuse Full 0) 0 3 refl refl (λ z. omega arith) h)
  room-full g e false k d h = record { good = g; new = e; full = ltb-false t.count 8 k }

  found-full : (is_name n && finite_osc o) ≡ true → (f : Option ℕ) → found t n ≡ f → (settled t f (fresh n o)).answer ≡ refuse Full 0 → ChannelFull t n o
  unfolding settled
  found-full g (Some i) e h = absurd (other (Ok 0) (refuse Full 0) 0 3 refl refl (λ z. omega arith) h)
  found-full g None e h = room-full g e (ltb t.count 8) refl _ h

  pub only-channel-full : (with_added t n o).answer ≡ refuse Full 0 → ChannelFull t n o
  only-channel-full h = go (is_name n && finite_osc o) refl h
    where
      go : (b : Bool) → (is_name n && finite_osc o) ≡ b → (cond b (settled t (found t n) (fresh n o)) (refused Malformed t)).answer ≡ refuse Full 0 → ChannelFull t n o
      go true e k = found-full e (found t n) refl k
      go false e k = absurd (other (refuse Malformed 0) (refuse Full 0) 2 3 refl refl (λ z. omega arith) k)

-- ---- a shape: Hann's or a spline

-- a name that is new, and eight names
pub record NamesFull (t : Tables) (n : Name) : Type 0 where
  pub new : shape_found t n ≡ None
  pub full : 8 ≤ t.named

-- all that stands before refusal 3 is passed: of Hann's shape, and of a spline
pub record ShapeFull (t : Tables) (n : Name) (rows : List (List Float)) : Type 0 where
  pub sized : eqb (length rows) 8 ≡ true
  pub good : is_name n ≡ true
  pub names : NamesFull t n

pub record SplineFull (t : Tables) (n : Name) (degree : ℕ) (controls knots : List Float) (rows : List (List Float)) : Type 0 where
  pub sized : eqb (length rows) 8 ≡ true
  pub good : (is_name n && all_finite controls && all_finite knots) ≡ true
  pub spline : is_spline degree (length controls) knots ≡ true
  pub names : NamesFull t n

module _ (t : Tables) (n : Name) (rows : List (List Float)) where
  settled-full : (row : List Float) → NamesFull t n → settled_shape t (shape_found t n) n row rows ≡ formed (refused Full t) rows
  unfolding settled_shape
  settled-full row h = rw (h.new, le-ltb t.named 8 h.full)

  room-full-of-names : shape_found t n ≡ None → (b : Bool) → ltb t.named 8 ≡ b → (d : Tables) (x : List (List Float))
      → (cond b (formed (done d) x) (formed (refused Full t) rows)).tabled.answer ≡ refuse Full 0 → NamesFull t n
  room-full-of-names e true k d x h = absurd (other (Ok 0) (refuse Full 0) 0 3 refl refl (λ z. omega arith) h)
  room-full-of-names e false k d x h = record { new = e; full = ltb-false t.named 8 k }

  settled-at-full : (row : List Float) (f : Option ℕ) → shape_found t n ≡ f → (settled_shape t f n row rows).tabled.answer ≡ refuse Full 0 → NamesFull t n
  unfolding settled_shape
  settled-at-full row (Some i) e h = absurd (other (Ok 0) (refuse Full 0) 0 3 refl refl (λ z. omega arith) h)
  settled-at-full row None e h = room-full-of-names e (ltb t.named 8) refl _ _ h

  only-settled-full : (row : List Float) → (settled_shape t (shape_found t n) n row rows).tabled.answer ≡ refuse Full 0 → NamesFull t n
  only-settled-full row h = settled-at-full row (shape_found t n) refl h

  -- a test that refuses by another number is passed
  passes : (b : Bool) (x : Formed) (q : Refusal) (m : ℕ) → code_of (refuse q 0) ≡ m → (m ≡ 3 → ⊥)
      → (cond b x (formed (refused q t) rows)).tabled.answer ≡ refuse Full 0 → (b ≡ true) × (x.tabled.answer ≡ refuse Full 0)
  passes true x q m e apart h = (refl, h)
  passes false x q m e apart h = absurd (other (refuse q 0) (refuse Full 0) m 3 e refl apart h)

  pub shape-full : ShapeFull t n rows → with_added_shape t n rows ≡ formed (refused Full t) rows
  shape-full h = rw (h.sized, h.good) (settled-full no_numbers h.names)

  pub only-shape-full : (with_added_shape t n rows).tabled.answer ≡ refuse Full 0 → ShapeFull t n rows
  only-shape-full h =
      let a = passes (eqb (length rows) 8) _ WrongSize 13 refl (λ z. omega arith) h in
      let b = passes (is_name n) _ Malformed 2 refl (λ z. omega arith) a.1 in
      record { sized = a.0; good = b.0; names = only-settled-full no_numbers b.1 }

  module _ (degree : ℕ) (controls knots : List Float) where
    pub spline-full : SplineFull t n degree controls knots rows → with_added_spline t n degree controls knots rows ≡ formed (refused Full t) rows
    spline-full h = rw (h.sized, h.good, h.spline) (settled-full (row_of degree controls knots) h.names)

    pub only-spline-full : (with_added_spline t n degree controls knots rows).tabled.answer ≡ refuse Full 0 → SplineFull t n degree controls knots rows
    only-spline-full h =
        let a = passes (eqb (length rows) 8) _ WrongSize 13 refl (λ z. omega arith) h in
        let b = passes (is_name n && all_finite controls && all_finite knots) _ Malformed 2 refl (λ z. omega arith) a.1 in
        let c = passes (is_spline degree (length controls) knots) _ WrongSpline 16 refl (λ z. omega arith) b.1 in
        record { sized = a.0; good = b.0; spline = c.0; names = only-settled-full (row_of degree controls knots) c.1 }

-- ---- a refused addition leaves the tables that came

done-not : (d : Tables) (r : Refusal) (k : ℕ) → (done d).answer ≡ refuse r k → ⊥
done-not d r k e = let z : ◌≡◌ {A = ℕ} 0 1 = cc in omega arith

-- "refused, the tables are those that came", of a call from t
abbrev pub RefusedStays : Tables → Tabled → Type 0
RefusedStays t x = (r : Refusal) (k : ℕ) → x.answer ≡ refuse r k → x.tables ≡ t

one_of : (t : Tables) (b : Bool) (x y : Tabled) → RefusedStays t x → RefusedStays t y → RefusedStays t (cond b x y)
one_of t true x y h k = h
one_of t false x y h k = k

done-stays : (t d : Tables) → RefusedStays t (done d)
done-stays t d r k e = absurd (done-not d r k e)

refused_as_came : (t : Tables) (q : Refusal) → RefusedStays t (refused q t)
refused_as_came t q r k e = refl

settled-stays : (t : Tables) (f : Option ℕ) (c : Channel) → RefusedStays t (settled t f c)
unfolding settled
settled-stays t (Some i) c = done-stays t (with_channel t i c)
settled-stays t None c =
    let d = with_channels t (set t.channels t.count c) (t.count + 1) in
    one_of t (ltb t.count 8) (done d) (refused Full t) (done-stays t d) (refused_as_came t Full)

pub channel-refused-stays : (t : Tables) (n : Name) (o : OscState) → RefusedStays t (with_added t n o)
channel-refused-stays t n o =
    let s = settled t (found t n) (fresh n o) in
    one_of t (is_name n && finite_osc o) s (refused Malformed t) (settled-stays t (found t n) (fresh n o)) (refused_as_came t Malformed)

-- and the shapes' rows too
abbrev pub FormedStays : Tables → List (List Float) → Formed → Type 0
FormedStays t rows x = (r : Refusal) (k : ℕ) → x.tabled.answer ≡ refuse r k → (x.tabled.tables ≡ t) × (x.rows ≡ rows)

module _ (t : Tables) (rows : List (List Float)) where
  one-formed : (b : Bool) (x y : Formed) → FormedStays t rows x → FormedStays t rows y → FormedStays t rows (cond b x y)
  one-formed true x y h k = h
  one-formed false x y h k = k

  done-formed : (d : Tables) (x : List (List Float)) → FormedStays t rows (formed (done d) x)
  done-formed d x r k e = absurd (done-not d r k e)

  refused-formed : (q : Refusal) → FormedStays t rows (formed (refused q t) rows)
  refused-formed q r k e = (refl, refl)

  settled-shape-stays : (f : Option ℕ) (n : Name) (row : List Float) → FormedStays t rows (settled_shape t f n row rows)
  unfolding settled_shape
  settled-shape-stays (Some i) n row = done-formed t (set rows i row)
  settled-shape-stays None n row =
      let x = set rows t.named row in
      one-formed (ltb t.named 8) (formed (done (with_shape t n)) x) (formed (refused Full t) rows) (done-formed (with_shape t n) x) (refused-formed Full)

  pub shape-refused-stays : (n : Name) → FormedStays t rows (with_added_shape t n rows)
  shape-refused-stays n =
      one-formed (eqb (length rows) 8) _ _ (one-formed (is_name n) _ _ (settled-shape-stays (shape_found t n) n no_numbers) (refused-formed Malformed)) (refused-formed WrongSize)

  pub spline-refused-stays : (n : Name) (degree : ℕ) (controls knots : List Float) → FormedStays t rows (with_added_spline t n degree controls knots rows)
  spline-refused-stays n degree controls knots =
      let row = row_of degree controls knots in
      let tested = one-formed (is_spline degree (length controls) knots) _ _ (settled-shape-stays (shape_found t n) n row) (refused-formed WrongSpline) in
      one-formed (eqb (length rows) 8) _ _ (one-formed (is_name n && all_finite controls && all_finite knots) _ _ tested (refused-formed Malformed)) (refused-formed WrongSize)
