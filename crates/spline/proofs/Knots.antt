-- A spline of finite numbers whose knots do not fall: the order of the knots, and that each number of a fine recurrence is a finite double.
-- Assumes nothing.
use Rattle.std.proofs.Common.{◌≡◌, ℕ, zero, suc, ◌+◌, ◌-◌, ◌<◌, ◌≤◌, Bool, true, false, cond, ◌&&◌, T, List, sym, refl, ap, ◌∙◌, subst, add-zero, arith}
use lib.Ieee.{Float, binary64, fits, sub, mul, lt}
use lib.Ieee.Fits.{add-fits}
use lib.Ieee.Scale.{finite}
use Rattle.exact.specs.Doubles.{nought, one}
use Rattle.exact.specs.Signed.{Signed, Same}
use Rattle.exact.proofs.Truth.{both}
use Rattle.spline.specs.Spline.{control_at, knot_at, in_domain, span_at, share, blend_of, fine_step, d_at, fine_at}
use Rattle.spline.specs.Value.{spline_at, spline_fine}
use Rattle.spline.proofs.Places.{Number, place, NotMore, on, like, lt_no}

-- ---- a spline of finite numbers whose knots do not fall
pub record Rising (row : List Float) (p n : ℕ) : Type 0 where
  pub some : p < n
  pub control : (i : ℕ) → i < n → Number (control_at row i)
  pub knot : (i : ℕ) → i ≤ n + p → Number (knot_at row i)
  pub rises : (i : ℕ) → i < n + p → lt (knot_at row (i + 1)) (knot_at row i) ≡ false

pub same-control : (row : List Float) (i j : ℕ) → i ≡ j → Same (place (control_at row i)) (place (control_at row j))
same-control row i j e = subst (λ (k : ℕ). Same (place (control_at row i)) (place (control_at row k))) e refl

-- ---- what a fine step says
yes : (b : Bool) → b ≡ true → T b
yes b e = subst T (sym e) tt

-- of seven tests the second and the last
two : (a b c d e f g : Bool) → (a && b && c && d && e && f && g) ≡ true → T b × T g
two a b c d e f g h =
    let i = both (a && b && c && d && e && f) g h in
    let j = (both (a && b && c && d) e (both (a && b && c && d && e) f i.0).0).0 in
    (yes b (both a b (both (a && b) c (both (a && b && c) d j).0).0).1, yes g i.1)

fine-step : (x lo hi a b : Float) → fine_step x lo hi a b ≡ true → T (finite (sub binary64 hi lo)) × T (finite (blend_of x lo hi a b))
unfolding fine_step
fine-step x lo hi a b e =
    two (finite (sub binary64 x lo)) (finite (sub binary64 hi lo)) (finite q) (finite r) (finite (mul binary64 r a)) (finite (mul binary64 q b))
    (finite (blend_of x lo hi a b)) e
  where
    q : Float
    q = share x lo hi

    r : Float
    r = sub binary64 one q

module _ (row : List Float) (p k : ℕ) (x : Float) where
  abbrev lo : ℕ → Float
  lo j = knot_at row (j + k - p)

  abbrev hi : ℕ → ℕ → Float
  hi r j = knot_at row (j + 1 + k - suc r)

  abbrev d : ℕ → ℕ → Float
  d r j = d_at row p k x r j

  pub record Parts (r j : ℕ) : Type 0 where
    pub before : fine_at row p k x r (j - 1) ≡ true
    pub here : fine_at row p k x r j ≡ true
    pub wide : T (finite (sub binary64 (hi r j) (lo j)))
    pub sum : T (finite (blend_of x (lo j) (hi r j) (d r (j - 1)) (d r j)))

  pub parts : (r j : ℕ) → fine_at row p k x (suc r) j ≡ true → Parts r j
  unfolding fine_at
  parts r j e =
      let e1 = both (fine_at row p k x r (j - 1) && fine_at row p k x r j) (fine_step x (lo j) (hi r j) (d r (j - 1)) (d r j)) e in
      let e2 = both (fine_at row p k x r (j - 1)) (fine_at row p k x r j) e1.0 in
      let e3 = fine-step x (lo j) (hi r j) (d r (j - 1)) (d r j) e1.1 in
      record { before = e2.0; here = e2.1; wide = e3.0; sum = e3.1 }

  pub fine-known : (r j : ℕ) → fine_at row p k x r j ≡ true → T (finite (d_at row p k x r j))
  unfolding d_at fine_at
  fine-known zero j e = yes (finite (control_at row (j + k - p))) e
  fine-known (suc r) j e = (parts r j e).sum

  fits-at : (r j : ℕ) → T (fits binary64 (control_at row (j + k - p))) → T (fits binary64 (d_at row p k x r j))
  unfolding d_at blend_of
  fits-at zero j f = f
  fits-at (suc r) j f = add-fits binary64 _ _

  pub number-at : (r j : ℕ) → Number (control_at row (j + k - p)) → fine_at row p k x r j ≡ true → Number (d_at row p k x r j)
  number-at r j c e = record { fit = fits-at r j c.fit; known = fine-known r j e }

-- ---- the knots in their order
module _ (row : List Float) (p n : ℕ) (K : Rising row p n) where
  abbrev t : ℕ → Signed
  t i = place (knot_at row i)

  rising : (i m : ℕ) → i + m ≤ n + p → NotMore (t i) (t (i + m))
  rising i zero h = rw add-zero (like (t i) (t i) refl)
  rising i (suc m) h =
      let here : i + m < n + p = omega arith in
      subst (λ (k : ℕ). NotMore (t i) (t k)) (next i m)
      (on (t i) (t (i + m)) (t (i + m + 1)) (rising i m (omega arith))
      (lt_no (knot_at row (i + m + 1)) (knot_at row (i + m)) (K.knot (i + m + 1) (omega arith)) (K.knot (i + m) (omega arith))
      (K.rises (i + m) here)))
    where
      next : (i m : ℕ) → i + m + 1 ≡ i + suc m
      next i m = omega arith

  pub ordered : (i j : ℕ) → i ≤ j → j ≤ n + p → NotMore (t i) (t j)
  ordered i j h k = subst (λ (m : ℕ). NotMore (t i) (t m)) (apart i j h) (rising i (j - i) (omega arith))
    where
      apart : (i j : ℕ) → i ≤ j → i + (j - i) ≡ j
      apart i j h = omega arith

-- ---- a value on the span k, where x lies in the domain
module _ (row : List Float) (p n : ℕ) (x : Float) (k : ℕ) (e : in_domain row p n x ≡ true) (g : span_at row p n x ≡ k) where
  pub on-span : spline_at row p n x ≡ d_at row p k x p p
  unfolding spline_at
  on-span = ap (λ (b : Bool). cond b (d_at row p (span_at row p n x) x p p) nought) e ∙ ap (λ (m : ℕ). d_at row p m x p p) g

  pub fine-on-span : spline_fine row p n x ≡ true → fine_at row p k x p p ≡ true
  unfolding spline_fine
  fine-on-span h = sym (ap (λ (b : Bool). cond b (fine_at row p (span_at row p n x) x p p) true) e ∙ ap (λ (m : ℕ). fine_at row p m x p p) g) ∙ h
