-- A spline's row tells what was stored: the degree, the count of controls, each control and each knot. So its value is that of the spline stored.
-- Assumes nothing.
use Rattle.std.proofs.Common.{◌≡◌, ℕ, suc, ◌+◌, ◌^◌, ◌<◌, ◌≤◌, Bool, true, false, cond, ◌&&◌, eqb, ltb, leb, List, ◌++◌, length, get_or, replicate, ap, ◌∙◌, le_trans, arith, lit≤, length-append, length-take, get_or-take, get_or-append-add, ltb-true, eq-eqb, eqb-true, leb-true}
use lib.ListN.{length-replicate, get_or-append}
use lib.Ieee.{Float, nan, binary64, of_int}
use lib.Ieee.Back.{round_whole}
use lib.Ieee.Exact.{HasValue}
use Rattle.exact.specs.Doubles.{nought}
use Rattle.exact.proofs.Truth.{both}
use Rattle.ieee.proofs.Cutting.{cut-natural}
use Rattle.spline.specs.Spline.{Sizes, sizes_fit, counts_fit, is_spline, not_falling, control_at, knot_at}
use Rattle.spline.specs.Row.{counted, padded, row_of}
use Rattle.spline.specs.Value.{number_of, whole_of, degree_in, count_in, tells, spline_at, spline_fine, value_in, fine_in}

-- ---- what the test of the counts says
pub record Counts (p n knots : ℕ) : Type 0 where
  pub sizes : Sizes p n
  pub known : knots ≡ n + p + 1

pub sizes-of : (p n : ℕ) → sizes_fit p n ≡ true → Sizes p n
sizes-of p n e =
    let most = both (leb p 5 && ltb p n) (leb n 32) e in
    let front = both (leb p 5) (ltb p n) most.0 in
    record { degree = leb-true p 5 front.0; some = ltb-true p n front.1; most = leb-true n 32 most.1 }

pub counts_of : (p n knots : ℕ) → counts_fit p n knots ≡ true → Counts p n knots
counts_of p n knots e =
    let parts = both (sizes_fit p n) (eqb knots (n + p + 1)) e in
    record { sizes = sizes-of p n parts.0; known = eqb-true knots (n + p + 1) parts.1 }

pub spline-counts : (p n : ℕ) (t : List Float) → is_spline p n t ≡ true → counts_fit p n (length t) ≡ true
unfolding is_spline
spline-counts p n t e = (both (counts_fit p n (length t)) (not_falling t) e).0

-- ---- a count as a double, and back
pub counted-value : (n : ℕ) → n ≤ 2 ^ 53 → HasValue (counted n) false n 1
unfolding of_int
counted-value n h = round_whole binary64 false n h

pub whole-counted : (n : ℕ) → n ≤ 2 ^ 53 → whole_of (counted n) ≡ n
unfolding whole_of
whole-counted n h = ap number_of (cut-natural (counted n) n (counted-value n h) (le_trans (suc-le h) (lit≤ tt)))
  where
    suc-le : n ≤ 2 ^ 53 → suc n ≤ 2 ^ 53 + 1
    suc-le h = omega arith

-- ---- a list with zeros behind it
pub padded-length : (m : ℕ) (l : List Float) → length (padded m l) ≡ m
padded-length m l = simp (length-take, length-append, length-replicate) (omega arith)

pub padded-at : (m : ℕ) (l : List Float) (i : ℕ) (d : Float) → i < m → i < length l → get_or (padded m l) i d ≡ get_or l i d
padded-at m l i d h k = get_or-take m (l ++ replicate m nought) i d h ∙ get_or-append l (replicate m nought) d i k

module _ (p : ℕ) (c t : List Float) where
  abbrev row : List Float
  row = row_of p c t

  pub row-length : length row ≡ 72
  unfolding row_of
  row-length = ap (λ (n : ℕ). suc (suc n)) (length-append (padded 32 c) (padded 38 t) ∙ (λ i. padded-length 32 c i + padded-length 38 t i))

  module _ (e : counts_fit p (length c) (length t) ≡ true) where
    fit : Counts p (length c) (length t)
    fit = counts_of p (length c) (length t) e

    pub stored-degree : degree_in row ≡ p
    unfolding row_of
    stored-degree = whole-counted p (le_trans fit.sizes.degree (lit≤ tt))

    pub stored-count : count_in row ≡ length c
    unfolding row_of
    stored-count = whole-counted (length c) (le_trans fit.sizes.most (lit≤ tt))

    pub stored-control : (i : ℕ) → i < length c → control_at row i ≡ get_or c i nan
    unfolding row_of
    stored-control i h =
        let l : i < 32 = omega (arith, fit.sizes.most) in
        ap (λ (k : ℕ). get_or row k nan) (two i)
        ∙ get_or-append (padded 32 c) (padded 38 t) nan i (omega (arith, padded-length 32 c))
        ∙ padded-at 32 c i nan l h
      where
        two : (i : ℕ) → 2 + i ≡ suc (suc i)
        two i = omega arith

    pub stored-knot : (i : ℕ) → i < length t → knot_at row i ≡ get_or t i nan
    unfolding row_of
    stored-knot i h =
        let l : i < 38 = omega (arith, fit.sizes.most, fit.sizes.degree, fit.known) in
        ap (λ (k : ℕ). get_or row k nan) (behind i (length (padded 32 c)) (padded-length 32 c))
        ∙ get_or-append-add (padded 32 c) (padded 38 t) i nan
        ∙ padded-at 38 t i nan l h
      where
        behind : (i n : ℕ) → n ≡ 32 → 34 + i ≡ suc (suc (n + i))
        behind i n e = omega arith

    pub stored-tells : tells row ≡ true
    stored-tells =
        (λ i. eq-eqb (length row) 72 row-length i && sizes_fit (stored-degree i) (stored-count i))
        ∙ (both (sizes_fit p (length c)) (eqb (length t) (length c + p + 1)) e).0

    pub stored_at : (x : Float) → value_in row x ≡ spline_at row p (length c) x
    unfolding value_in
    stored_at x =
        ap (λ (b : Bool). cond b (spline_at row (degree_in row) (count_in row) x) nought) stored-tells
        ∙ (λ i. spline_at row (stored-degree i) (stored-count i) x)

    pub stored-fine : (x : Float) → fine_in row x ≡ spline_fine row p (length c) x
    unfolding fine_in
    stored-fine x =
        ap (λ (b : Bool). cond b (spline_fine row (degree_in row) (count_in row) x) true) stored-tells
        ∙ (λ i. spline_fine row (stored-degree i) (stored-count i) x)
