-- One part alone. Beside a finite neighbour the unit matrix gives the sample itself, but for the sign of a zero; beside any other, 0.0 times the neighbour
-- is NaN. An offset of 0.0 changes a -0 only, and one of -0.0 nothing. Assumes nothing.
use Rattle.quant.specs.Refusal.{Answer}
use Rattle.std.specs.Prelude.{Ok}
use mathlib.Core.Path.{◌≡◌, refl, sym, ap, ◌∙◌, subst}
use mathlib.Core.Bool.{Bool, true, false, ◌&&◌, cond}
use mathlib.Core.List.{List}
use Prim.Native.Nat.{ℕ, zero, suc, ◌≤◌, ◌<◌}
use native.Mathlib.Nat.{zero-lt-suc}
use borrow.Author.Tests.{le-leb, eq-eqb}
use lib.Dec.{T, lt→ltb}
use lib.ListN.{length, get_or}
use lib.Ieee.{Float, nan, inf, fin, binary64, add, mul, fits, of_bits}
use lib.Ieee.Scale.{finite}
use Rattle.exact.specs.Doubles.{nought, minus_nought, one, zero_of, beside_zero, plain_zero}
use Rattle.exact.specs.Value.{sign_of}
use Rattle.exact.proofs.Truth.{and-false, like-plus}
use Rattle.exact.proofs.Unit.{one-times}
use Rattle.exact.proofs.Zeros.{add_comm, beside-zero, plus-zero, plus-minus, beside-fits, beside-plain, beside-minus, beside-either, nought-times, nought-times_wild}
use Rattle.fma.specs.Fused.{fma}
use Rattle.fma.proofs.Fusing.{at_zero, first-zero, second-zero, third-zero, second_wild, third_wild, fma-fits}
use Rattle.rows.specs.Rows.{all_finite, answer_of}
use Rattle.mixer.specs.Mixer.{mixed, corrected, mixer_fits, Mixer}
use Rattle.mixer.specs.Lone.{unit_matrix, no_offsets, unit_sample}
use Rattle.mixer.proofs.Samples.{corrected-at}
use Rattle.mixer.proofs.Calls.{done_corrects}

-- ---- the unit matrix

one-and-zero : (s : Bool) (x : Float) → T (fits binary64 x) → fma binary64 one x (zero_of s) ≡ beside_zero s x
unfolding fma add mul of_bits
one-and-zero s nan f = refl
one-and-zero s (inf t) f = ap inf (like-plus t)
one-and-zero s (fin t zero d) f =
    let x = fin t zero d in
    sym (second-zero one x (zero_of s) tt tt tt (at_zero t d)) ∙ ap (λ (y : Float). add binary64 y (zero_of s)) (one-times x f) ∙ add_comm x (zero_of s) ∙ beside-zero s x f
one-and-zero s (fin t (suc n) d) f =
    let x = fin t (suc n) d in
    sym (third-zero one x (zero_of s) tt (lt→ltb 0 (suc n) (zero-lt-suc n)) tt (at_zero s _)) ∙ one-times x f

zero-and-one : (x y : Float) → T (finite x) → T (fits binary64 y) → fma binary64 nought x y ≡ beside_zero (sign_of x) y
unfolding of_bits
zero-and-one x nan h f = sym (third_wild nought x nan tt h refl)
zero-and-one x (inf t) h f = sym (third_wild nought x (inf t) tt h refl)
zero-and-one x (fin t n d) h f =
    let y = fin t n d in
    sym (first-zero nought x y tt h tt (at_zero false _)) ∙ ap (λ (z : Float). add binary64 z y) (nought-times x h) ∙ beside-zero (sign_of x) y f

plus-nan : (x : Float) → add binary64 x nan ≡ nan
unfolding add
plus-nan x = add_comm x nan

one-and-nan : (x : Float) → fma binary64 one x nan ≡ nan
unfolding of_bits
one-and-nan nan = sym (second_wild one nan nan tt refl) ∙ plus-nan (mul binary64 one nan)
one-and-nan (inf t) = sym (second_wild one (inf t) nan tt refl) ∙ plus-nan (mul binary64 one (inf t))
one-and-nan (fin t n d) = sym (third_wild one (fin t n d) nan tt tt refl)

module _ (x y : Float) where
  unit-first : T (fits binary64 x) → T (finite y) → mixed one nought x y ≡ beside_zero (sign_of y) x
  unit-first f h = ap (fma binary64 one x) (nought-times y h) ∙ one-and-zero (sign_of y) x f

  unit-second : T (finite x) → T (fits binary64 y) → mixed nought one x y ≡ beside_zero (sign_of x) y
  unit-second h f = ap (fma binary64 nought x) (one-times y f) ∙ zero-and-one x y h f

  wild_first : finite y ≡ false → mixed one nought x y ≡ nan
  wild_first h = ap (fma binary64 one x) (nought-times_wild y h) ∙ one-and-nan x

  wild_second : finite x ≡ false → mixed nought one x y ≡ nan
  unfolding add of_bits
  wild_second h = sym (second_wild nought x (mul binary64 one y) tt (sym h)) ∙ ap (λ (z : Float). add binary64 z (mul binary64 one y)) (nought-times_wild x h)

-- ---- the unit matrix and no offsets

plain : (s : Bool) (x v : Float) → T (fits binary64 x) → v ≡ beside_zero s x → add binary64 v nought ≡ plain_zero x
plain s x v f e = ap (λ (z : Float). add binary64 z nought) e ∙ plus-zero (beside_zero s x) (beside-fits s x f) ∙ beside-plain s x

lost : (v o : Float) → v ≡ nan → add binary64 v o ≡ nan
unfolding add
lost v o e = ap (λ (z : Float). add binary64 z o) e

module _ (x y : Float) where
  pub first-sample : T (fits binary64 x) → corrected one nought nought x y ≡ unit_sample x y
  first-sample f = by (finite y) refl
    where
      by : (b : Bool) → finite y ≡ b → corrected one nought nought x y ≡ cond b (plain_zero x) nan
      by true e = plain (sign_of y) x (mixed one nought x y) f (unit-first x y f (subst T (sym e) tt))
      by false e = lost (mixed one nought x y) nought (wild_first x y e)

  pub second-sample : T (fits binary64 y) → corrected nought one nought x y ≡ unit_sample y x
  second-sample f = by (finite x) refl
    where
      by : (b : Bool) → finite x ≡ b → corrected nought one nought x y ≡ cond b (plain_zero y) nan
      by true e = plain (sign_of x) y (mixed nought one x y) f (unit-second x y (subst T (sym e) tt) f)
      by false e = lost (mixed nought one x y) nought (wild_second x y e)

  -- beside a finite neighbour every sample but -0 stays, bit for bit: every finite one, infinities and NaN
  pub sample-stays : T (fits binary64 x) → finite y ≡ true → (x ≡ minus_nought → ⊥) → unit_sample x y ≡ x
  sample-stays f h other = ap (λ (b : Bool). cond b (plain_zero x) nan) h ∙ beside-either false true x f other ∙ beside-minus x f

  pub infinite-beside : finite y ≡ false → unit_sample x y ≡ nan
  infinite-beside h = ap (λ (b : Bool). cond b (plain_zero x) nan) h

pub minus-zero-lost : (y : Float) → finite y ≡ true → unit_sample minus_nought y ≡ nought
unfolding of_bits
minus-zero-lost y h = ap (λ (b : Bool). cond b (plain_zero minus_nought) nan) h

-- of any two rows: the call is accepted, and sample k of either goes by sample k of the other
pub record UnitLeft (i q : List Float) (r : Answer) (i' q' : List Float) : Type 0 where
  pub answer : r ≡ Ok 0
  pub first : (k : ℕ) → k < length i → T (fits binary64 (get_or i k nan)) → get_or i' k nan ≡ unit_sample (get_or i k nan) (get_or q k nan)
  pub second : (k : ℕ) → k < length q → T (fits binary64 (get_or q k nan)) → get_or q' k nan ≡ unit_sample (get_or q k nan) (get_or i k nan)

pub unit_left : (i q : List Float) (r : Answer) (i' q' : List Float) → length i ≡ length q → length i ≤ 65536 → Mixer 2 i q unit_matrix no_offsets r i' q' → UnitLeft i q r i' q'
unfolding all_finite mixer_fits of_bits
unit_left i q r i' q' e l h =
    let fit : mixer_fits 2 (length i) (length q) 4 2 ≡ true = rw (le-leb _ _ l, eq-eqb _ _ e) in
    let done : r ≡ Ok 0 = h.answer ∙ ap (λ (b : Bool). answer_of b true) fit in
    let left = done_corrects 2 i q unit_matrix no_offsets i' q' 0 (subst (λ (a : Answer). Mixer 2 i q unit_matrix no_offsets a i' q') done h) in
    record {
      answer = done;
      first = λ k b f. ap (λ (l : List Float). get_or l k nan) left.0 ∙ corrected-at one nought nought i q k e b ∙ first-sample (get_or i k nan) (get_or q k nan) f;
      second = λ k b f. ap (λ (l : List Float). get_or l k nan) left.1 ∙ corrected-at nought one nought i q k e (subst (λ (n : ℕ). k < n) (sym e) b) ∙ second-sample (get_or i k nan) (get_or q k nan) f;
    }

-- ---- beside the lone steps, of any numbers

module _ (m n x y : Float) where
  -- the matrix: an offset of -0.0 leaves what it gave, one of 0.0 makes its -0 a +0
  pub matrix-alone : corrected m n minus_nought x y ≡ mixed m n x y
  matrix-alone = plus-minus (mixed m n x y) (fma-fits m x (mul binary64 n y))

  pub matrix-alone-plain : corrected m n nought x y ≡ plain_zero (mixed m n x y)
  matrix-alone-plain = plus-zero (mixed m n x y) (fma-fits m x (mul binary64 n y))

-- the offset: the unit matrix leaves what it gave, beside a finite neighbour, unless sample and offset are both -0; beside any other it is NaN
either-zero : (s : Bool) (x o : Float) → T (fits binary64 x) → T (fits binary64 o) → (x ≡ minus_nought → o ≡ minus_nought → ⊥) → add binary64 (beside_zero s x) o ≡ add binary64 x o
unfolding of_bits
either-zero s nan o f g h = refl
either-zero s (inf t) o f g h = refl
either-zero s (fin t (suc n) d) o f g h = refl
either-zero s (fin false zero d) o f g h = ap (λ (z : Float). add binary64 z o) (ap zero_of (and-false s) ∙ beside-minus (fin false zero d) f)
either-zero s (fin true zero d) o f g h =
    beside-zero (s && true) o g ∙ beside-either (s && true) true o g (h (sym (beside-minus (fin true zero d) f))) ∙ sym (beside-zero true o g) ∙ ap (λ (z : Float). add binary64 z o) (beside-minus (fin true zero d) f)

module _ (o x y : Float) where
  pub offset-alone : T (fits binary64 x) → T (fits binary64 o) → T (finite y) → (x ≡ minus_nought → o ≡ minus_nought → ⊥) → corrected one nought o x y ≡ add binary64 x o
  offset-alone f g h other = ap (λ (z : Float). add binary64 z o) (unit-first x y f h) ∙ either-zero (sign_of y) x o f g other

  pub offset-alone-second : T (finite x) → T (fits binary64 y) → T (fits binary64 o) → (y ≡ minus_nought → o ≡ minus_nought → ⊥) → corrected nought one o x y ≡ add binary64 y o
  offset-alone-second h f g other = ap (λ (z : Float). add binary64 z o) (unit-second x y h f) ∙ either-zero (sign_of x) y o f g other

  pub offset-lost : finite y ≡ false → corrected one nought o x y ≡ nan
  offset-lost h = lost (mixed one nought x y) o (wild_first x y h)

  pub offset-lost-second : finite x ≡ false → corrected nought one o x y ≡ nan
  offset-lost-second h = lost (mixed nought one x y) o (wild_second x y h)
