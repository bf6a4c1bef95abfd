-- The error of a product by splitting: a = h + l and x = g + m, upper and lower digits. The four products of the parts are doubles, and the rounded product less
-- one after the other is too: what is left is small enough for its last digit. So the last of them is the rounded product less the exact one. Assumes nothing.
use mathlib.Core.Path.{◌≡◌, sym, ap, ◌∙◌, subst}
use mathlib.Core.Logic.{◌⊎◌, inl, inr}
use Prim.Native.Nat.{ℕ, ◌+◌, ◌-◌, ◌*◌, ◌^◌, ◌≤◌}
use native.Mathlib.Nat.{le_trans, le_of_eq, mul_assoc, mul_comm, mul-le-mul, mul-le-mul_right, zero-mul, mul-zero}
use native.Mathlib.Omega.{arith}
use lib.Dec.{T, lit<, lit≤}
use lib.Pow.{pow-add}
use lib.Ieee.{Float, binary64, sub, mul}
use lib.Ieee.Fits.{sub-fits, mul-fits}
use lib.Ieee.Scale.{finite}
use Rattle.exact.specs.Value.{value_of}
use Rattle.exact.specs.Signed.{Signed, Same, times, plus_s, less_s, times_s, mag}
use Rattle.exact.specs.Rounds.{Rounds}
use Rattle.exact.proofs.Signed.{apart-cancel, apart_more}
use Rattle.exact.proofs.Few.{Few}
use Rattle.exact.proofs.Sizes.{mag_same, mag-by, mag-add, mag-product, apart-mag, same-less}
use Rattle.exact.proofs.Nearest.{few-none}
use Rattle.exact.proofs.Rounds.{rounds-exact, rounds-to, rounds-error}
use Rattle.exact.proofs.Valued.{OnStep, sub-finite, sub-value, mul-value}
use Rattle.roundoff.specs.Roundoff.{product_off}
use Rattle.roundoff.proofs.Multiples.{Multiple, multiple-of, multiple-less, multiple-product, multiple-times, multiple-lower, multiple-none, double-multiple, rounds-large}

-- ---- a number of 53 digits in two parts: the upper one has 26 digits, the lower one at most 26, with a sign
pub record Halves (H L : Signed) : Type 0 where
  pub upper : Multiple H 27
  pub upper-most : mag H ≤ 2 ^ 53
  pub lower-most : mag L ≤ 2 ^ 26
  pub whole-most : mag (plus_s H L) ≤ 2 ^ 53
  pub large : (mag (plus_s H L) ≡ 0) ⊎ (2 ^ 52 ≤ mag (plus_s H L))

-- the double x is h + l, and these are such halves of it, in steps of 2 ^ i units
pub record Halved (x h l : Float) (i : ℕ) : Type 0 where
  pub H : Signed
  pub L : Signed
  pub x-is : OnStep x i (plus_s H L)
  pub h-is : OnStep h i H
  pub l-is : OnStep l i L
  pub halves : Halves H L

-- ---- the product of two sums, times u
expand : (H L X Y : Signed) → Same (times_s (plus_s H L) (plus_s X Y)) (plus_s (plus_s (times_s H X) (times_s H Y)) (plus_s (times_s L X) (times_s L Y)))
expand H L X Y = by H.plus H.less L.plus L.less X.plus X.less Y.plus Y.less
  where
    by : (a b c d e f g h : ℕ)
        → (a + c) * (e + g) + (b + d) * (f + h) + (a * f + b * e + (a * h + b * g) + (c * f + d * e + (c * h + d * g)))
        ≡ a * e + b * f + (a * g + b * h) + (c * e + d * f + (c * g + d * h)) + ((a + c) * (f + h) + (b + d) * (e + g))
    by a b c d e f g h = omega arith

expand-times : (u : ℕ) (H L X Y : Signed)
    → Same (times u (times_s (plus_s H L) (plus_s X Y))) (plus_s (plus_s (times u (times_s H X)) (times u (times_s H Y))) (plus_s (times u (times_s L X)) (times u (times_s L Y))))
expand-times u H L X Y = by (times_s (plus_s H L) (plus_s X Y)) (times_s H X) (times_s H Y) (times_s L X) (times_s L Y) (expand H L X Y)
  where
    by : (p a b c d : Signed) → Same p (plus_s (plus_s a b) (plus_s c d)) → Same (times u p) (plus_s (plus_s (times u a) (times u b)) (plus_s (times u c) (times u d)))
    by p a b c d h =
        let k : u * (p.plus + (a.less + b.less + (c.less + d.less))) ≡ u * (a.plus + b.plus + (c.plus + d.plus) + p.less) = ap (λ (z : ℕ). u * z) h in
        omega arith

-- ---- sizes
sized : (k m n : ℕ) (x y : Signed) → mag x ≤ m → mag y ≤ n → mag (times (2 ^ k) (times_s x y)) ≤ m * n * 2 ^ k
sized k m n x y h l =
    le_trans (le_of_eq (mag-by (2 ^ k) (times_s x y) ∙ ap (λ (z : ℕ). 2 ^ k * z) (mag-product x y) ∙ mul_comm (2 ^ k) (mag x * mag y)))
    (mul-le-mul_right (2 ^ k) (mul-le-mul h l))

-- c 2 ^ k as 2 ^ 53 times a higher power
widen : (k m c : ℕ) → c ≤ 2 ^ 53 * 2 ^ m → c * 2 ^ k ≤ 2 ^ 53 * 2 ^ (k + m)
widen k m c h = le_trans (mul-le-mul_right (2 ^ k) h) (le_of_eq (mul_assoc (2 ^ 53) (2 ^ m) (2 ^ k) ∙ ap (λ (z : ℕ). 2 ^ 53 * z) (mul_comm (2 ^ m) (2 ^ k) ∙ sym (pow-add 2 k m))))

-- ---- what is left of p when the parts' products are taken off, one after the other
left-three : (p P w x y z : Signed) → Same P (plus_s (plus_s w x) (plus_s y z)) → Same (less_s p w) (plus_s (plus_s (less_s p P) x) (plus_s y z))
left-three p P w x y z h = omega arith

left-two : (p P w x y z : Signed) → Same P (plus_s (plus_s w x) (plus_s y z)) → Same (less_s (less_s p w) x) (plus_s (plus_s (less_s p P) y) z)
left-two p P w x y z h = omega arith

left_one : (p P w x y z : Signed) → Same P (plus_s (plus_s w x) (plus_s y z)) → Same (less_s (less_s (less_s p w) x) y) (plus_s (less_s p P) z)
left_one p P w x y z h = omega arith

left-none : (p P w x y z b r : Signed) → Same P (plus_s (plus_s w x) (plus_s y z)) → Same b (less_s (less_s (less_s p w) x) y) → Same r z → Same (less_s b r) (less_s p P)
left-none p P w x y z b r h i j = omega arith

sum-three : (u o w x y m n z : ℕ) → z ≤ m + n → m ≤ o + w → n ≤ x + y → o ≤ 2 ^ 53 * u → w ≤ 2 ^ 79 * u → x ≤ 2 ^ 79 * u → y ≤ 2 ^ 52 * u → z ≤ 2 ^ 81 * u
sum-three u o w x y m n z a b c d e f g = omega arith

sum-two : (u o x y m z : ℕ) → z ≤ m + y → m ≤ o + x → o ≤ 2 ^ 53 * u → x ≤ 2 ^ 79 * u → y ≤ 2 ^ 52 * u → z ≤ 2 ^ 80 * u
sum-two u o x y m z a b c d e = omega arith

sum_one : (u o y z : ℕ) → z ≤ o + y → o ≤ 2 ^ 53 * u → y ≤ 2 ^ 52 * u → z ≤ 2 ^ 54 * u
sum_one u o y z a b c = omega arith

-- ---- what is computed, of numbers: each product rounded, and each difference
pub record Products (k : ℕ) (H L X Y p e : Signed) : Type 0 where
  pub hx : Signed
  pub hy : Signed
  pub lx : Signed
  pub ly : Signed
  pub d : Signed
  pub c : Signed
  pub b : Signed
  pub whole : Rounds (times (2 ^ k) (times_s (plus_s H L) (plus_s X Y))) p
  pub hx-is : Rounds (times (2 ^ k) (times_s H X)) hx
  pub hy_is : Rounds (times (2 ^ k) (times_s H Y)) hy
  pub lx_is : Rounds (times (2 ^ k) (times_s L X)) lx
  pub ly_is : Rounds (times (2 ^ k) (times_s L Y)) ly
  pub first : Rounds (less_s p hx) d
  pub second : Rounds (less_s d hy) c
  pub third : Rounds (less_s c lx) b
  pub last : Rounds (less_s b ly) e

module _ (k : ℕ) (H L X Y p e : Signed) (a : Halves H L) (b : Halves X Y) (q : Products k H L X Y p e) where
  abbrev u : ℕ
  u = 2 ^ k

  abbrev P : Signed
  P = times u (times_s (plus_s H L) (plus_s X Y))

  abbrev hx : Signed
  hx = times u (times_s H X)

  abbrev hy : Signed
  hy = times u (times_s H Y)

  abbrev lx : Signed
  lx = times u (times_s L X)

  abbrev ly : Signed
  ly = times u (times_s L Y)

  -- the last digits
  hx-by : Multiple hx (k + 54)
  hx-by = multiple-times (times_s H X) k 54 (multiple-product H X 27 27 a.upper b.upper)

  hy_by : Multiple hy (k + 27)
  hy_by = multiple-times (times_s H Y) k 27 (multiple-product H Y 27 0 a.upper (multiple-none Y))

  lx_by : Multiple lx (k + 27)
  lx_by = multiple-times (times_s L X) k 27 (multiple-product L X 0 27 (multiple-none L) b.upper)

  ly_by : Multiple ly (k + 0)
  ly_by = multiple-times (times_s L Y) k 0 (multiple-none (times_s L Y))

  P-by : Multiple P (k + 0)
  P-by = multiple-times (times_s (plus_s H L) (plus_s X Y)) k 0 (multiple-none (times_s (plus_s H L) (plus_s X Y)))

  -- the rounded product has none below 2 ^ (k + 52): it is 0, or 2 ^ 104 at least
  p-by : Multiple p (k + 52)
  p-by = by a.large b.large
    where
      size : mag P ≡ mag (plus_s H L) * mag (plus_s X Y) * u
      size = mag-by u (times_s (plus_s H L) (plus_s X Y)) ∙ ap (λ (z : ℕ). u * z) (mag-product (plus_s H L) (plus_s X Y)) ∙ mul_comm u (mag (plus_s H L) * mag (plus_s X Y))

      none : mag P ≡ 0 → Multiple p (k + 52)
      none o = multiple-of p (k + 52) 0 (mag_same p P (rounds-exact P p q.whole (subst Few (sym o) few-none)) ∙ o ∙ sym (zero-mul (2 ^ (k + 52))))

      by : ((mag (plus_s H L) ≡ 0) ⊎ (2 ^ 52 ≤ mag (plus_s H L))) → ((mag (plus_s X Y) ≡ 0) ⊎ (2 ^ 52 ≤ mag (plus_s X Y))) → Multiple p (k + 52)
      by (inl z) _ = none (size ∙ ap (λ (n : ℕ). n * mag (plus_s X Y) * u) z ∙ ap (λ (n : ℕ). n * u) (zero-mul (mag (plus_s X Y))) ∙ zero-mul u)
      by (inr _) (inl z) = none (size ∙ ap (λ (n : ℕ). mag (plus_s H L) * n * u) z ∙ ap (λ (n : ℕ). n * u) (mul-zero (mag (plus_s H L))) ∙ zero-mul u)
      by (inr m) (inr n) =
          rounds-large P p (k + 52) q.whole
          (le_trans (le_of_eq (pow-add 2 52 (k + 52) ∙ ap (λ (z : ℕ). 2 ^ 52 * z) (pow-add 2 k 52 ∙ mul_comm u (2 ^ 52)) ∙ sym (mul_assoc (2 ^ 52) (2 ^ 52) u)))
          (le_trans (mul-le-mul_right u (mul-le-mul m n)) (le_of_eq (sym size))))

  -- the sizes
  off-most : mag (less_s p P) ≤ 2 ^ 53 * u
  off-most =
      apart-mag p P (2 ^ 53 * u)
      (apart-cancel (2 ^ 53) p P (2 ^ 53 * u) (lit< tt)
      (apart_more (times (2 ^ 53) p) (times (2 ^ 53) P) (mag P) (2 ^ 53 * (2 ^ 53 * u)) (le_trans (sized k (2 ^ 53) (2 ^ 53) (plus_s H L) (plus_s X Y) a.whole-most b.whole-most) (le_of_eq (mul_assoc (2 ^ 53) (2 ^ 53) u)))
      (rounds-error P p q.whole)))

  hy_most : mag hy ≤ 2 ^ 79 * u
  hy_most = sized k (2 ^ 53) (2 ^ 26) H Y a.upper-most b.lower-most

  lx_most : mag lx ≤ 2 ^ 79 * u
  lx_most = sized k (2 ^ 26) (2 ^ 53) L X a.lower-most b.upper-most

  ly_most : mag ly ≤ 2 ^ 52 * u
  ly_most = sized k (2 ^ 26) (2 ^ 26) L Y a.lower-most b.lower-most

  -- the products are exact
  hx-same : Same q.hx hx
  hx-same = rounds-exact hx q.hx q.hx-is (double-multiple hx (k + 54) hx-by (le_trans (sized k (2 ^ 53) (2 ^ 53) H X a.upper-most b.upper-most) (widen k 54 (2 ^ 53 * 2 ^ 53) (lit≤ tt))))

  hy_same : Same q.hy hy
  hy_same = rounds-exact hy q.hy q.hy_is (double-multiple hy (k + 27) hy_by (le_trans hy_most (widen k 27 (2 ^ 79) (lit≤ tt))))

  lx_same : Same q.lx lx
  lx_same = rounds-exact lx q.lx q.lx_is (double-multiple lx (k + 27) lx_by (le_trans lx_most (widen k 27 (2 ^ 79) (lit≤ tt))))

  ly_same : Same q.ly ly
  ly_same = rounds-exact ly q.ly q.ly_is (double-multiple ly (k + 0) ly_by (le_trans ly_most (widen k 0 (2 ^ 52) (lit≤ tt))))

  split : Same P (plus_s (plus_s hx hy) (plus_s lx ly))
  split = expand-times u H L X Y

  -- p less hx, less hy too, and less lx too
  abbrev D : Signed
  D = less_s p hx

  abbrev C : Signed
  C = less_s D hy

  abbrev B : Signed
  B = less_s C lx

  D-most : mag D ≤ 2 ^ 81 * u
  D-most =
      le_trans (le_of_eq (mag_same D (plus_s (plus_s (less_s p P) hy) (plus_s lx ly)) (left-three p P hx hy lx ly split)))
      (sum-three u (mag (less_s p P)) (mag hy) (mag lx) (mag ly) (mag (plus_s (less_s p P) hy)) (mag (plus_s lx ly)) (mag (plus_s (plus_s (less_s p P) hy) (plus_s lx ly)))
      (mag-add (plus_s (less_s p P) hy) (plus_s lx ly)) (mag-add (less_s p P) hy) (mag-add lx ly) off-most hy_most lx_most ly_most)

  C-most : mag C ≤ 2 ^ 80 * u
  C-most =
      le_trans (le_of_eq (mag_same C (plus_s (plus_s (less_s p P) lx) ly) (left-two p P hx hy lx ly split)))
      (sum-two u (mag (less_s p P)) (mag lx) (mag ly) (mag (plus_s (less_s p P) lx)) (mag (plus_s (plus_s (less_s p P) lx) ly)) (mag-add (plus_s (less_s p P) lx) ly) (mag-add (less_s p P) lx) off-most lx_most ly_most)

  B-most : mag B ≤ 2 ^ 54 * u
  B-most =
      le_trans (le_of_eq (mag_same B (plus_s (less_s p P) ly) (left_one p P hx hy lx ly split)))
      (sum_one u (mag (less_s p P)) (mag ly) (mag (plus_s (less_s p P) ly)) (mag-add (less_s p P) ly) off-most ly_most)

  -- the differences are exact too
  p-on : Multiple p (k + 27)
  p-on = multiple-lower p (k + 27) (k + 52) (omega arith) p-by

  C-by : Multiple C (k + 27)
  C-by = multiple-less D hy (k + 27) (multiple-less p hx (k + 27) p-on (multiple-lower hx (k + 27) (k + 54) (omega arith) hx-by)) hy_by

  D-same : Same q.d D
  D-same =
      rounds-to (less_s p q.hx) q.d D q.first (same-less p q.hx p hx (omega arith) hx-same)
      (double-multiple D (k + 52) (multiple-less p hx (k + 52) p-by (multiple-lower hx (k + 52) (k + 54) (omega arith) hx-by)) (le_trans D-most (widen k 52 (2 ^ 81) (lit≤ tt))))

  C-same : Same q.c C
  C-same = rounds-to (less_s q.d q.hy) q.c C q.second (same-less q.d q.hy D hy D-same hy_same) (double-multiple C (k + 27) C-by (le_trans C-most (widen k 27 (2 ^ 80) (lit≤ tt))))

  B-same : Same q.b B
  B-same =
      rounds-to (less_s q.c q.lx) q.b B q.third (same-less q.c q.lx C lx C-same lx_same)
      (double-multiple B (k + 27) (multiple-less C lx (k + 27) C-by lx_by) (le_trans B-most (widen k 27 (2 ^ 54) (lit≤ tt))))

  pub product-error : Same e (less_s p P)
  product-error =
      rounds-to (less_s q.b q.ly) e (less_s p P) q.last (left-none p P hx hy lx ly q.b q.ly split B-same ly_same)
      (double-multiple (less_s p P) (k + 0) (multiple-less p P (k + 0) (multiple-lower p (k + 0) (k + 52) (omega arith) p-by) P-by) (le_trans off-most (widen k 0 (2 ^ 53) (lit≤ tt))))

-- ---- THE PRODUCT'S ERROR, of doubles: where it is finite, and no digit of the exact product is below a unit
module _ (a h l x g m : Float) (i j : ℕ) (c : Halved a h l i) (d : Halved x g m j) (room : 1074 ≤ i + j) where
  abbrev shift : ℕ
  shift = i + j - 1074

  pub scale : i + j ≡ 1074 + shift
  scale = back (i + j) room
    where
      back : (n : ℕ) → 1074 ≤ n → n ≡ 1074 + (n - 1074)
      back n h = omega arith

  abbrev pub exact_product : Signed
  exact_product = times (2 ^ shift) (times_s (plus_s c.H c.L) (plus_s d.H d.L))

  pub product-off : T (finite (product_off a h l x g m)) → Same (value_of (product_off a h l x g m)) (less_s (value_of (mul binary64 a x)) exact_product)
  product-off t =
      let p = mul binary64 a x in
      let hg = mul binary64 h g in
      let hm = mul binary64 h m in
      let lg = mul binary64 l g in
      let lm = mul binary64 l m in
      let w = sub binary64 p hg in
      let y = sub binary64 w hm in
      let z = sub binary64 y lg in
      let e = sub binary64 z lm in
      let zt = sub-finite binary64 z lm t in
      let yt = sub-finite binary64 y lg zt.0 in
      let wt = sub-finite binary64 w hm yt.0 in
      let pt = sub-finite binary64 p hg wt.0 in
      product-error shift c.H c.L d.H d.L (value_of p) (value_of e) c.halves d.halves
      record {
        hx = value_of hg;
        hy = value_of hm;
        lx = value_of lg;
        ly = value_of lm;
        d = value_of w;
        c = value_of y;
        b = value_of z;
        whole = mul-value a x i j shift (plus_s c.H c.L) (plus_s d.H d.L) c.x-is d.x-is scale pt.0;
        hx-is = mul-value h g i j shift c.H d.H c.h-is d.h-is scale pt.1;
        hy_is = mul-value h m i j shift c.H d.L c.h-is d.l-is scale wt.1;
        lx_is = mul-value l g i j shift c.L d.H c.l-is d.h-is scale yt.1;
        ly_is = mul-value l m i j shift c.L d.L c.l-is d.l-is scale zt.1;
        first = sub-value p hg (mul-fits binary64 a x) (mul-fits binary64 h g) wt.0;
        second = sub-value w hm (sub-fits binary64 p hg) (mul-fits binary64 h m) yt.0;
        third = sub-value y lg (sub-fits binary64 w hm) (mul-fits binary64 l g) zt.0;
        last = sub-value z lm (sub-fits binary64 y lg) (mul-fits binary64 l m) t;
      }
