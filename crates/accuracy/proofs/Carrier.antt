-- THE ERROR OF THE CARRIER. Each computed carrier, k up to 65,535, is finite and lies within (k + 1) 2 ^ -49 m of the exact one, in each part: k + 1
-- products have been taken, and each adds an error below 2 ^ -50 m. The induction carries the square of the error. Assumes nothing.
use mathlib.Core.Path.{◌≡◌, refl, sym, ap, ◌∙◌, subst}
use Prim.Native.Nat.{ℕ, zero, suc, ◌+◌, ◌-◌, ◌*◌, ◌^◌, ◌≤◌}
use native.Mathlib.Nat.{le_refl, le_trans, le_of_eq, le-suc, le-add_left, le-add_right, add-le-add, add-mul, mul-add, mul-one, one-mul, mul_comm, mul-mul-mul_comm, mul-le-mul, mul-le-mul_left, mul-le-mul_right, le_of_mul-le-mul_left, pow-suc, pow-zero}
use native.Mathlib.Omega.{arith}
use lib.Dec.{lit≤, lit<}
use Rattle.exact.specs.Value.{units_of, value_of}
use Rattle.exact.specs.Signed.{Signed, Apart, times, plus_s, less_s, mag}
use Rattle.exact.proofs.Sizes.{mag-add}
use Rattle.quant.specs.declared.complex.Complex.{Complex}
use Rattle.quant.specs.Complex.{times_c}
use Rattle.exact.proofs.Few.{value-finite}
use Rattle.mix.specs.Plateau.{carrier_after}
use Rattle.accuracy.specs.Exact.{Gauss, Tame, CarrierNear, times_g, exactly, carrier_exactly, absolute, squares}
use Rattle.accuracy.proofs.Sizes.{sq, sq-same, sq-by}
use Rattle.accuracy.proofs.Young.{young}
use Rattle.accuracy.proofs.Error.{sq_g, error, norm-times, one_more}
use Rattle.accuracy.proofs.Product.{Whole, product, lost, held_whole, squares-are, root}
use Rattle.accuracy.proofs.Gauss.{exact-first, exact-next}
use Rattle.accuracy.proofs.Bounds.{D, ρ, β, L, step-bound, first-bound, step-there, size-bound, last-bound}

-- ---- a number's square, from another's and from that of the error between them
one-part : (a : ℕ) (x w : Signed) → 64 * (a * a * sq x) ≤ 65 * sq w + 64 * 65 * sq (less_s (times a x) w)
one-part a x w =
    let e = less_s (times a x) w in
    le_trans (le_of_eq (ap (λ (z : ℕ). 64 * z) (sym (sq-by a x) ∙ sq-same (times a x) (plus_s w e) (same (a * x.plus) (a * x.less) w.plus w.less))))
    (le_trans (mul-le-mul_left 64 (mul-le-mul (mag-add w e) (mag-add w e))) (young 64 (mag w) (mag e)))
  where
    same : (p n w v : ℕ) → p + (v + (n + w)) ≡ w + (p + v) + n
    same p n w v = omega arith

both-parts : (a : ℕ) (x w : Gauss) → 64 * (a * a * sq_g x) ≤ 65 * sq_g w + 64 * 65 * sq_g (error a x w)
both-parts a x w = by (a * a) (sq x.re) (sq x.im) (sq w.re) (sq w.im) (sq (error a x w).re) (sq (error a x w).im) (one-part a x.re w.re) (one-part a x.im w.im)
  where
    by : (a x y w v e f : ℕ) → 64 * (a * x) ≤ 65 * w + 64 * 65 * e → 64 * (a * y) ≤ 65 * v + 64 * 65 * f → 64 * (a * (x + y)) ≤ 65 * (w + v) + 64 * 65 * (e + f)
    by a x y w v e f h k = omega arith

-- ---- the squares of the sizes: m² for the amplitude
amp-squares : (z : Complex) → squares z ≤ absolute z * absolute z
amp-squares z = by (units_of z.re) (units_of z.im)
  where
    by : (a b : ℕ) → a * a + b * b ≤ (a + b) * (a + b)
    by a b = le_trans (add-le-add (mul-le-mul_left a (le-add_right a b)) (mul-le-mul_left b (le-add_left b a))) (le_of_eq (sym (add-mul a b (a + b))))

module _ (amp start rotation : Complex) (t : Tame amp start rotation) where
  -- the amplitude's size, its square, the computed carrier, and the exact one
  abbrev m : ℕ
  m = absolute amp

  abbrev M : ℕ
  M = absolute amp * absolute amp

  abbrev carrier : ℕ → Complex
  carrier k = carrier_after k (times_c start amp) rotation

  abbrev exact : ℕ → Gauss
  exact k = carrier_exactly amp start rotation k

  lowest-square : 2 ^ 1748 ≤ M
  lowest-square = le_trans (lit≤ tt) (mul-le-mul t.lowest t.lowest)

  highest-square : M ≤ 2 ^ 2548
  highest-square = le_trans (mul-le-mul t.highest t.highest) (lit≤ tt)

  start-most : squares start ≤ ρ
  start-most = le_trans t.start-turns (lit≤ tt)

  rotation-most : squares rotation ≤ ρ
  rotation-most = le_trans t.rotation-turns (lit≤ tt)

  -- what the induction carries
  record Good (k : ℕ) : Type 0 where
    whole : Whole (carrier k)
    near : sq_g (error (D ^ suc k) (exactly (carrier k)) (exact k)) ≤ suc k * suc k * (β * M * ρ ^ k)

  exact-square : (k : ℕ) → sq_g (exact k) ≤ ρ * M * ρ ^ k
  exact-square zero =
      le_trans (le_of_eq (ap sq_g (exact-first amp start rotation) ∙ norm-times (exactly start) (exactly amp)))
      (le_trans (mul-le-mul (le_trans (le_of_eq (squares-are start)) start-most) (le_trans (le_of_eq (squares-are amp)) (amp-squares amp)))
      (le_of_eq (sym (ap (λ (z : ℕ). ρ * M * z) (pow-zero ρ) ∙ mul-one (ρ * M)))))
  exact-square (suc k) =
      le_trans (le_of_eq (ap sq_g (exact-next amp start rotation k) ∙ norm-times (exact k) (exactly rotation)))
      (le_trans (mul-le-mul (exact-square k) (le_trans (le_of_eq (squares-are rotation)) rotation-most))
      (le_of_eq (native.Mathlib.Nat.mul_assoc (ρ * M) (ρ ^ k) ρ ∙ ap (λ (z : ℕ). ρ * M * z) (sym (pow-suc ρ k)))))

  carrier-square : (k : ℕ) → suc k ≤ 65536 → Good k → D * D * squares (carrier k) ≤ L * M
  carrier-square k K g =
      subst (λ (z : ℕ). D * D * z ≤ L * M) (squares-are (carrier k))
      (size-bound (sq_g (exactly (carrier k))) (sq_g (exact k)) (sq_g (error (D ^ suc k) (exactly (carrier k)) (exact k))) M k K
      (both-parts (D ^ suc k) (exactly (carrier k)) (exact k)) (exact-square k) g.near)

  -- ---- the first product, and each next one
  first : Good 0
  unfolding carrier_after
  first =
      let p = product start amp (held_whole start t.start-held) (held_whole amp t.amp-held) (le_trans start-most (lit≤ tt)) (le_trans (amp-squares amp) (le_trans highest-square (lit≤ tt))) in
      let S = sq_g (error D (exactly (times_c start amp)) (times_g (exactly start) (exactly amp))) in
      let h : S ≤ β * M =
      first-bound S (squares start) M (le_trans p.near (add-le-add (mul-le-mul_left 36 (mul-le-mul_left (squares start) (amp-squares amp))) (le_refl lost))) start-most lowest-square in
      record {
        whole = p.whole;
        near =
            le_trans (le_of_eq ((λ i. sq_g (error (first-power i) (exactly (times_c start amp)) (exact-first amp start rotation i))))) (le_trans h (le_of_eq (sym (ap (λ (z : ℕ). 1 * 1 * (β * M * z)) (pow-zero ρ) ∙ plain (β * M)))));
      }
    where
      first-power : D ^ 1 ≡ D
      first-power = pow-suc D 0 ∙ ap (λ (z : ℕ). z * D) (pow-zero D) ∙ one-mul D

      plain : (b : ℕ) → 1 * 1 * (b * 1) ≡ b
      plain b = omega arith

  carrier-next : (k : ℕ) → carrier (suc k) ≡ times_c (carrier k) rotation
  unfolding carrier_after
  carrier-next k = refl

  -- a carrier's square in units: 2 ^ 1275 squared and less, for an amplitude of up to 2 ^ 200
  carrier-most : (k : ℕ) → D * D * squares (carrier k) ≤ L * M → squares (carrier k) ≤ 2 ^ 1275 * 2 ^ 1275
  carrier-most k h =
      le_of_mul-le-mul_left {m = squares (carrier k)} {n = 2 ^ 1275 * 2 ^ 1275} {k = D * D} (le_trans h (le_trans (mul-le-mul_left L highest-square) (lit≤ tt))) (lit< tt)

  next : (k : ℕ) → suc k ≤ 65536 → Good k → Good (suc k)
  next k K g =
      let z = carrier k in
      let size = carrier-square k K g in
      let p = product z rotation g.whole (held_whole rotation t.rotation-held) (carrier-most k size) (le_trans rotation-most (lit≤ tt)) in
      let a = D ^ suc k in
      let S = sq_g (error D (exactly (times_c z rotation)) (times_g (exactly z) (exactly rotation))) in
      let new : a * a * S ≤ β * M * ρ ^ suc k = step-there k S M (step-bound S (squares z) (squares rotation) M p.near size rotation-most lowest-square) in
      let old : sq_g (error a (exactly z) (exact k)) * sq_g (exactly rotation) ≤ suc k * suc k * (β * M * ρ ^ suc k) =
      le_trans (mul-le-mul g.near (le_trans (le_of_eq (squares-are rotation)) rotation-most))
      (le_of_eq (grouped (suc k * suc k) (β * M) (ρ ^ k) ρ ∙ ap (λ (x : ℕ). suc k * suc k * (β * M * x)) (sym (pow-suc ρ k)))) in
      record {
        whole = subst Whole (sym (carrier-next k)) p.whole;
        near =
            le_trans (le_of_eq (λ i. sq_g (error (pow-suc D (suc k) i) (exactly (carrier-next k i)) (exact-next amp start rotation k i))))
            (one_more a D (exactly z) (exactly (times_c z rotation)) (exact k) (exactly rotation) k (β * M * ρ ^ suc k) old new);
      }
    where
      grouped : (j b q r : ℕ) → j * (b * q) * r ≡ j * (b * (q * r))
      grouped j b q r = omega arith

  good : (k : ℕ) → k ≤ 65535 → Good k
  good zero h = first
  good (suc k) h = next k (le_trans h (lit≤ tt)) (good k (le_trans (le-suc k) h))

  -- ---- from the square of the error to each part of it
  part-near : (k e : ℕ) → k ≤ 65535 → e * e ≤ suc k * suc k * (β * M * ρ ^ k) → e * 2 ^ 49 ≤ suc k * m * D ^ suc k
  part-near k e K h =
      root (e * 2 ^ 49) (suc k * m * D ^ suc k)
      (le_trans (le_of_eq (mul-mul-mul_comm e (2 ^ 49) e (2 ^ 49)))
      (le_trans (mul-le-mul_right (2 ^ 49 * 2 ^ 49) h)
      (le_trans (le_of_eq (opened (suc k) m β (ρ ^ k) (2 ^ 98)))
      (le_trans (mul-le-mul_left (suc k * suc k * (m * m)) (last-bound k (le_trans K (lit≤ tt)))) (le_of_eq (closed (suc k) m (D ^ suc k)))))))
    where
      opened : (j m b q c : ℕ) → j * j * (b * (m * m) * q) * c ≡ j * j * (m * m) * (b * q * c)
      opened j m b q c = omega arith

      closed : (j m a : ℕ) → j * j * (m * m) * (a * a) ≡ j * m * a * (j * m * a)
      closed j m a = omega arith

-- a distance, as `Apart` has it
as_apart : (a p e : ℕ) (x w : Signed) → mag (less_s (times a x) w) * p ≤ e → Apart (times (p * a) x) (times p w) e
as_apart a p e x w h =
    record {
      over = by (a * x.plus + w.less) (a * x.less + w.plus) (p * a * x.plus + p * w.less) (p * w.plus + p * a * x.less) (spread p a x.plus w.less) (swapped p a x.less w.plus) h;
      under = by (a * x.less + w.plus) (a * x.plus + w.less) (p * w.plus + p * a * x.less) (p * a * x.plus + p * w.less) (swapped p a x.less w.plus) (spread p a x.plus w.less)
          (le_trans (le_of_eq (ap (λ (z : ℕ). z * p) (native.Mathlib.Nat.add_comm (a * x.less + w.plus - (a * x.plus + w.less)) (a * x.plus + w.less - (a * x.less + w.plus))))) h);
    }
  where
    spread : (p a x w : ℕ) → p * (a * x + w) ≡ p * a * x + p * w
    spread p a x w = omega arith

    swapped : (p a x w : ℕ) → p * (a * x + w) ≡ p * w + p * a * x
    swapped p a x w = omega arith

    most : (x y : ℕ) → x ≤ y + (x - y + (y - x))
    most x y = omega arith

    by : (x y l r : ℕ) → p * x ≡ l → p * y ≡ r → (x - y + (y - x)) * p ≤ e → l ≤ r + e
    by x y l r f g h =
        le_trans (le_of_eq (sym f))
        (le_trans (mul-le-mul_left p (most x y))
        (le_trans (le_of_eq (mul-add p y (x - y + (y - x)) ∙ ap (λ (z : ℕ). p * y + z) (mul_comm p (x - y + (y - x)))))
        (le_trans (add-le-add (le_of_eq g) h) (le_refl (r + e)))))

pub carrier-near : (amp start rotation : Complex) → Tame amp start rotation → (k : ℕ) → k ≤ 65535 → CarrierNear amp start rotation k
carrier-near amp start rotation t k K =
    let g = good amp start rotation t k K in
    let z = carrier_after k (times_c start amp) rotation in
    let w = carrier_exactly amp start rotation k in
    let a = D ^ suc k in
    let e = error a (exactly z) w in
    record {
      re =
          record {
            is_finite = value-finite z.re _ _ g.whole.re;
            apart = as_apart a (2 ^ 49) (suc k * absolute amp * a) (value_of z.re) w.re (part-near amp start rotation t k (mag e.re) K (le_trans (le-add_right (sq e.re) (sq e.im)) g.near));
          };
      im =
          record {
            is_finite = value-finite z.im _ _ g.whole.im;
            apart = as_apart a (2 ^ 49) (suc k * absolute amp * a) (value_of z.im) w.im (part-near amp start rotation t k (mag e.im) K (le_trans (le-add_left (sq e.im) (sq e.re)) g.near));
          };
    }
