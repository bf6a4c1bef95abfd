-- A double x of A steps, and h of B steps, a multiple of 2 ^ 27 that is at most 2 ^ 26 off: then x is h + l with l = x - h, which is not rounded, and the two are halves of
-- x for a product. Assumes nothing.
use mathlib.Core.Path.{◌≡◌, sym, ap, ◌∙◌, subst}
use mathlib.Core.Logic.{◌⊎◌}
use mathlib.Core.Bool.{Bool, true, false}
use Prim.Native.Nat.{ℕ, ◌+◌, ◌*◌, ◌^◌, ◌≤◌}
use native.Mathlib.Nat.{le_trans, le_of_eq, mul_comm}
use native.Mathlib.Omega.{arith}
use lib.Dec.{T, lit≤}
use lib.Ieee.{Float, binary64, fits, sub}
use lib.Ieee.Fits.{sub-fits}
use lib.Ieee.Scale.{finite}
use Rattle.exact.specs.Value.{Units, value_of}
use Rattle.exact.specs.Signed.{Signed, Same, signed, times, plus_s, less_s, mag}
use Rattle.exact.proofs.Few.{Few, value-finite}
use Rattle.exact.proofs.Sizes.{mag_same, mag-signed, mag-by}
use Rattle.exact.proofs.Nearest.{few-most}
use Rattle.exact.proofs.Rounds.{rounds-to}
use Rattle.exact.proofs.Valued.{value-is, sub-value}
use Rattle.roundoff.proofs.Multiples.{multiple-of}
use Rattle.roundoff.proofs.Product.{Halved}

-- x is ±A 2 ^ i units, and h is ±B 2 ^ i
pub record InSteps (x h : Float) (i : ℕ) (s : Bool) (A B : ℕ) : Type 0 where
  pub x_fits : T (fits binary64 x)
  pub h_fits : T (fits binary64 h)
  pub x-units : Units x s (A * 2 ^ i)
  pub h-units : Units h s (B * 2 ^ i)
  pub upper : (w : ℕ) × (B ≡ w * 2 ^ 27)
  pub x-most : A ≤ 2 ^ 53
  pub h-most : B ≤ 2 ^ 53
  pub over : A ≤ B + 2 ^ 26
  pub under : B ≤ A + 2 ^ 26
  pub large : (A ≡ 0) ⊎ (2 ^ 52 ≤ A)

abbrev rest : Bool → ℕ → ℕ → Signed
rest s A B = less_s (signed s A) (signed s B)

rest-most : (s : Bool) (A B : ℕ) → A ≤ B + 2 ^ 26 → B ≤ A + 2 ^ 26 → mag (rest s A B) ≤ 2 ^ 26
rest-most true A B h k = omega arith
rest-most false A B h k = omega arith

whole : (s : Bool) (A B : ℕ) → Same (signed s A) (plus_s (signed s B) (rest s A B))
whole true A B = omega arith
whole false A B = omega arith

units-value : (x : Float) (s : Bool) (n i : ℕ) → Units x s (n * 2 ^ i) → Same (value_of x) (times (2 ^ i) (signed s n))
units-value x s n i v = subst (λ (z : Signed). Same z (times (2 ^ i) (signed s n))) (sym (value-is x s (n * 2 ^ i) v)) (by s n (2 ^ i))
  where
    by : (s : Bool) (n u : ℕ) → Same (signed s (n * u)) (times u (signed s n))
    by true n u = omega arith
    by false n u = omega arith

pub halved : (x h : Float) (i : ℕ) (s : Bool) (A B : ℕ) → InSteps x h i s A B → T (finite (sub binary64 x h)) → Halved x h (sub binary64 x h) i
halved x h i s A B c t =
    record {
      H = signed s B;
      L = rest s A B;
      x-is =
          record {
            fit = c.x_fits;
            here = value-finite x s (A * 2 ^ i) c.x-units;
            value = same (2 ^ i) (signed s A) (plus_s (signed s B) (rest s A B)) (value_of x) (units-value x s A i c.x-units) (whole s A B);
          };
      h-is = record { fit = c.h_fits; here = value-finite h s (B * 2 ^ i) c.h-units; value = units-value h s B i c.h-units };
      l-is =
          record {
            fit = sub-fits binary64 x h;
            here = t;
            value =
                rounds-to (less_s (value_of x) (value_of h)) (value_of (sub binary64 x h)) (times (2 ^ i) (rest s A B)) (sub-value x h c.x_fits c.h_fits t)
                (less (2 ^ i) (signed s A) (signed s B) (value_of x) (value_of h) (units-value x s A i c.x-units) (units-value h s B i c.h-units))
                (subst Few (sym (mag-by (2 ^ i) (rest s A B) ∙ mul_comm (2 ^ i) (mag (rest s A B)))) (few-most (mag (rest s A B)) i (le_trans (rest-most s A B c.over c.under) (lit≤ tt))));
          };
      halves =
          record {
            upper = multiple-of (signed s B) 27 c.upper.0 (mag-signed s B ∙ c.upper.1);
            upper-most = le_trans (le_of_eq (mag-signed s B)) c.h-most;
            lower-most = rest-most s A B c.over c.under;
            whole-most = le_trans (le_of_eq size) c.x-most;
            large = subst (λ (z : ℕ). (z ≡ 0) ⊎ (2 ^ 52 ≤ z)) (sym size) c.large;
          };
    }
  where
    size : mag (plus_s (signed s B) (rest s A B)) ≡ A
    size = sym (mag_same (signed s A) (plus_s (signed s B) (rest s A B)) (whole s A B)) ∙ mag-signed s A

    same : (u : ℕ) (a b v : Signed) → Same v (times u a) → Same a b → Same v (times u b)
    same u a b v h k = let l : u * (a.plus + b.less) ≡ u * (b.plus + a.less) = ap (λ (z : ℕ). u * z) k in omega arith

    less : (u : ℕ) (a b v w : Signed) → Same v (times u a) → Same w (times u b) → Same (less_s v w) (times u (less_s a b))
    less u a b v w h k = omega arith
