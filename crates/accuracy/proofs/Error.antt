-- The error of a computed complex product of many factors, after one more factor: the error before, times the factor, and the error of the step itself.
-- Assumes nothing.
use mathlib.Core.Path.{◌≡◌, sym, ◌∙◌}
use Prim.Native.Nat.{ℕ, suc, ◌+◌, ◌*◌, ◌≤◌}
use native.Mathlib.Nat.{le_trans, le_of_eq, mul-add, add-mul, mul_assoc, add_assoc, add_comm, add_left_comm}
use Rattle.exact.specs.Signed.{Same, times, plus_s, less_s}
use Rattle.accuracy.specs.Exact.{Gauss, times_g}
use Rattle.accuracy.proofs.Sizes.{sq, sq-same, sq-by}
use Rattle.accuracy.proofs.Squares.{norm-mul}
use Rattle.accuracy.proofs.Young.{grow}

-- the sum of the squares of the parts
abbrev pub sq_g : Gauss → ℕ
sq_g x = sq x.re + sq x.im

pub norm-times : (x y : Gauss) → sq_g (times_g x y) ≡ sq_g x * sq_g y
norm-times x y = norm-mul x.re x.im y.re y.im

-- how far x, times a, is from w
abbrev pub error : ℕ → Gauss → Gauss → Gauss
error a x w = record { re = less_s (times a x.re) w.re; im = less_s (times a x.im) w.im }

-- ---- one more factor: x for w, then z for x times r

-- the real part, over the naturals: (p, q) and (u, v) stand for x, (e, f) for z, (g, h) and (k, l) for w, (b, c) and (m, n) for r. The imaginary part is
-- the same with r turned by a quarter.
step : (a d p q u v e f g h k l b c m n : ℕ)
    → a * d * e + (g * c + h * b + (k * m + l * n)) + ((a * p + h) * c + (a * q + g) * b + ((a * u + l) * m + (a * v + k) * n) + a * (d * f + (p * b + q * c + (u * n + v * m))))
    ≡ (a * p + h) * b + (a * q + g) * c + ((a * u + l) * n + (a * v + k) * m) + a * (d * e + (p * c + q * b + (u * m + v * n))) + (a * d * f + (g * b + h * c + (k * n + l * m)))
step a d p q u v e f g h k l b c m n = simp (mul-add, add-mul, mul_assoc, add_assoc, add_comm, add_left_comm)

module _ (a d : ℕ) (x z w r : Gauss) where
  abbrev before : Gauss
  before = times_g (error a x w) r

  abbrev new : Gauss
  new = error d z (times_g x r)

  re-step : Same (error (a * d) z (times_g w r)).re (plus_s before.re (times a new.re))
  re-step =
      step a d x.re.plus x.re.less x.im.plus x.im.less z.re.plus z.re.less w.re.plus w.re.less w.im.plus w.im.less
      r.re.plus r.re.less r.im.plus r.im.less

  im-step : Same (error (a * d) z (times_g w r)).im (plus_s before.im (times a new.im))
  im-step =
      step a d x.re.plus x.re.less x.im.plus x.im.less z.im.plus z.im.less w.re.plus w.re.less w.im.plus w.im.less
      r.im.plus r.im.less r.re.less r.re.plus

  new-square : sq (times a new.re) + sq (times a new.im) ≡ a * a * sq_g new
  new-square = (λ i. sq-by a new.re i + sq-by a new.im i) ∙ sym (mul-add (a * a) (sq new.re) (sq new.im))

  -- i + 1 errors, and one more
  pub one_more : (i B : ℕ) → sq_g (error a x w) * sq_g r ≤ suc i * suc i * B → a * a * sq_g (error d z (times_g x r)) ≤ B
      → sq_g (error (a * d) z (times_g w r)) ≤ suc (suc i) * suc (suc i) * B
  one_more i B h k =
      let after = error (a * d) z (times_g w r) in
      let re = sq-same after.re (plus_s before.re (times a new.re)) re-step in
      let im = sq-same after.im (plus_s before.im (times a new.im)) im-step in
      le_trans (le_of_eq (λ i. re i + im i))
      (grow i B before.re before.im (times a new.re) (times a new.im) (le_trans (le_of_eq (norm-times (error a x w) r)) h) (le_trans (le_of_eq new-square) k))
