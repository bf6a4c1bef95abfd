-- Complex whole numbers, as pairs of pairs of naturals, multiply as numbers do: the order and the grouping of the factors do not count. So the exact
-- carrier is start times amplitude, then times the rotation, k times. Each part is a sum of products of naturals. Assumes nothing.
use mathlib.Core.Path.{◌≡◌, ◌∙◌}
use Prim.Native.Nat.{ℕ, suc}
use native.Mathlib.Nat.{mul-add, add-mul, mul_assoc, add_assoc, add_comm, add_left_comm}
use native.Mathlib.Omega.{arith}
use Rattle.quant.specs.declared.complex.Complex.{Complex}
use Rattle.accuracy.specs.Exact.{Gauss, one_g, times_g, power_g, exactly, carrier_exactly}

-- four naturals make one
abbrev four : ℕ → ℕ → ℕ → ℕ → Gauss
four a b c d = record { re = record { plus = a; less = b }; im = record { plus = c; less = d } }

pub grouped : (x y z : Gauss) → times_g x (times_g y z) ≡ times_g (times_g x y) z
grouped x y z = by x.re.plus x.re.less x.im.plus x.im.less y.re.plus y.re.less y.im.plus y.im.less z.re.plus z.re.less z.im.plus z.im.less
  where
    by : (a b c d e f g h p q r s : ℕ) → times_g (four a b c d) (times_g (four e f g h) (four p q r s)) ≡ times_g (times_g (four a b c d) (four e f g h)) (four p q r s)
    by a b c d e f g h p q r s =
        let l = times_g (four a b c d) (times_g (four e f g h) (four p q r s)) in
        let k = times_g (times_g (four a b c d) (four e f g h)) (four p q r s) in
        let one : l.re.plus ≡ k.re.plus = simp (mul-add, add-mul, mul_assoc, add_assoc, add_comm, add_left_comm) in
        let two : l.re.less ≡ k.re.less = simp (mul-add, add-mul, mul_assoc, add_assoc, add_comm, add_left_comm) in
        let three : l.im.plus ≡ k.im.plus = simp (mul-add, add-mul, mul_assoc, add_assoc, add_comm, add_left_comm) in
        let last : l.im.less ≡ k.im.less = simp (mul-add, add-mul, mul_assoc, add_assoc, add_comm, add_left_comm) in
        λ i. four (one i) (two i) (three i) (last i)

pub turned : (x y : Gauss) → times_g x y ≡ times_g y x
turned x y = by x.re.plus x.re.less x.im.plus x.im.less y.re.plus y.re.less y.im.plus y.im.less
  where
    by : (a b c d e f g h : ℕ) → times_g (four a b c d) (four e f g h) ≡ times_g (four e f g h) (four a b c d)
    by a b c d e f g h =
        let l = times_g (four a b c d) (four e f g h) in
        let k = times_g (four e f g h) (four a b c d) in
        let one : l.re.plus ≡ k.re.plus = omega arith in
        let two : l.re.less ≡ k.re.less = omega arith in
        let three : l.im.plus ≡ k.im.plus = omega arith in
        let last : l.im.less ≡ k.im.less = omega arith in
        λ i. four (one i) (two i) (three i) (last i)

pub once : (x : Gauss) → times_g x one_g ≡ x
once x = by x.re.plus x.re.less x.im.plus x.im.less
  where
    by : (a b c d : ℕ) → times_g (four a b c d) one_g ≡ four a b c d
    by a b c d =
        let l = times_g (four a b c d) one_g in
        let one : l.re.plus ≡ a = omega arith in
        let two : l.re.less ≡ b = omega arith in
        let three : l.im.plus ≡ c = omega arith in
        let last : l.im.less ≡ d = omega arith in
        λ i. four (one i) (two i) (three i) (last i)

-- ---- the exact carrier, one factor at a time
pub exact-first : (amp start rotation : Complex) → carrier_exactly amp start rotation 0 ≡ times_g (exactly start) (exactly amp)
unfolding power_g
exact-first amp start rotation = once (times_g (exactly amp) (exactly start)) ∙ turned (exactly amp) (exactly start)

pub exact-next : (amp start rotation : Complex) (k : ℕ) → carrier_exactly amp start rotation (suc k) ≡ times_g (carrier_exactly amp start rotation k) (exactly rotation)
unfolding power_g
exact-next amp start rotation k = grouped (times_g (exactly amp) (exactly start)) (power_g (exactly rotation) k) (exactly rotation)
