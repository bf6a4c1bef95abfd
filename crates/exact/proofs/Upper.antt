-- The upper digits of a double z by one sum: z + M - M, where M is 3 2 ^ (52 + d) units and z is a quarter of it at most. z + M lies between two powers of
-- two, so it is rounded to a multiple of 2 ^ (1 + d) units, by 2 ^ d at most; and M is taken off exactly. Assumes nothing.
use mathlib.Core.Path.{◌≡◌, refl, sym, ap, ◌∙◌, subst}
use mathlib.Core.Bool.{Bool, true, false, false≢true}
use Prim.Native.Nat.{ℕ, ◌+◌, ◌-◌, ◌*◌, ◌^◌, ◌≤◌, ◌<◌}
use native.Mathlib.Nat.{le_trans, le_of_eq, mul-le-mul_right, le_of_mul-le-mul_right}
use native.Mathlib.Omega.{arith}
use lib.Pow.{pow-add, pow_pos}
use lib.Ieee.{Float, binary64, round, add, sub}
use lib.Ieee.Fits.{add-fits}
use Rattle.exact.specs.Value.{Units, units_of}
use Rattle.exact.specs.Signed.{Signed, Same, signed, plus_s, less_s}
use Rattle.exact.specs.Near.{Off}
use Rattle.exact.proofs.Value.{units-are}
use Rattle.exact.proofs.Few.{value-finite}
use Rattle.exact.proofs.Sum.{sum_like, sum-second}
use Rattle.exact.proofs.Operation.{add_rounds}
use Rattle.exact.proofs.Rounding.{round-off}
use Rattle.exact.proofs.Grid.{Clear, sub-clear}
use Rattle.exact.proofs.Steps.{far-on}

-- v multiples of 2 ^ (1 + d), less M's
abbrev pub top : ℕ → Signed
top v = less_s (signed false v) (signed false (3 * 2 ^ 51))

-- ---- in whole numbers, over p = 2 ^ d
near : (m c r e : ℕ) → 0 < c → Off r (m * c) c e → (r ≤ m + e) × (m ≤ r + e)
near m c r e C o = (le_of_mul-le-mul_right {k = c} (over o.over) C, le_of_mul-le-mul_right {k = c} (under o.under) C)
  where
    over : r * c ≤ m * c + c * e → r * c ≤ (m + e) * c
    over h = omega arith

    under : m * c ≤ r * c + c * e → m * c ≤ (r + e) * c
    under h = omega arith

twice : (d : ℕ) → 2 ^ (1 + d) ≡ 2 * 2 ^ d
twice d = pow-add 2 1 d

least : (n p r : ℕ) → 9 * 2 ^ 50 * p ≤ n → n ≤ r + p → 2 ^ 52 * (2 * p) ≤ r
least n p r h l = omega arith

few : (n p v : ℕ) → 0 < p → n ≤ 15 * 2 ^ 50 * p → v * (2 * p) ≤ n + p → v ≤ 2 ^ 53
few n p v P h l = le_of_mul-le-mul_right {k = p} (omega arith) P

-- ---- the sum, of n units before it is rounded
record Sum (d : ℕ) (z M : Float) (n : ℕ) : Type 0 where
  is : add binary64 z M ≡ round binary64 false n (2 ^ 1074)
  low : 9 * 2 ^ 50 * 2 ^ d ≤ n
  high : n ≤ 15 * 2 ^ 50 * 2 ^ d

record Multiple (d : ℕ) (z M : Float) (n : ℕ) : Type 0 where
  v : ℕ
  value : Units (add binary64 z M) false (v * 2 ^ (1 + d))
  over : v * (2 * 2 ^ d) ≤ n + 2 ^ d
  under : n ≤ v * (2 * 2 ^ d) + 2 ^ d

multiple : (d : ℕ) (z M : Float) (n r : ℕ) → Units (add binary64 z M) false r → r ≤ n + 2 ^ d → n ≤ r + 2 ^ d → 2 ^ 52 * (2 * 2 ^ d) ≤ r → Multiple d z M n
multiple d z M n r u o l h =
    let y = add binary64 z M in
    let is : units_of y ≡ r = units-are y false r u in
    let m = far-on (1 + d) y (add-fits binary64 z M) (value-finite y false r u)
    (le_trans (le_of_eq (pow-add 2 52 (1 + d) ∙ ap (λ (q : ℕ). 2 ^ 52 * q) (twice d))) (le_trans h (le_of_eq (sym is)))) in
    let e : r ≡ m.0 * (2 * 2 ^ d) = sym is ∙ m.1 ∙ ap (λ (q : ℕ). m.0 * q) (twice d) in
    record { v = m.0; value = subst (Units y false) (sym is ∙ m.1) u; over = omega arith; under = omega arith }

pub record Upper (d : ℕ) (z M : Float) (k : Signed) : Type 0 where
  pub v : ℕ
  pub over : v * (2 * 2 ^ d) + k.less ≤ 3 * 2 ^ 52 * 2 ^ d + k.plus + 2 ^ d
  pub under : 3 * 2 ^ 52 * 2 ^ d + k.plus ≤ v * (2 * 2 ^ d) + k.less + 2 ^ d
  pub high : Clear (1 + d) (sub binary64 (add binary64 z M) M) (top v)

module _ (d : ℕ) (M : Float) (value : Units M false (3 * 2 ^ 52 * 2 ^ d)) (room : 2 ^ (54 + d) + 2 ^ (1 + d) ≤ 2 ^ 2098) where
  summed : (z : Float) (s : Bool) (b : ℕ) → b ≤ 3 * 2 ^ 50 * 2 ^ d → Units z s b
      → (n : ℕ) × Sum d z M n × Same (signed false n) (plus_s (signed false (3 * 2 ^ 52 * 2 ^ d)) (signed s b))
  summed z false b h u =
      let m = 3 * 2 ^ 52 * 2 ^ d in (
        b + m,
        record {
          is = add_rounds binary64 z M false false b m (2 ^ 1074) (pow_pos 1074) u value ∙ sum_like binary64 false false b m (2 ^ 1074) refl;
          low = omega arith;
          high = omega arith;
        },
        omega arith,
      )
  summed z true b h u =
      let m = 3 * 2 ^ 52 * 2 ^ d in
      let P = pow_pos d in (
        m - b,
        record {
          is = add_rounds binary64 z M true false b m (2 ^ 1074) (pow_pos 1074) u value ∙ sum-second binary64 true false b m (2 ^ 1074) refl (omega arith);
          low = omega arith;
          high = omega arith;
        },
        omega arith,
      )

  -- M is on the grid, and the grid has room for what is left
  m-value : Units M false (3 * 2 ^ 51 * 2 ^ (1 + d))
  m-value = subst (Units M false) (regroup (2 ^ d) ∙ ap (λ (q : ℕ). 3 * 2 ^ 51 * q) (sym (twice d))) value
    where
      regroup : (p : ℕ) → 3 * 2 ^ 52 * p ≡ 3 * 2 ^ 51 * (2 * p)
      regroup p = omega arith

  fits_in : 2 ^ 53 * 2 ^ (1 + d) ≤ 2 ^ 2098
  fits_in = le_trans (le_of_eq (ap (λ (q : ℕ). 2 ^ 53 * q) (twice d) ∙ regroup (2 ^ d) ∙ sym (pow-add 2 54 d))) (less (2 ^ (54 + d)) (2 ^ (1 + d)) (2 ^ 2098) room)
    where
      regroup : (p : ℕ) → 2 ^ 53 * (2 * p) ≡ 2 ^ 54 * p
      regroup p = omega arith

      less : (a b c : ℕ) → a + b ≤ c → a ≤ c
      less a b c h = omega arith

  -- rounded, it is v multiples of 2 ^ (1 + d)
  rounds : (z : Float) (n : ℕ) → Sum d z M n → Multiple d z M n
  rounds z n w =
      let c = 2 ^ 1074 in
      let p = 2 ^ d in
      let y = add binary64 z M in
      let most : n ≤ 2 ^ (54 + d) = le_trans (all n p w.high) (le_of_eq (sym (pow-add 2 54 d))) in
      let r = round-off false n c d (pow_pos 1074) (mul-le-mul_right c most) room in
      let o = near n c r.0 p (pow_pos 1074) r.2 in
      let rounded : Units y false r.0 = subst (λ (x : Float). Units x false r.0) (sym w.is) r.1 in
      multiple d z M n r.0 rounded o.0 o.1 (least n p r.0 w.low o.1)
    where
      all : (n p : ℕ) → n ≤ 15 * 2 ^ 50 * p → n ≤ 2 ^ 54 * p
      all n p h = omega arith

  pub upper_of : (z : Float) (s : Bool) (b : ℕ) → b ≤ 3 * 2 ^ 50 * 2 ^ d → Units z s b → Upper d z M (signed s b)
  upper_of z s b h u =
      let w = summed z s b h u in
      let m = rounds z w.0 w.1 in
      let l = few w.0 (2 ^ d) m.v (pow_pos d) w.1.high m.over in
      record {
        v = m.v;
        over = omega (arith, w.2, m.over);
        under = omega (arith, w.2, m.under);
        high = sub-clear (1 + d) fits_in (add binary64 z M) M (signed false m.v) (signed false (3 * 2 ^ 51))
            (record { sign = false; steps = m.v; value = m.value; same = refl })
            (record { sign = false; steps = 3 * 2 ^ 51; value = m-value; same = refl })
            (record { over = omega arith; under = omega arith }) (λ e. absurd (false≢true e));
      }
