-- Horner's form of the two series, in whole numbers: `folded` is d terms from term k on, with term k's power and denominator taken out. As
-- from the second term on each is larger than the next, what is left from any of these on is at least 0 and at most its first term: the
-- alternation and the rest of the series in one. q, o and x are those of `partial`. Assumes nothing.
use mathlib.Core.Path.{◌≡◌, sym, ap, ◌∙◌}
use Prim.Native.Nat.{ℕ, zero, suc, ◌+◌, ◌-◌, ◌*◌, ◌≤◌, ◌<◌}
use native.Mathlib.Nat.{le_trans, le_of_eq, mul_comm, mul-add, mul-pos, mul-le-mul, mul-le-mul_left, mul-le-mul_right}
use native.Mathlib.Nat.{sub-add_cancel, zero-lt-suc}
use native.Mathlib.Omega.{arith}
use Rattle.exact.specs.Signed.{Signed}

-- ---- term k's denominator times `ratio k` is term (k + 1)'s, and times `ratios d k` it is term (k + d)'s
unfoldable pub ratio : ℕ → ℕ → ℕ → ℕ
ratio q o k = q * q * ((2 * k + 1 + o) * (2 * k + 2 + o))

unfoldable pub ratios : ℕ → ℕ → ℕ → ℕ → ℕ
unfolding ratio
ratios q o zero k = 1
ratios q o (suc d) k = ratio q o k * ratios q o d (suc k)

pub ratios_some : (q o d k : ℕ) → 0 < q → 0 < ratios q o d k
unfolding ratios ratio
ratios_some q o zero k h = zero-lt-suc 0
ratios_some q o (suc d) k h = mul-pos (mul-pos (mul-pos h h) (mul-pos (some (2 * k) o 0) (some (2 * k) o 1))) (ratios_some q o d (suc k) h)
  where
    some : (a o i : ℕ) → 0 < a + suc i + o
    some a o i = omega arith

-- ---- d terms from term k on, over `ratios d k`: ratios - x x (ratios - x x (..))
unfoldable pub folded : ℕ → ℕ → ℕ → ℕ → ℕ → Signed
unfolding ratios
folded q o x zero k = record { plus = 0; less = 0 }
folded q o x (suc d) k =
    let r = folded q o x d (suc k) in
    record { plus = ratios q o (suc d) k + x * x * r.less; less = x * x * r.plus }

-- as one number, where it is not negative
unfoldable pub tail : ℕ → ℕ → ℕ → ℕ → ℕ → ℕ
unfolding folded
tail q o x d k = (folded q o x d k).plus - (folded q o x d k).less

-- r is at least 0 and at most w
record Between (r : Signed) (w : ℕ) : Type 0 where
  low : r.less ≤ r.plus
  high : r.plus ≤ r.less + w

difference : (y : ℕ) (r : Signed) → r.less ≤ r.plus → y * (r.plus - r.less) + y * r.less ≡ y * r.plus
difference y r l = sym (mul-add y (r.plus - r.less) r.less) ∙ ap (λ (n : ℕ). y * n) (sub-add_cancel l)

module _ (q o x : ℕ) (small : x * x ≤ 12 * (q * q)) where
  -- a term after the first is larger than the next
  falls : (j : ℕ) → x * x ≤ ratio q o (suc j)
  unfolding ratio
  falls j =
      let s : 12 ≤ (2 * suc j + 1 + o) * (2 * suc j + 2 + o) = mul-le-mul {n₁ = 3} {m₁ = 4} (omega arith) (omega arith) in
      le_trans small (le_trans (le_of_eq (mul_comm 12 (q * q))) (mul-le-mul_left (q * q) s))

  between : (d j : ℕ) → Between (folded q o x d (suc j)) (ratios q o d (suc j))
  unfolding folded ratios
  between zero j = record { low = omega arith; high = omega arith }
  between (suc d) j = next (x * x) (ratios q o d (suc (suc j))) (ratio q o (suc j)) (folded q o x d (suc (suc j))) (falls j) (between d (suc j))
    where
      next : (y w g : ℕ) (r : Signed) → y ≤ g → Between r w → Between (record { plus = g * w + y * r.less; less = y * r.plus }) (g * w)
      next y w g r f i =
          let a : y * r.less ≤ y * r.plus = mul-le-mul_left y i.low in
          let b : y * r.plus ≤ y * (r.less + w) = mul-le-mul_left y i.high in
          let c : y * w ≤ g * w = mul-le-mul_right w f in
          record { low = omega arith; high = omega arith }

  -- what is left is at most its first term
  pub tail-le : (d j : ℕ) → tail q o x d (suc j) ≤ ratios q o d (suc j)
  unfolding tail
  tail-le d j = let i = between d j in omega arith

  -- and it is that term less what is left from the next on
  pub tail-next : (d j : ℕ) → tail q o x (suc d) (suc j) + x * x * tail q o x d (suc (suc j)) ≡ ratios q o (suc d) (suc j)
  unfolding tail folded
  tail-next d j = by (x * x) (ratios q o (suc d) (suc j)) (folded q o x d (suc (suc j))) (between d (suc j)).low (between (suc d) j).low
    where
      by : (y w : ℕ) (r : Signed) → r.less ≤ r.plus → y * r.plus ≤ w + y * r.less
          → w + y * r.less - y * r.plus + y * (r.plus - r.less) ≡ w
      by y w r i k = let e = difference y r i in omega arith

  -- the same from the very first term on, where it may be negative
  pub tail-first : (d : ℕ) → (folded q o x (suc d) 0).plus + x * x * tail q o x d 1 ≡ (folded q o x (suc d) 0).less + ratios q o (suc d) 0
  unfolding tail folded
  tail-first d = by (x * x) (ratios q o (suc d) 0) (folded q o x d 1) (between d 0).low
    where
      by : (y w : ℕ) (r : Signed) → r.less ≤ r.plus → w + y * r.less + y * (r.plus - r.less) ≡ y * r.plus + w
      by y w r i = let e = difference y r i in omega arith
