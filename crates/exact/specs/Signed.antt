-- A signed whole number as a pair of naturals: `plus` less `less`. Two pairs may stand for one number. Definitions only.
use Rattle.std.specs.Prelude.{◌≡◌, Bool, cond, ℕ, ◌+◌, ◌-◌, ◌*◌, ◌≤◌}

pub record Signed : Type 0 where
  pub plus : ℕ
  pub less : ℕ

-- a with the sign s (true: negative)
abbrev pub signed : Bool → ℕ → Signed
signed s a = record { plus = cond s 0 a; less = cond s a 0 }

-- the same number
abbrev pub Same : Signed → Signed → Type 0
Same x y = x.plus + y.less ≡ y.plus + x.less

-- x and y are at most e apart
pub record Apart (x y : Signed) (e : ℕ) : Type 0 where
  pub over : x.plus + y.less ≤ y.plus + x.less + e
  pub under : y.plus + x.less ≤ x.plus + y.less + e

-- n times x
abbrev pub times : ℕ → Signed → Signed
times n x = record { plus = n * x.plus; less = n * x.less }

-- the sum, and the difference
abbrev pub plus_s : Signed → Signed → Signed
plus_s x y = record { plus = x.plus + y.plus; less = x.less + y.less }

abbrev pub less_s : Signed → Signed → Signed
less_s x y = record { plus = x.plus + y.less; less = x.less + y.plus }

-- the product
abbrev pub times_s : Signed → Signed → Signed
times_s x y = record { plus = x.plus * y.plus + x.less * y.less; less = x.plus * y.less + x.less * y.plus }

-- how far two naturals are apart, and the size of a signed number
abbrev pub dist : ℕ → ℕ → ℕ
dist a b = a - b + (b - a)

abbrev pub mag : Signed → ℕ
mag x = dist x.plus x.less
