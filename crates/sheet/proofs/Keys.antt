-- A key beside a line: what is parted. Assumes nothing.
use Prim.Native.Nat.{ℕ, ◌≤◌, suc-le-suc, zero-le}
use mathlib.Core.Bool.{Bool, true, false, ◌&&◌, not, cond, true≢false}
use mathlib.Core.List.{List, [], ◌∷◌}
use mathlib.Core.Path.{◌≡◌, refl, sym, ◌∙◌}
use lib.Dec.{eqb}
use lib.ListN.{length, drop}
use Rattle.exact.proofs.Truth.{both}
use Rattle.std.specs.List.{starts_with}
use Rattle.sheet.specs.Reader.{Starts, parted}
use Rattle.sheet.specs.Sheet.{behind, value, other}

-- ---- by the library's test of how a line starts

further : (t : Bool) (k b : ℕ) (ks line : List ℕ) → parted t ks line ≡ parted t (k ∷ ks) (b ∷ line)
further true k b ks line = refl
further false k b ks line = refl

pub parts-by : (key line : List ℕ) → behind key line ≡ parted (starts_with eqb line key) key line
unfolding behind
parts-by [] line = refl
parts-by (k ∷ ks) [] = refl
parts-by (k ∷ ks) (b ∷ line) = by (eqb k b) (parts-by ks line ∙ further (starts_with eqb line ks) k b ks line)
  where
    by : (t : Bool) → behind ks line ≡ parted (starts_with eqb line ks) (k ∷ ks) (b ∷ line)
        → cond t (behind ks line) other ≡ parted (t && starts_with eqb line ks) (k ∷ ks) (b ∷ line)
    by true e = e
    by false e = refl

pub reaches-by : (key line : List ℕ) → starts_with eqb line key ≡ true → length key ≤ length line
reaches-by [] line e = zero-le
reaches-by (k ∷ ks) [] e = absurd (true≢false (sym e))
reaches-by (k ∷ ks) (b ∷ line) e = suc-le-suc (reaches-by ks line (both (eqb k b) (starts_with eqb line ks) e).1)

-- ---- what the code's `if !starts(line, key)` tells

module _ (key line : List ℕ) where
  pub missing : (r : Bool) → Starts key line r → not r ≡ true → behind key line ≡ other
  missing true s h = absurd (true≢false (sym h))
  missing false s h = s.parts

  pub there : (r : Bool) → Starts key line r → not r ≡ false → behind key line ≡ value (drop (length key) line)
  there true s h = s.parts
  there false s h = absurd (true≢false h)

  pub reaches : (r : Bool) → Starts key line r → not r ≡ false → length key ≤ length line
  reaches true s h = s.within refl
  reaches false s h = absurd (true≢false h)
