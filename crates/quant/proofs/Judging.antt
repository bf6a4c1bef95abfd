-- The code's `if !test(..)`, where r is what the test answered and x what its contract says that is. Assumes nothing.
use mathlib.Core.Path.{◌≡◌, sym}
use mathlib.Core.Bool.{Bool, true, false, not, true≢false}

pub taken : (r x : Bool) → r ≡ x → not r ≡ true → x ≡ false
taken true x e h = absurd (true≢false (sym h))
taken false x e h = sym e

pub passed : (r x : Bool) → r ≡ x → not r ≡ false → x ≡ true
passed true x e h = sym e
passed false x e h = absurd (true≢false h)
