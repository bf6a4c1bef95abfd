-- What a test of the opposite says. Assumes nothing.
use mathlib.Core.Path.{◌≡◌, refl}
use mathlib.Core.Bool.{Bool, true, false, not}

pub denied : (b : Bool) → not b ≡ true → b ≡ false
denied true e = cc
denied false e = refl

pub granted : (b : Bool) → not b ≡ false → b ≡ true
granted true e = refl
granted false e = cc
