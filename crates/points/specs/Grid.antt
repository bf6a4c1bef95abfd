-- Where sums of points are not rounded: a start and a step that are whole numbers of a small step, and what stands for a start that is not. Definitions only.
use Rattle.std.specs.Prelude.{◌≡◌, ℕ, ◌*◌, ◌^◌, ◌≤◌, Bool, false, ◌⊎◌, List, [], ◌∷◌, Float}
use Rattle.exact.specs.Value.{Units, sign_of}
use Rattle.fma.specs.Sticky.{Sticky}

-- a start: whole steps of 2 ^ -88, and 3/4 at most in size
pub record Stepped (x : Float) : Type 0 where
  pub steps : ℕ
  pub value : Units x (sign_of x) (steps * 2 ^ 986)
  pub few : steps ≤ 3 * 2 ^ 86

-- a step: whole steps of 2 ^ -86, from 2 ^ -30 on and 3/4 at most
pub record Stride (dx : Float) : Type 0 where
  pub steps : ℕ
  pub value : Units dx false (steps * 2 ^ 988)
  pub least : 2 ^ 56 ≤ steps
  pub few : steps ≤ 3 * 2 ^ 84

-- the first n points from x on are sums of two parts that are not rounded; they are 9/4 away at most
pub record OnGrid (n : ℕ) (x dx : Float) : Type 0 where
  pub few : n ≤ 65536
  pub start : Stepped x
  pub step : Stride dx
  pub reach : n * (step.steps * 4) ≤ 9 * 2 ^ 86

-- t is steps of 2 ^ -87, and the last bit of their number says what is lost of x: they are x, or their number is odd and they are less than one step from x
pub record Sticks (x t : Float) : Type 0 where
  pub sign : Bool
  pub units : ℕ
  pub steps : ℕ
  pub of-x : Units x sign units
  pub of-t : Units t sign (steps * 2 ^ 987)
  pub sticky : Sticky steps 987 units
  pub small : steps ≤ 2 ^ 52

-- the sums may start at t in place of x
abbrev pub StandsFor : Float → Float → Type 0
StandsFor x t = (t ≡ x) ⊎ Sticks x t

-- another first element, where there is one
unfoldable pub headed : Float → List Float → List Float
headed y [] = []
headed y (z ∷ zs) = y ∷ zs
