-- A pulse with a shape, once its envelope is in the scratch. Assumes nothing.
use Prim.Native.Nat.{ℕ, ◌-◌, ◌≤◌}
use mathlib.Core.Path.{◌≡◌, refl}
use mathlib.Core.List.{List}
use native.Mathlib.Omega.{arith}
use lib.Ieee.{Float}
use lib.ListN.{length, take, drop}
use lib.Seq.{length-take-le}
use Rattle.mix.specs.Part.{first_row, second_row}
use Rattle.mix.specs.Plateau.{real, imaginary}
use Rattle.mix.specs.Envelope.{shaped_by}
use Rattle.placing.specs.declared.Curved.{Curved}
use Rattle.mixdown.specs.Sampled.{rowed, with_points}

pub shaped-rows : (rows : ℕ) (c : Curved) (i q scratch i' q' : List Float) → c.points ≤ length scratch
    → i' ≡ first_row rows c.start (length (take (c.points - 0) (drop 0 scratch))) i q (shaped_by real c.amp c.drag c.rotation (take (c.points - 0) (drop 0 scratch)) c.carrier)
    → q' ≡ second_row rows c.start (length (take (c.points - 0) (drop 0 scratch))) i q (shaped_by imaginary c.amp c.drag c.rotation (take (c.points - 0) (drop 0 scratch)) c.carrier)
    → rowed i' q' scratch ≡ with_points rows c i q scratch
shaped-rows rows c i q scratch i' q' h e f =
    let whole : c.points - 0 ≡ c.points = omega arith in
    let long : length (take (c.points - 0) (drop 0 scratch)) ≡ c.points = rw whole (length-take-le c.points scratch h) in
    rw (e, f, long, whole) refl
