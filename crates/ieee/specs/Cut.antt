-- A number cut off at its point and cast to an index, as the Rust's `num::cast` to `usize` does: toward zero, so that -0.5 is the index 0 and -1 lies below the indices.
use Rattle.std.specs.Prelude.{ℕ, ◌*◌, ◌/◌, ◌^◌, Bool, true, false, cond, ◌==◌, nat_lt, Float}
use Rattle.std.specs.Float.{nan, inf, fin}
use Rattle.std.specs.Float.Ieee.{up, down}
use Rattle.ieee.specs.declared.cut.Cut.{Cut}
use Rattle.ieee.specs.declared.cut.Cut.TheVariants.{Index, Below, Above, NotANumber}

-- the whole number w, negative where s is true, as an index: from 0 to 2 ^ 64 - 1
abbrev pub index_of : Bool → ℕ → Cut
index_of true w = cond (w == 0) (Index 0) Below
index_of false w = cond (nat_lt w (2 ^ 64)) (Index w) Above

unfoldable pub cut_of : Float → Cut
cut_of nan = NotANumber
cut_of (inf s) = cond s Below Above
cut_of (fin s m e) = index_of s (m * up e / down e)
