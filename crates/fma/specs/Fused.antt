-- IEEE 754-2019, 5.4.1, fusedMultiplyAdd: (x * y) + z as if with unbounded range and precision, rounded only once. Definitions only.
use Rattle.std.specs.Prelude.{◌*◌, Bool, false, nat_lt, Float}
use Rattle.std.specs.Float.{nan, inf, fin, Format}
use Rattle.std.specs.Float.Ieee.{up, down, unlike, sum, add, mul}

-- Of three finite values the exact product and z go, over one denominator, to `sum`, which rounds, and which gives an exact zero its sign (6.3).
-- An infinite or missing z beats any finite product. Where x or y is not finite, nothing is rounded, and the product and the sum are those of 6.1 and 7.2.
unfoldable pub fma : Format → Float → Float → Float → Float
unfolding sum add mul
fma f (fin s m e) (fin t n d) (fin u w g) =
    sum f (unlike s t) (m * up e * (n * up d) * down g) u (w * up g * (down e * down d)) (down e * down d * down g)
fma f (fin s m e) (fin t n d) nan = nan
fma f (fin s m e) (fin t n d) (inf u) = inf u
fma f (fin s m e) nan z = nan
fma f (fin s m e) (inf t) z = add f (mul f (fin s m e) (inf t)) z
fma f nan y z = nan
fma f (inf s) y z = add f (mul f (inf s) y) z

-- finite and not zero
abbrev pub nonzero : Float → Bool
nonzero nan = false
nonzero (inf s) = false
nonzero (fin s m e) = nat_lt 0 m
