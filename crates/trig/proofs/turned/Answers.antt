-- `trig::turned` meets its contract: near MIDDLE the sum t gives a whole number of turns, and else the answer is a zero, which is not asked
-- to be the reduced angle. Assumes nothing.
use mathlib.Core.Path.{sym, subst}
use lib.Dec.{T}
use lib.Ieee.{binary64, of_bits, add, sub, mul}
use lib.Ieee.Fits.{add-fits}
use Rattle.trig.proofs.Only.{zero-outside}
use Rattle.trig.proofs.Turning.{MIDDLE, whole, turned-reduced}
use Rattle.trig.proofs.turned.Goals as goal

pub returns-then-t-2 : goal.returns-then-t-2
returns-then-t-2 c far i =
    let x = c.args.x in
    let p = mul binary64 x (of_bits binary64 0x3FC45F306DC9C883) in
    let t = add binary64 p MIDDLE in
    turned-reduced x (sub binary64 t MIDDLE) (subst T (sym c.well_formed.0.1) tt) far
    (whole t (add-fits binary64 p MIDDLE) c.if-t.true c.if-t-2.true) i

pub returns-else-t : goal.returns-else-t
returns-else-t c far i = absurd (zero-outside i)
