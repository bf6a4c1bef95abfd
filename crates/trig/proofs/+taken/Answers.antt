-- Below d nothing comes off, from 2^1023 on one d at most; else what 2 d leaves is below 2 d (proofs/Taking.antt).
use Rattle.std.proofs.Common.{◌+◌, ◌≡◌, ◌<◌, ◌≤◌, ◌^◌, false, sym, subst, T, arith}
use Rattle.std.specs.Float.{binary64}
use Rattle.std.specs.Float.Ieee.{add, fits}
use Rattle.exact.specs.Value.{units_of}
use Rattle.exact.proofs.Value.{units-are}
use Rattle.trig.proofs.Taking.{rest-own, rest-off, rest-twice, no_less, n-below, twice-units, under_half, over_half, step-own, step-off}
use Rattle.trig.proofs.+taken.Goals as goal

pub returns-then-r-d : goal.returns-then-r-d
returns-then-r-d t c =
    let f : T (fits binary64 c.args.r) = subst T (sym c.well_formed.0.1) tt in
    let g : T (fits binary64 c.args.d) = subst T (sym c.well_formed.1.0.1) tt in
    rest-own c.args.r c.args.d (units_of c.args.r) (units_of c.args.d) f g c.requires.above c.requires.divisor.0 c.requires.divisor.1 c.if-r-d.true

pub taken-rest-requires : goal.taken-rest-requires
taken-rest-requires t c =
    let r = c.args.r in
    let d = c.args.d in
    let f : T (fits binary64 r) = subst T (sym c.well_formed.0.1) tt in
    let g : T (fits binary64 d) = subst T (sym c.well_formed.1.0.1) tt in
    let w = c.requires.divisor.0 in
    let some = c.requires.divisor.1 in
    let h : units_of d ≤ units_of r = no_less r d (units_of r) (units_of d) f g c.requires.above w some c.if-r-d.false in
    let v = twice-units d (units_of d) g w (under_half d (units_of d) w c.if-d.true) in
    let e : units_of (add binary64 d d) ≡ units_of d + units_of d = units-are (add binary64 d d) false (units_of d + units_of d) v in
    (rw (e, ← c.decreases) (omega arith), (c.requires.above, (rw e v, rw e (omega arith))))

pub returns-then-rest-d : goal.returns-then-rest-d
returns-then-rest-d t c =
    let r = c.args.r in
    let d = c.args.d in
    let q = c.taken-rest.result in
    let f : T (fits binary64 r) = subst T (sym c.well_formed.0.1) tt in
    let g : T (fits binary64 d) = subst T (sym c.well_formed.1.0.1) tt in
    let k : T (fits binary64 q) = subst T (sym c.taken-rest.type_inv) tt in
    let v = c.requires.above in
    let w = c.requires.divisor.0 in
    let some = c.requires.divisor.1 in
    let u = rest-twice r d q (units_of r) (units_of d) f g v w some (under_half d (units_of d) w c.if-d.true) c.taken-rest.ensures in
    step-own r d q (units_of r) (units_of d) f g k v w some u c.if-rest-d.true

pub returns-else-rest-d : goal.returns-else-rest-d
returns-else-rest-d t c =
    let r = c.args.r in
    let d = c.args.d in
    let q = c.taken-rest.result in
    let f : T (fits binary64 r) = subst T (sym c.well_formed.0.1) tt in
    let g : T (fits binary64 d) = subst T (sym c.well_formed.1.0.1) tt in
    let k : T (fits binary64 q) = subst T (sym c.taken-rest.type_inv) tt in
    let v = c.requires.above in
    let w = c.requires.divisor.0 in
    let some = c.requires.divisor.1 in
    let u = rest-twice r d q (units_of r) (units_of d) f g v w some (under_half d (units_of d) w c.if-d.true) c.taken-rest.ensures in
    step-off r d q (units_of r) (units_of d) f g k v w some u c.if-rest-d.false

pub returns-else-d : goal.returns-else-d
returns-else-d t c =
    let r = c.args.r in
    let d = c.args.d in
    let n = units_of r in
    let m = units_of d in
    let f : T (fits binary64 r) = subst T (sym c.well_formed.0.1) tt in
    let g : T (fits binary64 d) = subst T (sym c.well_formed.1.0.1) tt in
    let v = c.requires.above in
    let w = c.requires.divisor.0 in
    let some = c.requires.divisor.1 in
    let high : 2 ^ 2097 ≤ m = over_half d m w c.if-d.false in
    let low : n < 2 ^ 2098 = n-below r d n m f g v w some in
    rest-off r d n m f g v w some (no_less r d n m f g v w some c.if-r-d.false) (omega arith)
