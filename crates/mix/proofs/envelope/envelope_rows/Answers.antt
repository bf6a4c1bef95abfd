use Prim.Native.Nat.{◌<◌, ◌≤◌}
use native.Mathlib.Omega.{arith}
use mathlib.Core.Path.{refl, sym, ◌∙◌}
use mathlib.Core.List.{List}
use lib.ListN.{length, drop, length-set}
use lib.Ieee.{Float}
use Rattle.std.proofs.lemmas.Bool.{eqb-true, eqb-false}
use Rattle.exact.specs.Doubles.{nought}
use Rattle.quant.specs.declared.complex.Complex.{Complex}
use Rattle.mix.specs.Envelope.{shaped, shaped_by}
use Rattle.mix.specs.Plateau.{real, imaginary}
use Rattle.mix.proofs.Turns.{Laid, envelope-turn, envelope-end}
use Rattle.mix.proofs.envelope.envelope_rows.Invariants.{ahead}
use Rattle.mix.proofs.envelope.envelope_rows.Goals as goal

-- nothing is laid yet
unlaid : (part : Complex → Float) (amp drag d z : Complex) (points row : List Float)
    → Laid (shaped_by part amp drag d points z row) row row 0 (shaped part amp drag d nought (drop 0 points) z (drop 0 row))
unlaid part amp drag d z points row = record { within = omega arith; same = refl; whole = refl }

none : (c : goal.Then-is_empty) → length c.args.i.now ≤ 0
none c = omega (arith, eqb-true (length c.args.i.now) 0 (sym c.is_empty.ensures ∙ c.if-is_empty.true))

some : (c : goal.After-loop-k) → 0 < length c.args.i.now
some c = omega (arith, eqb-false (length c.args.i.now) 0 (sym c.is_empty.ensures ∙ c.if-is_empty.false))

pub returns-then-is_empty-clause-i_after : goal.returns-then-is_empty-clause-i_after
returns-then-is_empty-clause-i_after c =
    let a = c.args in
    envelope-end real a.amp a.drag a.rotation a.points.now _ _ a.i.now 0 nought a.carrier (none c) (omega (arith, c.requires.0, none c)) (unlaid real a.amp a.drag a.rotation a.carrier a.points.now a.i.now)

pub returns-then-is_empty-clause-q_after : goal.returns-then-is_empty-clause-q_after
returns-then-is_empty-clause-q_after c =
    let a = c.args in
    envelope-end imaginary a.amp a.drag a.rotation a.points.now _ _ a.q.now 0 nought a.carrier (omega (arith, c.requires.0, c.requires.1, none c)) (omega (arith, c.requires.0, none c)) (unlaid imaginary a.amp a.drag a.rotation a.carrier a.points.now a.q.now)

pub loop-k-preserved : goal.loop-k-preserved
loop-k-preserved c =
    let at = c.loop-k in
    let a = c.args in
    let right = c.point-right in
    rw (c.wave-w.ensures, c.mul-next.ensures, c.mul-turned.ensures) (
      envelope-turn real a.amp a.drag a.rotation a.points.now _ _ at.i at.k at.left (ahead at.re at.last a.rotation) at.here right.result at.invariant.2 right.ensures (omega (arith, at.invariant.3, at.invariant.4)) (omega (arith, at.invariant.3)) at.invariant.0,
      envelope-turn imaginary a.amp a.drag a.rotation a.points.now _ _ at.q at.k at.left (ahead at.re at.last a.rotation) at.here right.result at.invariant.2 right.ensures (omega (arith, at.invariant.3, at.invariant.4)) (omega (arith, at.invariant.3)) at.invariant.1,
      right.ensures,
      length-set at.i at.k _ ∙ at.invariant.3,
      length-set at.q at.k _ ∙ at.invariant.4,
      at.invariant.5,
    )

pub returns-clause-i_after : goal.returns-clause-i_after
returns-clause-i_after c =
    let at = c.loop-k in
    let a = c.args in
    let p = c.point-left in
    let r = c.point-here in
    (rw (c.wave-first.ensures, c.mul-second.ensures) at (envelope-end real a.amp a.drag a.rotation a.points.now _ _ at.i at.k at.left (ahead at.re at.last a.rotation) (omega (arith, at.invariant.3, at.invariant.4)) (omega (arith, at.invariant.3)) at.invariant.0))
    ∙ (envelope-turn real a.amp a.drag a.rotation a.points.now _ _ a.i.now 0 nought a.carrier p.result r.result p.ensures r.ensures (some c) (omega (arith, some c, c.requires.0)) (unlaid real a.amp a.drag a.rotation a.carrier a.points.now a.i.now)).whole

pub returns-clause-q_after : goal.returns-clause-q_after
returns-clause-q_after c =
    let at = c.loop-k in
    let a = c.args in
    let p = c.point-left in
    let r = c.point-here in
    (rw (c.wave-first.ensures, c.mul-second.ensures) at (envelope-end imaginary a.amp a.drag a.rotation a.points.now _ _ at.q at.k at.left (ahead at.re at.last a.rotation) (omega (arith, at.invariant.3, at.invariant.4)) (omega (arith, at.invariant.3)) at.invariant.1))
    ∙ (envelope-turn imaginary a.amp a.drag a.rotation a.points.now _ _ a.q.now 0 nought a.carrier p.result r.result p.ensures r.ensures (omega (arith, some c, c.requires.0, c.requires.1)) (omega (arith, some c, c.requires.0)) (unlaid imaginary a.amp a.drag a.rotation a.carrier a.points.now a.q.now)).whole
