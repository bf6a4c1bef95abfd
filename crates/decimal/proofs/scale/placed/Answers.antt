-- `decimal::scale::placed` meets its contract: the point moves, and only the distance of the two powers counts. Assumes nothing.
use Prim.Native.Nat.{ℕ, suc, ◌+◌, ◌-◌, ◌≤◌}
use mathlib.Core.Path.{◌≡◌, ap, ◌∙◌}
use mathlib.Core.List.{List}
use native.Mathlib.Omega.{arith}
use lib.ListN.{length, take, drop, length-append}
use lib.Seq.{length-take-le}
use Rattle.wide_decimal.specs.Figures.{worth, without}
use Rattle.decimal.proofs.Moving.{same-distance, point-among, point-before}
use Rattle.decimal.proofs.scale.placed.Goals as goal

long : (p : ℕ) (text : List ℕ) → p ≤ length text → length (without p text) ≡ p + length (drop (suc p) text)
unfolding without
long p text h = length-append (take p text) (drop (suc p) text) ∙ ap (λ (x : ℕ). x + length (drop (suc p) text)) (length-take-le p text h)

pub returns-then-down-whole : goal.returns-then-down-whole
returns-then-down-whole c =
    let p = c.args.point in
    let fs = without p c.args.text.now in
    c.nearest.ensures
    ∙ point-among c.args.minus fs (p + c.args.up - c.args.down)
    ∙ same-distance c.args.minus 10 (worth fs) (p + c.args.up - c.args.down) (length fs) c.args.up (c.args.down + length (drop (suc p) c.args.text.now))
    (omega (arith, long p c.args.text.now c.requires.0, c.if-down-whole.true))

pub returns : goal.returns
returns c =
    let p = c.args.point in
    let fs = without p c.args.text.now in
    let zeros = c.args.down - (p + c.args.up) in
    c.nearest-2.ensures
    ∙ point-before c.args.minus fs zeros
    ∙ same-distance c.args.minus 10 (worth fs) 0 (length fs + zeros) c.args.up (c.args.down + length (drop (suc p) c.args.text.now))
    (omega (arith, long p c.args.text.now c.requires.0, c.if-down-whole.false))
