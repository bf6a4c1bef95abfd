-- `decimal::scale::pointed` meets its contract: both parts, one after the other. Assumes nothing.
use Prim.Native.Nat.{ℕ, suc, min, ◌+◌, ◌-◌, ◌≤◌, ◌<◌}
use mathlib.Core.Path.{◌≡◌, sym, ◌∙◌}
use mathlib.Core.Bool.{◌&&◌}
use mathlib.Core.List.{List}
use Rattle.decimal.proofs.Places.{rest_part}
use native.Mathlib.Omega.{arith}
use borrow.Author.Tests.{le-leb, lt-leb}
use lib.ListN.{length, take, drop}
use Rattle.decimal.specs.Digits.{place_of}
use Rattle.decimal.specs.Ways.{figures_in, pointed_in}
use Rattle.decimal.proofs.Cutting.{reach, front, front-part, back-part, count}
use Rattle.decimal.proofs.Moving.{figures-both}
use Rattle.decimal.proofs.scale.pointed.Goals as goal

-- with one digit at least, both parts decide
both : (text : List ℕ) (p q : ℕ) → p ≡ place_of 46 text → q ≡ min (p + 1) (length text) → 1 ≤ p + (length text - q)
    → pointed_in text ≡ figures_in (take p text) && figures_in (drop q text)
unfolding pointed_in
both text p q e f h =
    let some : 1 ≤ length (take (place_of 46 text) text) + length (drop (suc (place_of 46 text)) text) = rw (count text p q e f) h in
    simp (le-leb 1 (length (take (place_of 46 text) text) + length (drop (suc (place_of 46 text)) text)) some)
    (rw (front-part text p q e f, back-part text p q e f) (figures-both (take p text) (drop q text)))

pub behind-next-requires : goal.behind-next-requires
behind-next-requires c = reach 46 c.args.text.now c.args.point c.requires

pub returns-then-point-text-lt1 : goal.returns-then-point-text-lt1
unfolding pointed_in
returns-then-point-text-lt1 c =
    let text = c.args.text.now in
    let few : length (take (place_of 46 text) text) + length (drop (suc (place_of 46 text)) text) < 1 = rw (count text c.args.point c.behind-next.result c.requires c.behind-next.ensures) (omega arith) in
    simp (lt-leb 1 (length (take (place_of 46 text) text) + length (drop (suc (place_of 46 text)) text)) few)

pub slice_bounds-all_figures-end : goal.slice_bounds-all_figures-end
slice_bounds-all_figures-end c =
    front 46 c.args.text.now c.args.point c.requires

pub returns-then-all_figures : goal.returns-then-all_figures
returns-then-all_figures c =
    let text = c.args.text.now in
    rw (both text _ _ c.requires c.behind-next.ensures (omega arith), sym c.all_figures.ensures ∙ c.if-all_figures.true, ← rest_part text c.behind-next.result) c.all_figures-then-all_figures.ensures

pub returns-else-all_figures : goal.returns-else-all_figures
returns-else-all_figures c =
    rw (both c.args.text.now _ _ c.requires c.behind-next.ensures (omega arith), sym c.all_figures.ensures ∙ c.if-all_figures.false) c.if-all_figures.false
