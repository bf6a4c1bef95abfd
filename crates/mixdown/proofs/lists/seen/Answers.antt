-- `mixdown::lists::seen` meets its contract. Assumes nothing.
use Rattle.mixdown.proofs.Held.{rows-many, rows-first}
use Rattle.mixdown.proofs.Numbers.{row-whole}
use Rattle.mixdown.proofs.Appeared.{among-append}
use Rattle.mixdown.specs.Bins.{all_rows}
use Rattle.tables.proofs.Sizes.{eight_channels}
use Rattle.merge.specs.Taking.{parts_in}
use Rattle.commands.specs.Play.{rows_of}
use Rattle.pulse.specs.Bin.{place_of}
use lib.Seq.{length-take-le}
use lib.ListN.{length, take, drop}
use lib.Dec.{ltb}
use lib.Ieee.{Float}
use Prim.Native.Nat.{ℕ, ◌+◌, ◌*◌, ◌-◌}
use mathlib.Core.List.{List}
use mathlib.Core.Path.{◌≡◌, refl, sym, ap, ◌∙◌}
use native.Mathlib.Omega.{arith}
use Rattle.mixdown.proofs.lists.seen.Goals as goal

pub returns-then-appeared : goal.returns-then-appeared
returns-then-appeared c =
    let earlier : List (List Float) = all_rows c.args.t c.args.bins.now (take c.args.k (parts_in c.args.taking)) in
    let its : List (List Float) = rows_of c.args.t c.args.bins.now c.args.at in
    sym (among-append c.args.row earlier (take c.args.p its) ∙ rw (sym c.appeared.ensures ∙ c.if-appeared.true) refl)

pub returns : goal.returns
returns c =
    let earlier : List (List Float) = all_rows c.args.t c.args.bins.now (take c.args.k (parts_in c.args.taking)) in
    let its : List (List Float) = rows_of c.args.t c.args.bins.now c.args.at in
    let many : length (take c.args.p its) ≡ c.args.p = length-take-le c.args.p its (let h = rows-many c.args.t c.args.bins.now c.args.at (eight_channels c.args.t _ c.well_formed.0) c.requires.0 in omega (arith, h, c.requires.4)) in
    let a = c.args in
    let size : 64 * a.at + a.p - 64 * a.at ≡ a.p = omega arith in
    let row = row-whole a.row c.well_formed.1.1.1.1.1.1.0.1.0.1 _ c.head_in.ensures in
    let found : c.place.result ≡ place_of a.row (take a.p its) =
    c.place.ensures
    ∙ ap (λ (l : List Float). place_of l (take (64 * a.at + a.p - 64 * a.at) (drop (64 * a.at) a.bins.now))) row
    ∙ ap (λ (n : ℕ). place_of a.row (take n (drop (64 * a.at) a.bins.now))) size
    ∙ ap (place_of a.row) (rows-first a.t a.bins.now a.at a.p c.requires.4) in
    ap (λ (n : ℕ). ltb n a.p) found
    ∙ ap (ltb (place_of a.row (take a.p its))) (sym many)
    ∙ sym (among-append a.row earlier (take a.p its) ∙ rw (sym c.appeared.ensures ∙ c.if-appeared.false) refl)
