use Rattle.mixdown.proofs.Appeared.{among_first, among-suc, among_later, parts-length, parts_at}
use Rattle.mixdown.proofs.Sizes.{eight-places, eight-factors}
use Rattle.std.specs.Prelude.{Some, None}
use Rattle.std.specs.Option.{is_some}
use Rattle.pulse.specs.Bin.{place_of}
use Rattle.mixdown.specs.Bins.{is_among}
use Rattle.merge.specs.Taking.{Part, part, parts_in}
use Rattle.commands.specs.Play.{rows_of}
use Rattle.std.proofs.Common.{◌≡◌, ℕ, Bool, cond, refl, ◌<◌, true, false, get_or, sym, ap, ◌∙◌, arith, add-one}
use Rattle.std.specs.Float.{nan}
use Rattle.mixdown.proofs.bins.appeared.Goals as goal

told : (p : ℕ) (b : Bool) → is_some (cond b (Some p) None) ≡ b
told p true = refl
told p false = refl

pub loop-j-init : goal.loop-j-init
loop-j-init c = (omega arith, among_first c.args.t c.args.bins.now c.args.row (parts_in c.args.taking))

pub returns-then-is_some : goal.returns-then-is_some
returns-then-is_some c =
    let a = c.args in
    let none : Part = part 0 nan in
    let places = eight-places a.taking _ c.well_formed.1.0 in
    let factors = eight-factors a.taking _ c.well_formed.1.0 in
    let many = parts-length a.taking places factors c.requires.1 in
    let under : c.loop-j.j < a.taking.count = omega (arith, c.requires.2) in
    let found = sym (told (place_of a.row (rows_of a.t a.bins.now (get_or a.taking.places c.loop-j.j 0))) (is_among a.row (rows_of a.t a.bins.now (get_or a.taking.places c.loop-j.j 0)))) ∙ ap is_some (sym c.place_in.ensures) ∙ sym c.is_some.ensures ∙ c.if-is_some.true in
    let there : is_among a.row (rows_of a.t a.bins.now (get_or (parts_in a.taking) c.loop-j.j none).place) ≡ true = rw (parts_at a.taking places factors c.requires.1 c.loop-j.j none under) found in
    sym (among_later a.t a.bins.now a.row (parts_in a.taking) c.loop-j.j none (omega (arith, many, under)) a.k (omega arith) c.loop-j.invariant.1 there)

pub loop-j-preserved : goal.loop-j-preserved
loop-j-preserved c =
    let a = c.args in
    let none : Part = part 0 nan in
    let places = eight-places a.taking _ c.well_formed.1.0 in
    let factors = eight-factors a.taking _ c.well_formed.1.0 in
    let many = parts-length a.taking places factors c.requires.1 in
    let under : c.loop-j.j < a.taking.count = omega (arith, c.requires.2) in
    let found = sym (told (place_of a.row (rows_of a.t a.bins.now (get_or a.taking.places c.loop-j.j 0))) (is_among a.row (rows_of a.t a.bins.now (get_or a.taking.places c.loop-j.j 0)))) ∙ ap is_some (sym c.place_in.ensures) ∙ sym c.is_some.ensures ∙ c.if-is_some.false in
    let there : is_among a.row (rows_of a.t a.bins.now (get_or (parts_in a.taking) c.loop-j.j none).place) ≡ false = rw (parts_at a.taking places factors c.requires.1 c.loop-j.j none under) found in
    (omega arith, rw (add-one c.loop-j.j, among-suc a.t a.bins.now a.row (parts_in a.taking) c.loop-j.j none (omega (arith, many, under)), c.loop-j.invariant.1) there)
