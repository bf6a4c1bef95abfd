use Rattle.mixdown.proofs.Starting.{run-end, start-more, start-done}
use Rattle.mixdown.proofs.Joining.{within-set}
use Rattle.mixdown.proofs.Appeared.{parts-length, parts_at}
use Rattle.mixdown.proofs.Sizes.{eight-places, eight-factors, eight-ends}
use Rattle.mixdown.specs.Starts.{target_of, run_for, runs_for_from}
use Rattle.mixdown.specs.declared.runs.Run.{Run}
use Rattle.commands.specs.Play.{rows_of}
use Rattle.merge.specs.Taking.{Part, part, parts_in}
use lib.ListN.{set, length-set}
use Rattle.std.specs.Float.{nan}
use Rattle.std.proofs.Common.{◌≡◌, ℕ, ◌+◌, ◌++◌, take, drop, get_or, refl, sym, ap, ◌∙◌, arith}
use Rattle.mixdown.proofs.bins.runs_for.Goals as goal

pub loop-k-preserved : goal.loop-k-preserved
loop-k-preserved c =
    let a = c.args in
    let at = c.loop-k in
    let none : Part = part 0 nan in
    let places = eight-places a.taking _ c.well_formed.1.0 in
    let factors = eight-factors a.taking _ c.well_formed.1.0 in
    let ended = eight-ends a.ends _ c.well_formed.1.1.0 in
    let many = parts-length a.taking places factors c.requires.2 in
    let p = get_or (parts_in a.taking) at.k none in
    let e = get_or a.ends.ends at.k 0 in
    let one = parts_at a.taking places factors c.requires.2 at.k none (omega arith) in
    let made : c.run_for.result ≡ run_for a.marks.now (target_of (rows_of a.t a.bins.now p.place) a.row) at.begin e p.factor = rw (one, c.run_for.ensures, c.place_in-found.ensures) refl in (
      omega arith,
      length-set at.runs at.k c.run_for.result ∙ at.invariant.1,
      within-set at.runs at.k c.run_for.result (rw (made, run-end a.marks.now (target_of (rows_of a.t a.bins.now p.place) a.row) at.begin e p.factor) (c.requires.3.each at.k)) at.invariant.2,
      ap (λ (r : Run). take (at.k + 1) (set at.runs at.k r) ++ runs_for_from a.t a.bins.now a.marks.now a.row e (drop (at.k + 1) (parts_in a.taking)) (drop (at.k + 1) a.ends.ends)) made
          ∙ start-more a.t a.bins.now a.marks.now a.row (parts_in a.taking) a.ends.ends at.runs at.begin at.k none (omega (arith, many)) (omega (arith, ended, c.requires.2)) (omega (arith, at.invariant.1, c.requires.2))
          ∙ at.invariant.3,
    )

pub returns : goal.returns
returns c =
    let a = c.args in
    let at = c.loop-k in
    let many = parts-length a.taking (eight-places a.taking _ c.well_formed.1.0) (eight-factors a.taking _ c.well_formed.1.0) c.requires.2 in
    let all : at.k ≡ a.taking.count = omega arith in
    (ap (λ (n : ℕ). take n at.runs) (sym all) ∙ (sym (start-done a.t a.bins.now a.marks.now a.row (parts_in a.taking) a.ends.ends at.runs at.begin at.k (omega (arith, many))) ∙ at.invariant.3), c.requires.2, at.invariant.2)
