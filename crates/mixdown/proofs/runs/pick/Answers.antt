use lib.ListN.{get_or}
use Rattle.mixdown.specs.Runs.{InRows, no_run, advanced_by, better}
use Prim.Native.Nat.{ℕ, ◌-◌, ◌+◌}
use mathlib.Core.Path.{ap, subst}
use Rattle.mixdown.proofs.Picking.{picked_none, picked_more, better-within, none-within}
use Rattle.mixdown.proofs.Sizes.{eight-runs}
use Rattle.mixdown.specs.Runs.{picked_from}
use lib.ListN.{take, drop}
use mathlib.Core.Path.{◌≡◌, sym, ◌∙◌}
use native.Mathlib.Omega.{arith}
use Rattle.mixdown.proofs.runs.pick.Goals as goal

pub loop-k-init : goal.loop-k-init
loop-k-init c = (none-within 8192, picked_none c.args.work.now c.args.marks.now c.args.r.count c.args.r.runs)

pub loop-k-preserved : goal.loop-k-preserved
loop-k-preserved c =
    let at = c.loop-k in
    let whole = eight-runs c.args.r _ c.well_formed.0 in
    let k = at.k - 1 in
    let run = get_or c.args.r.runs k no_run in
    let here : k + 1 ≡ at.k = omega arith in
    let more = picked_more c.args.work.now c.args.marks.now c.args.r.count c.args.r.runs k (omega arith) (omega (arith, whole, c.requires.2)) in
    let is : c.better-best.result ≡ better c.args.work.now k (advanced_by c.args.marks.now run) run.end at.best = rw (c.better-best.ensures, c.advance-at.ensures) in (
      subst (InRows 8192) (sym is) (better-within c.args.work.now k (advanced_by c.args.marks.now run) run.end 8192 at.best at.invariant.0 (c.requires.3.each k)),
      is ∙ ap (better c.args.work.now k (advanced_by c.args.marks.now run) run.end) (at.invariant.1 ∙ ap (λ (n : ℕ). picked_from c.args.work.now c.args.marks.now n (drop n (take c.args.r.count c.args.r.runs))) (sym here)) ∙ more,
    )
