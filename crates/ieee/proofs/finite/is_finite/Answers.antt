-- `ieee::finite::is_finite` meets its contract: only what is finite lies between the infinities, by cases on x. Assumes nothing.
use Rattle.std.proofs.Common.{◌≡◌, true, false, sym, refl, ◌∙◌, true≢false}
use lib.Ieee.{Float, nan, inf, fin, lt, of_bits}
use lib.Ieee.Scale.{finite}
use Rattle.ieee.proofs.finite.is_finite.Goals as goal

above : (x : Float) → lt (inf true) x ≡ true → lt x (inf false) ≡ finite x
unfolding lt
above nan h = refl
above (inf true) h = absurd (true≢false (sym h))
above (inf false) h = refl
above (fin s m e) h = refl

not-above : (x : Float) → lt (inf true) x ≡ false → false ≡ finite x
unfolding lt
not-above nan h = refl
not-above (inf s) h = refl
not-above (fin s m e) h = absurd (true≢false h)

pub returns-then-x : goal.returns-then-x
unfolding of_bits
returns-then-x c = above c.args.x c.if-x.true

pub returns-else-x : goal.returns-else-x
unfolding of_bits
returns-else-x c = c.if-x.false ∙ not-above c.args.x c.if-x.false
