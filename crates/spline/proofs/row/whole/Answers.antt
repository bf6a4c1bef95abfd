use Rattle.std.proofs.Common.{◌≡◌, sym, ap, ◌∙◌, ⊎_elim}
use lib.Ieee.{Float}
use Rattle.ieee.specs.Cut.{cut_of}
use Rattle.ieee.specs.declared.cut.Cut.{Cut}
use Rattle.spline.specs.Value.{number_of, whole_of}
use Rattle.spline.proofs.row.whole.Goals as goal

was : (x : Float) (k : Cut) → cut_of x ≡ k → number_of k ≡ whole_of x
unfolding whole_of
was x k e = sym (ap number_of e)

pub returns-in-Index : goal.returns-in-Index
returns-in-Index c = was c.args.x _ (sym c.cut_off.ensures ∙ c.in-Index.is)

pub returns-in-Below : goal.returns-in-Below
returns-in-Below c =
    let e = c.cut_off.ensures in
    ⊎_elim (λ q. was c.args.x _ (sym e ∙ q)) (⊎_elim (λ q. was c.args.x _ (sym e ∙ q)) (λ q. was c.args.x _ (sym e ∙ q))) c.in-Below.is
