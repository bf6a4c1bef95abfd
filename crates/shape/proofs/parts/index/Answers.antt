use Rattle.std.proofs.Common.{◌≡◌, sym, ap, ◌∙◌, ⊎_elim}
use lib.Ieee.{Float, binary64, mul}
use Rattle.ieee.specs.Ceiling.{ceiling}
use Rattle.ieee.specs.Cut.{cut_of}
use Rattle.ieee.specs.declared.cut.Cut.{Cut}
use Rattle.shape.specs.Parts.{index_of, index_at}
use Rattle.shape.proofs.parts.index.Goals as goal

was : (t rate y : Float) (k : Cut) → y ≡ ceiling (mul binary64 t rate) → cut_of y ≡ k → index_of k ≡ index_at t rate
unfolding index_at
was t rate y k e f = sym (ap index_of (ap cut_of (sym e) ∙ f))

pub returns-in-Index : goal.returns-in-Index
returns-in-Index c = was c.args.t c.args.rate _ _ c.ceil.ensures (sym c.cut_off.ensures ∙ c.in-Index.is)

pub returns-in-Below : goal.returns-in-Below
returns-in-Below c =
    let cut = sym c.cut_off.ensures in
    let a = c.args in
    ⊎_elim (λ q. was a.t a.rate _ _ c.ceil.ensures (cut ∙ q)) (λ q. was a.t a.rate _ _ c.ceil.ensures (cut ∙ q)) c.in-Below.is

pub returns-in-Above : goal.returns-in-Above
returns-in-Above c = was c.args.t c.args.rate _ _ c.ceil.ensures (sym c.cut_off.ensures ∙ c.in-Above.is)
