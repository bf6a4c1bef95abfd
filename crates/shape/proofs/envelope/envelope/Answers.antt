use Rattle.std.proofs.Common.{◌≡◌, ℕ, min, length, sym, ◌∙◌, rules}
use Rattle.shape.specs.Parts.{parted_of}
use Rattle.shape.specs.Envelope.{least, limit_of}
use Rattle.shape.proofs.Filling.{least-is, within-fits, fits_more, limit-scratch, limit-row}
use Rattle.shape.proofs.envelope.envelope.Goals as goal

-- the parts, in the room as it is cut
cut : (room n : ℕ) {m k : ℕ} → m ≡ min room n → k ≡ min m 65536 → k ≡ limit_of room n
cut room n e f = rw (f, e, least-is room n, least-is (least room n) 65536)

pub fill-requires : goal.fill-requires
fill-requires c =
    let a = c.args in
    let long = length a.scratch.now in
    let n = limit_of a.room long in
    let parts : c.lay_out.result ≡ parted_of a.width.0 a.plateau.0 a.offset a.rate.0 a.dt.0 n = rw (← cut _ _ c.min.ensures c.min-limit.ensures) c.lay_out.ensures in
    let fit = within-fits n _ a.width.0 a.plateau.0 a.offset a.rate.0 a.dt.0 (sym parts ∙ c.in_ok-p.was) in
    (fits_more _ n _ (limit-scratch a.room long) fit, fits_more _ n _ (limit-row a.room long) fit)

pub returns-in_err-p-clause-value : goal.returns-in_err-p-clause-value
returns-in_err-p-clause-value c = rw (← cut _ _ c.min.ensures c.min-limit.ensures, ← c.lay_out.ensures, c.in_err-p.was) (search rules)
