use Rattle.std.proofs.Common.{◌≡◌, sym, ◌∙◌, rules}
use Rattle.shape.specs.Parts.{parted_of}
use Rattle.shape.specs.Envelope.{least}
use Rattle.shape.proofs.Filling.{least-right, within-fits, fits_more}
use Rattle.shape.proofs.envelope.measure.Goals as goal

pub count-requires : goal.count-requires
count-requires c =
    let a = c.args in
    let n = least a.room 65536 in
    let parts : c.lay_out.result ≡ parted_of a.width.0 a.plateau.0 a.offset a.rate.0 a.dt.0 n = search rules in
    fits_more _ n 65536 (least-right a.room 65536) (within-fits n _ a.width.0 a.plateau.0 a.offset a.rate.0 a.dt.0 (sym parts ∙ c.in_ok-p.was))
