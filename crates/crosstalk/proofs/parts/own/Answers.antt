use Rattle.crosstalk.proofs.Pushing.{packed-none, one-pushed}
use mathlib.Core.Path.{◌≡◌}
use mathlib.Core.List.{[]}
use Rattle.exact.specs.Doubles.{nought, one}
use Rattle.tables.specs.Tables.{found}
use Rattle.merge.specs.Taking.{packed}
use Rattle.crosstalk.proofs.parts.own.Goals as goal

pub returns : goal.returns
returns c =
    let a = c.args in
    let z = c.default.ensures in
    let none : c.default.result ≡ packed [] = packed-none _ z.0 z.1.0.long (λ i h. z.1.0.at i 0 h) z.1.1.long (λ i h. z.1.1.at i nought h) in
    rw (c.with_part.ensures, c.find.ensures, none) (one-pushed (found a.t a.channel) one)
