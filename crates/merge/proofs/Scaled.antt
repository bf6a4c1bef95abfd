-- A factor of 1.0 leaves a list as it is. Assumes nothing.
use mathlib.Core.Path.{◌≡◌, refl}
use mathlib.Core.List.{List, [], ◌∷◌, map}
use lib.Dec.{T}
use lib.Ieee.{binary64, fits}
use Rattle.exact.specs.Doubles.{one}
use Rattle.exact.proofs.Unit.{times-one}
use Rattle.pulse.specs.declared.list.Pulse.{Pulse}
use Rattle.merge.specs.Sum.{scaled_p}

-- amp and drag are numbers of binary64, as every f64 of the code is
pub record Fitting (p : Pulse) : Type 0 where
  pub amp-re : T (fits binary64 p.amp.re)
  pub amp-im : T (fits binary64 p.amp.im)
  pub drag-re : T (fits binary64 p.drag.re)
  pub drag-im : T (fits binary64 p.drag.im)

abbrev pub AllFitting : List Pulse → Type 0
AllFitting [] = Unit {0}
AllFitting (p ∷ ps) = Fitting p × AllFitting ps

pub scaled-one : (p : Pulse) → Fitting p → scaled_p one p ≡ p
scaled-one p f = rw (times-one p.amp.re f.amp-re, times-one p.amp.im f.amp-im, times-one p.drag.re f.drag-re, times-one p.drag.im f.drag-im)

pub scaled-by-one : (ps : List Pulse) → AllFitting ps → map (scaled_p one) ps ≡ ps
scaled-by-one [] f = refl
scaled-by-one (p ∷ ps) f = λ i. scaled-one p f.0 i ∷ scaled-by-one ps f.1 i
