-- Document 01, IIR: "None change no row, one to four run as `IirPipeline`, more as the cascade". A row through sections, as the Rust's
-- src/pulse/iir.rs runs them. Definitions only.
use Rattle.std.specs.Prelude.{cond, List, [], ◌∷◌, ◌++◌, leb, eqb, length, drop, replicate, Float}
use Rattle.exact.specs.Doubles.{nought}
use Rattle.iir.specs.declared.biquad.Biquad.{Biquad}
use Rattle.iir.specs.Section.{ran}

-- what the last section gave; with no section, x itself
unfoldable pub given : Float → List Biquad → Float
given x [] = x
given x (b ∷ bs) = given b.y bs

-- ---- the cascade: each sample goes through all sections, in order

-- each section takes what the one before it has just given
unfoldable pub cascaded : List Biquad → Float → List Biquad
cascaded [] x = []
cascaded (b ∷ bs) x = ran b x ∷ cascaded bs (ran b x).y

unfoldable pub cascade : List Biquad → List Float → List Float
cascade bs [] = []
cascade bs (x ∷ xs) = given x (cascaded bs x) ∷ cascade (cascaded bs x) xs

-- ---- the pipeline of N sections: the sections are run from the last to the first, for N turns more than there are samples

-- each section takes what the one before it gave the turn before
unfoldable pub pipelined : List Biquad → Float → List Biquad
pipelined [] x = []
pipelined (b ∷ bs) x = ran b x ∷ pipelined bs b.y

-- the output of each turn: what the last section gave the turn before
unfoldable pub turns : List Biquad → List Float → List Float
turns bs [] = []
turns bs (x ∷ xs) = given x bs ∷ turns (pipelined bs x) xs

-- the input is 0.0 past the end, and the output of turn t is sample t - N
abbrev pub pipeline : List Biquad → List Float → List Float
pipeline bs xs = drop (length bs) (turns bs (xs ++ replicate (length bs) nought))

-- ---- a row through any number of sections

abbrev pub filtered : List Biquad → List Float → List Float
filtered bs xs = cond (eqb (length bs) 0) xs (cond (leb (length bs) 4) (pipeline bs xs) (cascade bs xs))
