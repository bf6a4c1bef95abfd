-- The pipeline is the cascade from other states: those in which the turns before the first sample leave the sections. In such a turn a
-- section takes what the one before it gave the turn before, and the zeros past the end of the row reach no sample. Assumes nothing.
use Prim.Native.Nat.{suc, ◌+◌, ◌/◌}
use native.Mathlib.Omega.{arith}
use mathlib.Core.Path.{◌≡◌, refl, sym, ap, ◌∙◌}
use mathlib.Core.List.{List, [], ◌∷◌, ◌++◌}
use lib.ListN.{length, take, drop, replicate, length-append, length-replicate}
use lib.Seq.{take_at, drop_at}
use lib.Ieee.{Float}
use Rattle.exact.specs.Doubles.{nought}
use Rattle.iir.specs.declared.biquad.Biquad.{Biquad}
use Rattle.iir.specs.Section.{ran, section_at, sections_from, sections_of}
use Rattle.iir.specs.Filter.{given, cascade, pipelined, turns, pipeline, filtered}
use Rattle.iir.specs.Flight.{through}
use Rattle.iir.proofs.Cascade.{passed, in_turn}

-- ---- what each turn gives, and the turns after the last

-- the last outputs of the sections, each still to come to the one after it, in front of all samples
abbrev flow : List Biquad → List Float → List Float
flow [] xs = xs
flow (b ∷ bs) xs = flow bs (b.y ∷ through b xs)

flow_turn : (bs : List Biquad) (x : Float) (xs : List Float) → flow bs (x ∷ xs) ≡ given x bs ∷ flow (pipelined bs x) xs
unfolding given pipelined through
flow_turn [] x xs = refl
flow_turn (b ∷ bs) x xs = flow_turn bs b.y (through b (x ∷ xs))

turns_flow : (bs : List Biquad) (xs : List Float) → turns bs xs ≡ take (length xs) (flow bs xs)
unfolding turns
turns_flow bs [] = refl
turns_flow bs (x ∷ xs) = rw (flow_turn bs x xs) (ap (λ (l : List Float). given x bs ∷ l) (turns_flow (pipelined bs x) xs))

-- ---- a row in two parts

-- a section after the samples xs
abbrev pub ran_all : Biquad → List Float → Biquad
ran_all b [] = b
ran_all b (x ∷ xs) = ran_all (ran b x) xs

through-append : (b : Biquad) (xs ys : List Float) → through b (xs ++ ys) ≡ through b xs ++ through (ran_all b xs) ys
unfolding through
through-append b [] ys = refl
through-append b (x ∷ xs) ys = ap (λ (l : List Float). (ran b x).y ∷ l) (through-append (ran b x) xs ys)

-- the sections once the first has taken xs, and each of the others what the one before it gave: its last output, and then one for each
-- that it took
abbrev pub warmed : List Float → List Biquad → List Biquad
warmed xs [] = []
warmed xs (b ∷ bs) = ran_all b xs ∷ warmed (b.y ∷ through b xs) bs

flow_append : (bs : List Biquad) (xs ys : List Float) → flow bs (xs ++ ys) ≡ flow bs xs ++ passed (warmed xs bs) ys
flow_append [] xs ys = refl
flow_append (b ∷ bs) xs ys =
    ap (λ (l : List Float). flow bs (b.y ∷ l)) (through-append b xs ys)
    ∙ flow_append bs (b.y ∷ through b xs) (through (ran_all b xs) ys)

-- ---- lengths

length-through : (b : Biquad) (xs : List Float) → length (through b xs) ≡ length xs
unfolding through
length-through b [] = refl
length-through b (x ∷ xs) = ap suc (length-through (ran b x) xs)

length_flow : (bs : List Biquad) (xs : List Float) → length (flow bs xs) ≡ length bs + length xs
length_flow [] xs = omega arith
length_flow (b ∷ bs) xs = length_flow bs (b.y ∷ through b xs) ∙ omega (arith, length-through b xs)

-- ---- the pipeline

-- its turns give what flows, up to the last sample
pipeline_flow : (bs : List Biquad) (xs : List Float) → turns bs (xs ++ replicate (length bs) nought) ≡ flow bs xs
pipeline_flow bs xs =
    let zs = replicate (length bs) nought in
    let count : length (flow bs xs) ≡ length (xs ++ zs) = omega (arith, length_flow bs xs, length-append xs zs, length-replicate (length bs) nought) in
    turns_flow bs (xs ++ zs)
    ∙ ap (λ (l : List Float). take (length (xs ++ zs)) l) (flow_append bs xs zs)
    ∙ take_at (flow bs xs) (passed (warmed xs bs) zs) (length (xs ++ zs)) count

pub pipeline-cascade : (bs : List Biquad) (xs : List Float) → pipeline bs xs ≡ cascade (warmed [] bs) xs
pipeline-cascade bs xs =
    let count : length (flow bs []) ≡ length bs = omega (arith, length_flow bs []) in
    ap (λ (l : List Float). drop (length bs) l) (pipeline_flow bs xs ∙ flow_append bs [] xs)
    ∙ drop_at (flow bs []) (passed (warmed [] bs) xs) (length bs) count
    ∙ sym (in_turn (warmed [] bs) xs)

-- a list of one section
pub alone : (l xs : List Float) → length l / 6 ≡ 1 → through (section_at l 0) xs ≡ filtered (sections_of l) xs
unfolding sections_from
alone l xs one = let first = section_at l 0 in rw one (sym (pipeline-cascade (first ∷ []) xs ∙ in_turn (first ∷ []) xs))
