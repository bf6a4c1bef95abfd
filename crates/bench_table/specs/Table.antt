-- Document 01, "Bench examples": the lines B1 to B9 in its order and its numbers, at rate 1 and delay 0; `whole 5` is 5, `over 225 100` is 2.25. Above
-- each row stands the document's text. Where that names no plateau the pulse has one sample, and where it names no length the row has 16. That every
-- row holds is `bench_table` (proofs/Table.antt). Definitions only.
use Rattle.std.specs.Prelude.{◌+◌, ◌-◌, ◌^◌, List, [], ◌∷◌, pos, neg_ℤ}
use Rattle.std.specs.Float.Ieee.{neg}
use Rattle.bench_table.specs.Numbers.{over, whole, wholes}
use Rattle.bench_table.specs.Pulses.{start, accepted, refusal}
use Rattle.bench_table.specs.Steps.{SetFreq, SetPhase, ShiftFreq}
use Rattle.bench_table.specs.Line.{Line, placing, filtering, shaping, fusing, merging, turning}

abbrev pub table : List Line
table =
    -- B1 time 2.25: level 0 start 3, offset 0; level -2 start 2, offset 0.75.
    placing (record { plateau = whole 1; length = 16; level = pos 0; time = over 225 100; says = start 3 (whole 0) })
    ∷ placing (record { plateau = whole 1; length = 16; level = neg_ℤ (pos 2); time = over 225 100; says = start 2 (over 75 100) })
    -- B2 time 5, level 2: start 8.
    ∷ placing (record { plateau = whole 1; length = 16; level = pos 2; time = whole 5; says = start 8 (whole 0) })
    -- B3 time -0.5, level 0: start 0; -1: refusal 9.
    ∷ placing (record { plateau = whole 1; length = 16; level = pos 0; time = neg (over 5 10); says = start 0 (whole 0) })
    ∷ placing (record { plateau = whole 1; length = 16; level = pos 0; time = neg (whole 1); says = refusal 9 })
    -- B4 no shape, plateau 0, length 8, level 0: time 7 accepted, 8 refusal 10.
    ∷ placing (record { plateau = whole 0; length = 8; level = pos 0; time = whole 7; says = accepted })
    ∷ placing (record { plateau = whole 0; length = 8; level = pos 0; time = whole 8; says = refusal 10 })
    -- B5 section 1 2 3 1 0 0 on 1 0 0 0: 1 2 3 0.
    ∷ filtering (record { section = wholes (1 ∷ 2 ∷ 3 ∷ 1 ∷ 0 ∷ 0 ∷ []); row = wholes (1 ∷ 0 ∷ 0 ∷ 0 ∷ []); gives = wholes (1 ∷ 2 ∷ 3 ∷ 0 ∷ []) })
    -- B6 offset 0.75, plateau 0: Hann width 1 refusal 11, width 1.5 accepted. (The offset is that of B1's second row.)
    ∷ shaping (record { length = 16; level = neg_ℤ (pos 2); time = over 225 100; offset = over 75 100; plateau = whole 0; width = whole 1; says = refusal 11 })
    ∷ shaping (record { length = 16; level = neg_ℤ (pos 2); time = over 225 100; offset = over 75 100; plateau = whole 0; width = over 15 10; says = accepted })
    -- B7 fused (1+2^-52)*(1-2^-52) - 1 = -2^-104.
    ∷ fusing (record { x = over (2 ^ 52 + 1) (2 ^ 52); y = over (2 ^ 52 - 1) (2 ^ 52); z = neg (whole 1); gives = neg (over 1 (2 ^ 104)) })
    -- B8 times 0, 0.5, 1, tolerance 0.5: kept 0 and 1. (0.5 is added to 0.)
    ∷ merging (record { times = whole 0 ∷ over 5 10 ∷ whole 1 ∷ []; tolerance = over 5 10; kept = (whole 0 ∷ over 5 10 ∷ []) ∷ (whole 1 ∷ []) ∷ [] })
    -- B9 base 5: SetFreq 2 at 3, SetPhase 1 at 4, ShiftFreq -1 at 2: phases -6, -7, -5.
    ∷ turning
    (record {
      base = whole 5;
      turns =
          record { turn = SetFreq (whole 2); at = whole 3; phase = neg (whole 6) }
          ∷ record { turn = SetPhase (whole 1); at = whole 4; phase = neg (whole 7) }
          ∷ record { turn = ShiftFreq (neg (whole 1)); at = whole 2; phase = neg (whole 5) }
          ∷ [];
    })
    ∷ []
