-- The two ways to a decimal: one product or one quotient of doubles, and figures of any count with their point moved. Definitions only.
use Rattle.std.specs.Prelude.{ℕ, suc, ◌+◌, ◌-◌, Bool, true, ◌&&◌, cond, List, [], ◌∷◌, ◌++◌, leb, ltb, length, take, drop, Option, Some, None, Float}
use Rattle.decimal.specs.Digits.{place_of, digit_of}
use Rattle.decimal.specs.Number.{scaled_by}

-- where the power of ten is a double too
unfoldable pub quick_by : Bool → ℕ → ℕ → ℕ → Option Float
quick_by s n up down = cond (leb (up - down) 22 && leb (down - up) 22) (Some (scaled_by s 10 n up down)) None

-- whether all bytes are figures
unfoldable pub figures_in : List ℕ → Bool
figures_in [] = true
figures_in (b ∷ bs) = ltb (digit_of b) 10 && figures_in bs

-- whether all but the first point are, and there is one
unfoldable pub pointed_in : List ℕ → Bool
pointed_in text =
    leb 1 (length (take (place_of 46 text) text) + length (drop (suc (place_of 46 text)) text)) && figures_in (take (place_of 46 text) text ++ drop (suc (place_of 46 text)) text)
