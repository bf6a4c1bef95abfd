-- Figures with a decimal point placed among them, before or behind them, and the double nearest to what they say. Definitions only.
use Rattle.std.specs.Prelude.{ℕ, ◌+◌, ◌-◌, ◌*◌, ◌^◌, Bool, List, length, take, drop, Float}
use Rattle.std.specs.Float.{binary64}
use Rattle.std.specs.Float.Ieee.{round}
use Rattle.wide_decimal.specs.Figures.{worth}

-- the first `whole` figures stand before the point; where there are fewer, zeros behind them do
abbrev pub before : List ℕ → ℕ → ℕ
before figures whole = worth (take whole figures) * 10 ^ (whole - length figures)

-- behind the point stand `zeros` zeros and the other figures: how many all these are, as a power of ten
abbrev pub parts : List ℕ → ℕ → ℕ → ℕ
parts figures whole zeros = 10 ^ (length figures - whole + zeros)

-- both, in such parts, rounded once
unfoldable pub nearest_of : Bool → List ℕ → ℕ → ℕ → Float
nearest_of minus figures whole zeros =
    round binary64 minus (before figures whole * parts figures whole zeros + worth (drop whole figures)) (parts figures whole zeros)
