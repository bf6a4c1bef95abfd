-- Document 01, "Sizes": what is lent to a sampling call. Definitions only.
use Rattle.std.specs.Prelude.{ℕ, Bool, ◌&&◌, leb, eqb}
use Rattle.rows.specs.Rows.{rows_fit}

-- "1 or 2 rows of equal length 0..65,536"; "a lent scratch no shorter than the row"; "64 bins and 1,024 stored pulses a channel", of eight
-- channels; and as many work rows and marks as pulses
abbrev pub sizes_fit : ℕ → ℕ → ℕ → ℕ → ℕ → ℕ → ℕ → ℕ → Bool
sizes_fit rows i q scratch bins pulses work marks =
    rows_fit rows i q && leb i scratch && eqb bins 512 && eqb pulses 8192 && eqb work 8192 && eqb marks 8192
