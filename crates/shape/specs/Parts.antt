-- Document 01, "Placing and sampling", the parts of a Hann envelope: "t1 = width/2 - offset*dt, t2 = (width/2 + plateau) - offset*dt,
-- t3 = (width + plateau) - offset*dt; ceilings of each times rate give plateau start, end and length; x0 = -t1/width, dx = dt/width"; "the tail
-- starts at x2 = (fused end*dt - t2)/width". Each operation rounds once. Definitions only.
use Rattle.quant.specs.Refusal.{Answer, refuse}
use Rattle.std.specs.Prelude.{ℕ, Bool, cond, ◌&&◌, nat_le, nat_lt, Float, Result, Ok, Err}
use Rattle.quant.specs.declared.refusal.Refusal.{Refusal}
use Rattle.std.specs.Float.{binary64}
use Rattle.std.specs.Float.Ieee.{add, sub, mul, div, neg, lt, eq}
use Rattle.exact.specs.Doubles.{nought, two}
use Rattle.ieee.specs.Ceiling.{ceiling}
use Rattle.ieee.specs.Cut.{cut_of}
use Rattle.fma.specs.Fused.{fma}
use Rattle.ieee.specs.declared.cut.Cut.{Cut}
use Rattle.ieee.specs.declared.cut.Cut.TheVariants as cut
use Rattle.quant.specs.declared.refusal.Refusal.TheVariants.{ShapeTooShort, EndPastRow}
use Rattle.shape.specs.declared.parts.Parts.{Parts}
use Rattle.points.specs.Points.{number}

-- an index of what a number is cut to: the Rust's cast stops at 0 and at 2^64 - 1, and takes a NaN to 0
abbrev pub index_of : Cut → ℕ
index_of (cut.Index n) = n
index_of cut.Below = 0
index_of cut.Above = 18446744073709551615
index_of cut.NotANumber = 0

-- ceil(t*rate)
unfoldable pub index_at : Float → Float → ℕ
index_at t rate = index_of (cut_of (ceiling (mul binary64 t rate)))

-- ---- of a width, a plateau, an offset in samples, a rate and dt
module _ (width plateau offset rate dt : Float) where
  abbrev pub t1 : Float
  t1 = sub binary64 (div binary64 width two) (mul binary64 offset dt)

  abbrev pub t2 : Float
  t2 = sub binary64 (add binary64 (div binary64 width two) plateau) (mul binary64 offset dt)

  abbrev pub t3 : Float
  t3 = sub binary64 (add binary64 width plateau) (mul binary64 offset dt)

  abbrev pub x0 : Float
  x0 = div binary64 (neg t1) width

  abbrev pub dx : Float
  dx = div binary64 dt width

  abbrev pub x2 : ℕ → Float
  x2 end = div binary64 (fma binary64 (number end) dt (neg t2)) width

  -- of n points: with a plateau of either zero all are of the head
  abbrev pub unbroken : ℕ → Parts
  unbroken n = record { x0 = x0; dx = dx; x2 = x0; start = n; end = n; length = n }

  abbrev pub broken : ℕ → Parts
  broken n = record { x0 = x0; dx = dx; x2 = x2 (index_at t2 rate); start = index_at t1 rate; end = index_at t2 rate; length = n }

-- start, end and length in this order. So they are for every pulse with a shape: its width and its plateau are not below 0, so t1 is at most t2
-- and that at most t3, and rounding and ceilings keep the order (proofs/Rising.antt). Other doubles are refused as an end that is past the row.
abbrev pub in_order : ℕ → ℕ → ℕ → Bool
in_order start end length = nat_le start end && nat_le end length

abbrev pub ordered : Parts → Result Parts Refusal
ordered p = cond (in_order p.start p.end p.length) (Ok p) (Err EndPastRow)

-- 11 where t1 < 0, then 12 where the envelope has more samples than there is room for, which is so where its end overflows
unfoldable pub parted_of : Float → Float → Float → Float → Float → ℕ → Result Parts Refusal
parted_of width plateau offset rate dt room =
    let n = index_at (t3 width plateau offset rate dt) rate in
    cond (lt (t1 width plateau offset rate dt) nought) (Err ShapeTooShort)
    (cond (nat_lt room n) (Err EndPastRow)
    (cond (eq plateau nought) (Ok (unbroken width plateau offset rate dt n)) (ordered (broken width plateau offset rate dt n))))

-- what the cases answer
abbrev pub parted_answer : Result Parts Refusal → Answer
parted_answer (Ok p) = Ok 0
parted_answer (Err r) = refuse r 0
