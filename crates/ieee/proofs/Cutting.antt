-- Laws of `cut_of`, by the fraction that a number equals: it sees only the number's sign and whole part. Assumes nothing.
use Rattle.std.proofs.Common.{◌≡◌, ℕ, ◌*◌, ◌/◌, ◌^◌, ◌<◌, ◌≤◌, Bool, true, false, cond, T, ap, ◌∙◌, div-one, pow_pos, le-ltb, lt-ltb, ne_eqb}
use lib.Ieee.{Float, fin, binary64, up, down, fits, inf, nan}
use lib.Ieee.Fits.{down_pos}
use lib.Ieee.Exact.{HasValue}
use lib.Ieee.Nearest.{div_same}
use Rattle.ieee.specs.declared.cut.Cut.TheVariants.{Index, Below, Above}
use Rattle.ieee.specs.Cut.{index_of, cut_of}
use Rattle.ieee.specs.Ceiling.{whole_above, ceiling}
use Rattle.ieee.proofs.Ceiling.{value}

pub index-within : (w : ℕ) → w < 2 ^ 64 → index_of false w ≡ Index w
index-within w h = ap (λ (b : Bool). cond b (Index w) Above) (lt-ltb w (2 ^ 64) h)

pub index-above : (w : ℕ) → 2 ^ 64 ≤ w → index_of false w ≡ Above
index-above w h = ap (λ (b : Bool). cond b (Index w) Above) (le-ltb w (2 ^ 64) h)

pub index_below : (w : ℕ) → (w ≡ 0 → ⊥) → index_of true w ≡ Below
index_below w h = ap (λ (b : Bool). cond b (Index 0) Below) (ne_eqb w 0 h)

-- the size of x may be any fraction that it equals
pub cut-value : (x : Float) (s : Bool) (a c : ℕ) → 0 < c → HasValue x s a c → cut_of x ≡ index_of s (a / c)
unfolding cut_of
cut-value (fin t m e) s a c C v = ap (λ (b : Bool). index_of b (m * up e / down e)) v.0 ∙ ap (index_of s) (div_same (m * up e) (down e) a c (down_pos e) C v.1)
cut-value nan s a c C v = elim v [ ]
cut-value (inf _) s a c C v = elim v [ ]

-- a number that is not negative, with its whole part below 2 ^ 64
pub cut-within : (x : Float) (a c : ℕ) → 0 < c → HasValue x false a c → a / c < 2 ^ 64 → cut_of x ≡ Index (a / c)
cut-within x a c C v h = cut-value x false a c C v ∙ index-within (a / c) h

pub cut-natural : (x : Float) (n : ℕ) → HasValue x false n 1 → n < 2 ^ 64 → cut_of x ≡ Index n
cut-natural x n v h = cut-value x false n 1 (pow_pos 0) v ∙ ap (index_of false) (div-one n) ∙ index-within n h

-- the ceiling of one
pub cut-ceiling : (x : Float) (a d : ℕ) → 0 < d → T (fits binary64 x) → HasValue x false a d → whole_above a d < 2 ^ 64 → cut_of (ceiling x) ≡ Index (whole_above a d)
cut-ceiling x a d D f v h = cut-natural (ceiling x) (whole_above a d) (value x false a d D f v) h
