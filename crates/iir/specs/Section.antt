-- Document 01, IIR: a second-order section; and document 02, P5: "each section is b0 b1 b2 a0 a1 a2 and a0 must be 1". Definitions only.
use Rattle.quant.specs.Refusal.{Answer, refuse}
use Rattle.std.specs.Prelude.{ℕ, zero, suc, ◌+◌, ◌*◌, ◌/◌, Bool, true, ◌&&◌, cond, List, [], ◌∷◌, length, get_or, Float, Ok}
use Rattle.std.specs.Float.{nan, binary64}
use Rattle.std.specs.Float.Ieee.{add, sub, mul, eq}
use Rattle.std.specs.Float.Ieee.Scale.{finite}
use Rattle.exact.specs.Doubles.{nought, one}
use Rattle.quant.specs.declared.refusal.Refusal.TheVariants.{WrongA0}
use Rattle.iir.specs.declared.biquad.Biquad.{Biquad}

-- the section whose six numbers stand at 6k; "state zero per row". Its a0 is apart: where a row is filtered it is 1
abbrev pub section_at : List Float → ℕ → Biquad
section_at l k =
    record {
      b0 = get_or l (6 * k) nan;
      b1 = get_or l (6 * k + 1) nan;
      b2 = get_or l (6 * k + 2) nan;
      a1 = get_or l (6 * k + 4) nan;
      a2 = get_or l (6 * k + 5) nan;
      s1 = nought;
      s2 = nought;
      y = nought;
    }

-- n sections from the k-th on
unfoldable pub sections_from : List Float → ℕ → ℕ → List Biquad
sections_from l zero k = []
sections_from l (suc n) k = section_at l k ∷ sections_from l n (suc k)

-- all sections
abbrev pub sections_of : List Float → List Biquad
sections_of l = sections_from l (length l / 6) 0

-- a section after a sample: "y = b0*x + s1; s1 = (b1*x - a1*y) + s2; s2 = b2*x - a2*y", each operation rounded
unfoldable pub ran : Biquad → Float → Biquad
ran b x =
    let y = add binary64 (mul binary64 b.b0 x) b.s1 in
    record {
      b0 = b.b0;
      b1 = b.b1;
      b2 = b.b2;
      a1 = b.a1;
      a2 = b.a2;
      s1 = add binary64 (sub binary64 (mul binary64 b.b1 x) (mul binary64 b.a1 y)) b.s2;
      s2 = sub binary64 (mul binary64 b.b2 x) (mul binary64 b.a2 y);
      y = y;
    }

-- ---- 22

abbrev pub a0_at : List Float → ℕ → Float
a0_at l k = get_or l (6 * k + 3) nan

-- of n sections from the k-th on the first whose a0 does not equal 1, with its number "from 0 as place"; `Ok 0` where there is none
unfoldable pub a0s_from : List Float → ℕ → ℕ → Answer
a0s_from l zero k = Ok 0
a0s_from l (suc n) k = cond (eq (a0_at l k) one) (a0s_from l n (suc k)) (refuse WrongA0 k)

abbrev pub a0s_judged : List Float → Answer
a0s_judged l = a0s_from l (length l / 6) 0

-- ---- that the numbers of sections that run are finite: words of the law that the pipeline is the cascade

abbrev pub finite_section : Biquad → Bool
finite_section b = finite b.b0 && finite b.b1 && finite b.b2 && finite b.a1 && finite b.a2

unfoldable pub finite_sections : List Biquad → Bool
finite_sections [] = true
finite_sections (b ∷ bs) = finite_section b && finite_sections bs
