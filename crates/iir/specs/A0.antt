-- The words in which it is said what a call has found: which section is refused by 22, and what holds where nothing is refused; and what a section
-- with any a0 was designed as. Definitions only.
use Rattle.std.specs.Prelude.{ℕ, ◌+◌, ◌*◌, ◌/◌, ◌<◌, ◌≡◌, true, false, List, length, get_or, Float}
use Rattle.std.specs.Float.{nan, binary64}
use Rattle.std.specs.Float.Ieee.{div, eq}
use Rattle.exact.specs.Doubles.{nought, one}
use Rattle.rows.specs.Rows.{all_finite}
use Rattle.iir.specs.declared.biquad.Biquad.{Biquad}
use Rattle.iir.specs.Section.{a0_at}
use Rattle.iir.specs.Iir.{iir_fits}

-- section k, from 0, is the first whose a0 does not equal 1
pub record FirstWrong (l : List Float) (k : ℕ) : Type 0 where
  pub there : k < length l / 6
  pub wrong : eq (a0_at l k) one ≡ false
  pub right-before : (j : ℕ) → j < k → eq (a0_at l j) one ≡ true

-- the a0 of every section equals 1
abbrev pub EachRight : List Float → Type 0
EachRight l = (k : ℕ) → k < length l / 6 → eq (a0_at l k) one ≡ true

-- nothing is found by 13 or 2
pub record PastNumbers (rows : ℕ) (i q l : List Float) : Type 0 where
  pub sizes : iir_fits rows (length i) (length q) (length l) ≡ true
  pub fine : all_finite l ≡ true

-- by 22 with section k
pub record AtSection (rows : ℕ) (i q l : List Float) (k : ℕ) : Type 0 where
  pub numbers : PastNumbers rows i q l
  pub first : FirstWrong l k

-- by none of the three
pub record Accepted (rows : ℕ) (i q l : List Float) : Type 0 where
  pub numbers : PastNumbers rows i q l
  pub each : EachRight l

-- section k as its designer means it, at rest: each of its numbers divided by its a0, rounded once
abbrev pub designed_at : List Float → ℕ → Biquad
designed_at l k =
    record {
      b0 = div binary64 (get_or l (6 * k) nan) (a0_at l k);
      b1 = div binary64 (get_or l (6 * k + 1) nan) (a0_at l k);
      b2 = div binary64 (get_or l (6 * k + 2) nan) (a0_at l k);
      a1 = div binary64 (get_or l (6 * k + 4) nan) (a0_at l k);
      a2 = div binary64 (get_or l (6 * k + 5) nan) (a0_at l k);
      s1 = nought;
      s2 = nought;
      y = nought;
    }
