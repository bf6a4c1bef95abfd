-- The phases' numbers as the code works them out and judges them. Assumes nothing.
use Rattle.std.specs.Prelude.{Some, None}
use Rattle.std.proofs.Common.{◌≡◌, ℕ, Bool, true, false, ◌&&◌, List, [], ◌∷◌, ◌++◌, sym, refl, ap, ◌∙◌}
use lib.Ieee.{Float, binary64, add, sub, mul}
use lib.Ieee.Scale.{finite}
use Rattle.quant.specs.declared.settings.Settings.{Settings}
use Rattle.quant.specs.Phaser.{radians_of, phased_of}
use Rattle.rows.specs.Rows.{all_finite}
use Rattle.exact.proofs.Truth.{both}
use Rattle.pulse.specs.declared.bin.Bin.{Bin}
use Rattle.placing.specs.Phases.{start_time, since_delay, global_phase, local_slip, local_phase, total_of, phase0, dphase, start_pair, rotation_pair, phase_numbers, turned_of, pairs_of}

-- ---- numbers before others
pub finite-append : (xs ys : List Float) → all_finite (xs ++ ys) ≡ (all_finite xs && all_finite ys)
unfolding all_finite
finite-append [] ys = refl
finite-append (x ∷ xs) ys = rw (finite-append xs ys) (by (finite x))
  where
    by : (b : Bool) → (b && (all_finite xs && all_finite ys)) ≡ ((b && all_finite xs) && all_finite ys)
    by true = refl
    by false = refl

-- ---- the code's numbers, one by one
module _ (s : Settings) (b : Bin) (start : ℕ) (offset : Float) where
  module _ (at since turned slow late p total d : Float) (a0 : at ≡ start_time s start) (a1 : since ≡ sub binary64 at s.delay.0) (a2 : turned ≡ mul binary64 b.global.0 since)
      (a3 : slow ≡ mul binary64 b.local.0 offset) (a4 : late ≡ mul binary64 slow s.dt.0) (a5 : p ≡ add binary64 turned late) (a6 : total ≡ add binary64 b.global.0 b.local.0)
      (a7 : d ≡ mul binary64 total s.dt.0) where
    abbrev eight : List Float
    eight = at ∷ since ∷ turned ∷ slow ∷ late ∷ p ∷ total ∷ d ∷ []

    p-is : p ≡ phase0 s b start offset
    unfolding phase0
    p-is = rw (a5, a2, a1, a0, a4, a3)

    d-is : d ≡ dphase s b
    unfolding dphase
    d-is = rw (a7, a6)

    numbers : eight ++ (radians_of p ∷ radians_of d ∷ []) ≡ phase_numbers s b start offset
    unfolding phase_numbers
    numbers = rw (← p-is, ← d-is, a4, a3, a2, a1, a0, a6)

    judged-all : all_finite (phase_numbers s b start offset) ≡ (all_finite eight && (finite (radians_of p) && finite (radians_of d)))
    unfolding all_finite
    judged-all = ap all_finite (sym numbers) ∙ finite-append eight (radians_of p ∷ radians_of d ∷ []) ∙ ap (λ (x : Bool). all_finite eight && (finite (radians_of p) && x)) (by (finite (radians_of d)))
      where
        by : (x : Bool) → (x && true) ≡ x
        by true = refl
        by false = refl

    pub turn-fine : all_finite eight ≡ true → pairs_of p d ≡ turned_of s b start offset
    unfolding start_pair rotation_pair
    turn-fine e = rw (judged-all, e, ← p-is, ← d-is)

    pub turn-refused : all_finite eight ≡ false → None ≡ turned_of s b start offset
    turn-refused e = rw (judged-all, e)

-- ---- numbers that are all finite: the pairs are what the phasers give
module _ (s : Settings) (b : Bin) (start : ℕ) (offset : Float) (fine : all_finite (phase_numbers s b start offset) ≡ true) where
  radians_fine : (finite (radians_of (phase0 s b start offset)) ≡ true) × (finite (radians_of (dphase s b)) ≡ true)
  unfolding phase0 dphase
  radians_fine =
      let p = radians_of (phase0 s b start offset) in
      let d = radians_of (dphase s b) in
      let all =
      judged-all s b start offset (start_time s start) (since_delay s start) (global_phase s b start) (local_slip b offset) (local_phase s b offset)
      (phase0 s b start offset) (total_of b) (dphase s b) refl refl refl refl refl refl refl refl in
      both (finite p) (finite d) (both (all_finite _) (finite p && finite d) (sym all ∙ fine)).1

  pub start-given : phased_of (phase0 s b start offset) ≡ Some (start_pair s b start offset)
  unfolding start_pair
  start-given = rw radians_fine.0

  pub rotation-given : phased_of (dphase s b) ≡ Some (rotation_pair s b)
  unfolding rotation_pair
  rotation-given = rw radians_fine.1
