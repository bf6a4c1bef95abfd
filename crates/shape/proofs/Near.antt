-- Near points: where the first and the last are 7/8 at most in size, so are all; TAU times such a point is below TAU in size, so its cosine needs no
-- division. Assumes nothing.
use Rattle.std.proofs.Common.{◌≡◌, ℕ, zero, suc, ◌+◌, ◌-◌, ◌*◌, ◌^◌, ◌<◌, ◌≤◌, false, ◌∷◌, map, length, get_or, sym, refl, ap, ◌∙◌, subst, le_trans, le_of_eq, lt_of_lt_of_le, lt_of_le_of_lt, add-zero, mul-le-mul, lt_of_mul-lt-mul_right, mul-pos, zero-add, arith, lit≤, pow_pos}
use lib.Ieee.{Float, nan, binary64, of_bits, unlike, add, mul, div}
use lib.Ieee.Fits.{round-fits, mul-fits}
use Rattle.exact.specs.Doubles.{one, two}
use Rattle.exact.specs.Value.{Units, sign_of, units_of}
use Rattle.exact.specs.Near.{Off}
use Rattle.exact.proofs.Value.{own, units-are}
use Rattle.exact.proofs.Few.{value-finite}
use Rattle.exact.proofs.Finite.{smaller-finite, smaller-units}
use Rattle.exact.proofs.Bounded.{Sized, mul-off}
use Rattle.points.specs.Points.{point_at, points}
use Rattle.points.proofs.Between.{Shrinks, points-between}
use Rattle.points.proofs.Turns.{points-length, points-at}
use Rattle.trig.specs.Reduce.{TAU}
use Rattle.trig.specs.Trig.{cosine_at, cosine_of}
use Rattle.trig.proofs.Reducing.{reduced-near}
use Rattle.shape.specs.Hann.{hann_of, hann_wrapped}
use Rattle.shape.specs.Segment.{Near, EndsNear}

-- ---- between near ends
near-shrinks : Shrinks Near
near-shrinks =
    record {
      smaller = λ s t a b q Q h n.
          record {
            fit = round-fits binary64 s a q;
            known = smaller-finite s t a b q Q h n.known;
            small = le_trans (smaller-units s t a b q Q h n.known) n.small;
          };
      known = λ z n. n.known;
    }

-- ---- TAU times a near point is below TAU
tau_value : Units TAU false (14148475504056880 * 2 ^ 1023)
unfolding of_bits
tau_value = (refl, refl)

below_tau : (r a b h g : ℕ) → 0 < h → 0 < g → a ≡ 14148475504056880 * h → b ≤ 7 * g → Off r (a * b) (8 * g) h → r < 14148475504056880 * h
below_tau r a b h g H G e l o =
    lt_of_mul-lt-mul_right (8 * g) (lt_of_le_of_lt o.over (more (mul-pos H G)))
  where
    more : 0 < h * g → a * b + 8 * g * h < 14148475504056880 * h * (8 * g)
    more P = let m : a * b ≤ 14148475504056880 * h * (7 * g) = mul-le-mul {n₂ = 14148475504056880 * h} {m₂ = 7 * g} (le_of_eq e) l in omega arith

module _ (z : Float) (n : Near z) where
  abbrev angle : Float
  angle = mul binary64 TAU z

  sized : Sized angle (unlike false (sign_of z)) (14148475504056880 * 2 ^ 1023 * units_of z) (2 ^ 1074) 1023
  sized =
      mul-off TAU z false (sign_of z) (14148475504056880 * 2 ^ 1023) (units_of z) 1023 tau_value (own z n.fit n.known)
      (le_trans (mul-le-mul {n₂ = 2 ^ 1077} {m₂ = 2 ^ 1074} (lit≤ tt) (le_trans n.small (lit≤ tt))) (lit≤ tt)) (lit≤ tt)

  angle_small : units_of angle < units_of TAU
  unfolding of_bits
  angle_small =
      subst (λ (k : ℕ). k < 14148475504056880 * 2 ^ 1023) (sym (units-are angle (unlike false (sign_of z)) sized.size sized.value))
      (below_tau sized.size (14148475504056880 * 2 ^ 1023) (units_of z) (2 ^ 1023) (2 ^ 1071) (pow_pos 1023) (pow_pos 1071) refl n.small sized.off)

  near-hann : hann_wrapped z ≡ hann_of z
  unfolding hann_wrapped hann_of cosine_of
  near-hann =
      ap (λ (r : Float). div binary64 (add binary64 one (cosine_at r)) two)
      (sym (reduced-near angle (mul-fits binary64 TAU z) (value-finite angle (unlike false (sign_of z)) sized.size sized.value) angle_small))

-- ---- the values
all_near : (n i : ℕ) (x dx : Float) → ((k : ℕ) → k < n → Near (point_at x dx (i + k))) → map hann_wrapped (points n i x dx) ≡ map hann_of (points n i x dx)
unfolding points
all_near zero i x dx h = refl
all_near (suc n) i x dx h =
    let here : Near (point_at x dx i) = subst (λ (k : ℕ). Near (point_at x dx k)) (add-zero i) (h 0 (omega arith)) in
    λ j. near-hann (point_at x dx i) here j ∷ all_near n (suc i) x dx (λ k l. subst (λ (m : ℕ). Near (point_at x dx m)) (omega arith) (h (suc k) (omega arith))) j

pub near-valued : (n : ℕ) (x dx : Float) → EndsNear (points n 0 x dx) → map hann_wrapped (points n 0 x dx) ≡ map hann_of (points n 0 x dx)
near-valued n x dx e = all_near n 0 x dx each
  where
    long : length (points n 0 x dx) ≡ n
    long = points-length n 0 x dx

    some : 0 < n
    some = lt_of_lt_of_le e.some (le_of_eq long)

    first : Near (point_at x dx 0)
    first = subst Near (points-at n 0 x dx 0 some) e.first

    last : Near (point_at x dx (n - 1))
    last = subst Near (ap (λ (m : ℕ). get_or (points n 0 x dx) (m - 1) nan) long ∙ points-at n 0 x dx (n - 1) (omega (arith, some)) ∙ ap (point_at x dx) (zero-add (n - 1))) e.last

    each : (k : ℕ) → k < n → Near (point_at x dx (0 + k))
    each k h = points-between Near near-shrinks x dx (0 + k) (n - 1) (omega arith) (omega (arith, few)) first last
      where
        few : n ≤ 65536
        few = le_trans (le_of_eq (sym long)) e.few
