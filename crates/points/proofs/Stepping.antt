-- What the tests of `on_grid` say: a start above 2 ^ -36 has no digit below 2 ^ -88, and a step above 2 ^ -30 none below 2 ^ -86; and a product of n and dx that
-- rounds to less than 2 is 9/4 at most. Assumes nothing.
use Rattle.std.proofs.Common.{◌≡◌, ℕ, ◌+◌, ◌*◌, ◌^◌, ◌<◌, ◌≤◌, Bool, true, false, T, sym, refl, ◌∙◌, subst, le_trans, le_of_eq, lt_of_lt_of_le, le_of_lt, mul-le-mul_right, mul_assoc, mul_comm, add-mul, mul-le-mul, lt_of_mul-lt-mul_right, le_of_mul-le-mul_right, mul_left_comm, arith, lit≤, pow_pos, ltb-true}
use lib.Ieee.{Float, binary64, of_bits, lt, eq, neg, mul, fits}
use lib.Ieee.Scale.{finite}
use Rattle.exact.specs.Doubles.{nought, two}
use Rattle.exact.specs.Value.{Units, sign_of, units_of}
use Rattle.exact.specs.Near.{Off}
use Rattle.exact.proofs.Value.{own}
use Rattle.exact.proofs.Compare.{lt-is, between, inside, above, beneath, none}
use Rattle.exact.proofs.Bounded.{mul-off}
use Rattle.exact.proofs.Steps.{far-on}
use Rattle.points.specs.Points.{number}
use Rattle.points.specs.Grid.{Stepped, Stride, OnGrid}
use Rattle.points.proofs.Fused.{index-value}

-- 0.75, 2 ^ -36 and 2 ^ -30
abbrev MOST : Float
MOST = of_bits binary64 0x3FE8000000000000

abbrev pub LEAST : Float
LEAST = of_bits binary64 0x3DB0000000000000

abbrev FINEST : Float
FINEST = of_bits binary64 0x3E10000000000000

most-value : Units MOST false (3 * 2 ^ 86 * 2 ^ 986)
unfolding of_bits
most-value = (refl, refl)

pub least-value : Units LEAST false (2 ^ (52 + 986))
unfolding of_bits
least-value = (refl, refl)

finest-value : Units FINEST false (2 ^ 56 * 2 ^ 988)
unfolding of_bits
finest-value = (refl, refl)

two-value : Units two false (2 * 2 ^ 86 * 2 ^ 988)
unfolding of_bits
two-value = (refl, refl)

-- ---- a start
module _ (x : Float) (f : T (fits binary64 x)) (h : lt x MOST ≡ true) (l : lt (neg MOST) x ≡ true) where
  known : T (finite x)
  unfolding of_bits neg
  known = between (neg MOST) x MOST tt tt l h

  stepped : 2 ^ (52 + 986) < units_of x → Stepped x
  stepped g =
      let n = far-on 986 x f known (le_of_lt g) in
      record {
        steps = n.0;
        value = subst (Units x (sign_of x)) n.1 (own x f known);
        few = le_of_lt (lt_of_mul-lt-mul_right (2 ^ 986) (subst (λ (k : ℕ). k < 3 * 2 ^ 86 * 2 ^ 986) n.1 (inside x MOST (3 * 2 ^ 86 * 2 ^ 986) f known most-value h l)));
      }

  pub stepped-above : lt LEAST x ≡ true → Stepped x
  stepped-above g = stepped (above x LEAST (2 ^ (52 + 986)) f known least-value g).1

  pub stepped_beneath : lt x (neg LEAST) ≡ true → Stepped x
  stepped_beneath g = stepped (beneath x LEAST (2 ^ (52 + 986)) f known least-value g)

pub stepped-none : (x : Float) → eq x nought ≡ true → Stepped x
stepped-none x e = record { steps = 0; value = none x e; few = lit≤ tt }

-- ---- a step
pub stride : (dx : Float) → T (fits binary64 dx) → lt FINEST dx ≡ true → lt dx MOST ≡ true → Stride dx
stride dx f l h =
    let W = 2 ^ 1074 in
    let up = above dx FINEST (2 ^ 56 * 2 ^ 988) f known finest-value l in
    let n = far-on 988 dx f known (le_trans (lit≤ tt) (le_of_lt up.1)) in
    let v : Units dx false (n.0 * 2 ^ 988) = subst (λ (s : Bool). Units dx s (n.0 * 2 ^ 988)) up.0 (subst (Units dx (sign_of dx)) n.1 (own dx f known)) in
    record {
      steps = n.0;
      value = v;
      least = le_of_lt (lt_of_mul-lt-mul_right (2 ^ 988) (subst (λ (k : ℕ). 2 ^ 56 * 2 ^ 988 < k) n.1 up.1));
      few = le_of_lt (lt_of_mul-lt-mul_right (2 ^ 988)
          (lt_of_lt_of_le (ltb-true (n.0 * 2 ^ 988) (3 * 2 ^ 86 * 2 ^ 986) (sym (lt-is dx MOST false false (n.0 * 2 ^ 988) (3 * 2 ^ 86 * 2 ^ 986) W (pow_pos 1074) v most-value) ∙ h)) (lit≤ tt)));
    }
  where
    known : T (finite dx)
    known = unfold of_bits in between FINEST dx MOST tt tt l h

-- ---- the way
reached : (n h g w r : ℕ) → 0 < g → 0 < w → Off r (n * w * (h * g)) w (2 ^ 48 * g) → r < 2 * 2 ^ 86 * g → n * (h * 4) ≤ 9 * 2 ^ 86
reached n h g w r G W o l =
    let e : n * h * g * w ≤ (r + 2 ^ 48 * g) * w = le_trans (le_of_eq (regroup n h g w)) (le_trans o.under (le_of_eq (shared r w (2 ^ 48 * g)))) in
    let m : n * h * g ≤ r + 2 ^ 48 * g = le_of_mul-le-mul_right e W in
    four (le_of_mul-le-mul_right {k = g} (le_trans m (le_trans (more r (2 * 2 ^ 86 * g) (2 ^ 48 * g) l) (le_of_eq (sym (add-mul (2 * 2 ^ 86) (2 ^ 48) g))))) G)
  where
    regroup : (n h g w : ℕ) → n * h * g * w ≡ n * w * (h * g)
    regroup n h g w = simp (mul_assoc, mul_comm, mul_left_comm)

    shared : (r w b : ℕ) → r * w + w * b ≡ (r + b) * w
    shared r w b = omega arith

    more : (r t b : ℕ) → r < t → r + b ≤ t + b
    more r t b h = omega arith

    four : n * h ≤ 2 * 2 ^ 86 + 2 ^ 48 → n * (h * 4) ≤ 9 * 2 ^ 86
    four l = omega arith

pub on-grid : (n : ℕ) (x dx : Float) → n ≤ 65536 → Stride dx → lt (mul binary64 (number n) dx) two ≡ true → Stepped x → OnGrid n x dx
on-grid n x dx few d h s =
    let W = 2 ^ 1074 in
    let z = mul-off (number n) dx false false (n * W) (d.steps * 2 ^ 988) 1036 (index-value n W (le_trans few (lit≤ tt))) d.value
    (le_trans (mul-le-mul {n₂ = 65536 * W} {m₂ = W} (mul-le-mul_right W few) (le_trans (mul-le-mul_right (2 ^ 988) d.few) (lit≤ tt))) (lit≤ tt)) (lit≤ tt) in
    record {
      few = few;
      start = s;
      step = d;
      reach = reached n d.steps (2 ^ 988) W z.size (pow_pos 988) (pow_pos 1074) z.off
          (ltb-true z.size (2 * 2 ^ 86 * 2 ^ 988) (sym (lt-is (mul binary64 (number n) dx) two false false z.size (2 * 2 ^ 86 * 2 ^ 988) W (pow_pos 1074) z.value two-value) ∙ h));
    }
