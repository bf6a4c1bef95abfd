-- Points by exact sums: high + low is point i, where high is the start's upper part and i times the step's, and low the same of the lower parts. All four are
-- whole numbers of steps, and so are high and low, which stay below 2 ^ 53 of their steps: neither is rounded, and high + low is rounded once, as the
-- fused i dx + x is. Assumes nothing.
use Rattle.std.proofs.Common.{◌≡◌, ℕ, ◌+◌, ◌*◌, ◌^◌, ◌<◌, ◌≤◌, false, sym, ap, ◌∙◌, subst, le_trans, mul-le-mul_right, mul_assoc, mul-le-mul_left, arith, lit≤, pow_pos}
use mathlib.Core.Bool.{false≢true}
use lib.Ieee.{Float, binary64, add, sum}
use Rattle.exact.specs.Value.{Units, sign_of}
use Rattle.exact.specs.Signed.{Signed, Same, signed, times, plus_s}
use Rattle.exact.proofs.Signed.{sizes}
use Rattle.exact.proofs.Operation.{add_rounds}
use Rattle.exact.proofs.Grid.{On, Clear, Under, add-on, add-clear, sum-agree}
use Rattle.exact.proofs.Steps.{on_as, clear_as, finer-clear}
use Rattle.exact.proofs.Upper.{top}
use Rattle.exact.proofs.Split.{upper, lower, rest, Split, split}
use Rattle.points.specs.Points.{point_at}
use Rattle.points.specs.Grid.{OnGrid}
use Rattle.points.proofs.Fused.{point-sum}

-- ---- in whole numbers: the start is v steps of 2 ^ -51 less 3's, the step w; p - q and a are the same in steps of 2 ^ -88
module _ (m n a p q v w : ℕ) (l : m ≤ n) (few : n ≤ 65536) (reach : n * a ≤ 9 * 2 ^ 86) (P : p ≤ 3 * 2 ^ 86) (Q : q ≤ 3 * 2 ^ 86)
    (v-over : v * 2 ^ 37 + q ≤ 3 * 2 ^ 88 + p + 2 ^ 36) (v-under : 3 * 2 ^ 88 + p ≤ v * 2 ^ 37 + q + 2 ^ 36)
    (w-over : w * 2 ^ 37 + 0 ≤ 3 * 2 ^ 88 + a + 2 ^ 36) (w-under : 3 * 2 ^ 88 + a ≤ w * 2 ^ 37 + 0 + 2 ^ 36) where
  high-under : Under (plus_s (top v) (times m (top w)))
  high-under =
      let r : m * a ≤ n * a = mul-le-mul_right a l in
      let o : m * (w * 2 ^ 37 + 0) ≤ m * (3 * 2 ^ 88 + a + 2 ^ 36) = mul-le-mul_left m w-over in
      let u : m * (3 * 2 ^ 88 + a) ≤ m * (w * 2 ^ 37 + 0 + 2 ^ 36) = mul-le-mul_left m w-under in
      record { over = omega arith; under = omega arith }

  low-under : Under (plus_s (rest (record { plus = p; less = q }) v) (times m (rest (record { plus = a; less = 0 }) w)))
  low-under =
      let o : m * (w * 2 ^ 37 + 0) ≤ m * (3 * 2 ^ 88 + a + 2 ^ 36) = mul-le-mul_left m w-over in
      let u : m * (3 * 2 ^ 88 + a) ≤ m * (w * 2 ^ 37 + 0 + 2 ^ 36) = mul-le-mul_left m w-under in
      record { over = omega arith; under = omega arith }

-- both parts together are the point
whole : (i a v w : ℕ) (k h l : Signed) → Same h (times (2 ^ 37) (plus_s (top v) (times i (top w)))) → Same l (plus_s (rest k v) (times i (rest (signed false a) w)))
    → Same (plus_s h l) (plus_s (signed false (i * a)) k)
whole i a v w k h l e g = omega arith

-- ---- the sums
module _ (n : ℕ) (x dx : Float) (o : OnGrid n x dx) where
  abbrev k : Signed
  k = signed (sign_of x) o.start.steps

  -- the step, in steps of 2 ^ -88
  abbrev a : ℕ
  a = o.step.steps * 4

  pub of-start : Split x k
  of-start = split x (sign_of x) o.start.steps o.start.few o.start.value

  step_value : Units dx false (a * 2 ^ 986)
  step_value = subst (Units dx false) (sym (mul_assoc o.step.steps 4 (2 ^ 986))) o.step.value

  pub of-step : Split dx (signed false a)
  of-step = split dx false a (four o.step.steps o.step.few) step_value
    where
      four : (h : ℕ) → h ≤ 3 * 2 ^ 84 → h * 4 ≤ 3 * 2 ^ 86
      four h l = omega arith

  -- where the sums stand before point i
  pub record At (i : ℕ) (high low : Float) : Type 0 where
    pub above : Clear 1023 high (plus_s (top of-start.v) (times i (top of-step.v)))
    pub below : On 986 low (plus_s (rest k of-start.v) (times i (rest (signed false a) of-step.v)))

  pub at-start : At 0 (upper x) (lower x)
  at-start =
      record {
        above = clear_as 1023 (upper x) (top of-start.v) (plus_s (top of-start.v) (times 0 (top of-step.v))) of-start.high (omega arith);
        below = on_as 986 (lower x) (rest k of-start.v) (plus_s (rest k of-start.v) (times 0 (rest (signed false a) of-step.v))) of-start.low (omega arith);
      }

  pub at_next : (i : ℕ) (high low : Float) → i < n → At i high low → At (i + 1) (add binary64 high (upper dx)) (add binary64 low (lower dx))
  at_next i high low g w =
      let s = of-start in
      let d = of-step in
      let b = plus_s (top s.v) (times i (top d.v)) in
      let c = plus_s (rest k s.v) (times i (rest (signed false a) d.v)) in
      let m : i + 1 ≤ n = omega arith in
      let z = sizes (sign_of x) o.start.steps in
      let p = le_trans z.0 o.start.few in
      let q = le_trans z.1 o.start.few in
      let H = high-under (i + 1) n a k.plus k.less s.v d.v m o.few o.reach p q s.over s.under d.over d.under in
      let L = low-under (i + 1) n a k.plus k.less s.v d.v m o.few o.reach p q s.over s.under d.over d.under in
      record {
        above = clear_as 1023 (add binary64 high (upper dx)) (plus_s b (top d.v)) (plus_s (top s.v) (times (i + 1) (top d.v)))
            (add-clear 1023 (lit≤ tt) high (upper dx) b (top d.v) w.above.on d.high.on
            (record { over = omega (arith, H.over); under = omega (arith, H.under) }) w.above.some) (omega arith);
        below = on_as 986 (add binary64 low (lower dx)) (plus_s c (rest (signed false a) d.v)) (plus_s (rest k s.v) (times (i + 1) (rest (signed false a) d.v)))
            (add-on 986 (lit≤ tt) low (lower dx) c (rest (signed false a) d.v) w.below d.low
            (record { over = omega (arith, L.over); under = omega (arith, L.under) })) (omega arith);
      }

  pub at-point : (i : ℕ) (high low : Float) → i ≤ n → At i high low → add binary64 high low ≡ point_at x dx i
  at-point i high low g w =
      let W = 2 ^ 1074 in
      let u = 2 ^ 986 in
      let h = finer-clear 37 986 high (plus_s (top of-start.v) (times i (top of-step.v))) w.above in
      let l = w.below in
      let b = o.start.steps in
      add_rounds binary64 high low h.on.sign l.sign (h.on.steps * u) (l.steps * u) W (pow_pos 1074) h.on.value l.value
      ∙ sum-agree u h.on.steps l.steps (i * a) b h.on.sign l.sign false (sign_of x) (pow_pos 986) h.some (λ e. absurd (false≢true e))
      (whole i a of-start.v of-step.v k (signed h.on.sign h.on.steps) (signed l.sign l.steps) h.on.same l.same)
      ∙ sym (point-sum x dx (sign_of x) false (b * u) (a * u) i (le_trans g (le_trans o.few (lit≤ tt))) o.start.value step_value
      ∙ ap (λ (m : ℕ). sum binary64 false m (sign_of x) (b * u) W) (sym (mul_assoc i a u)))
