use Prim.Native.Nat.{ℕ, suc, ◌+◌, ◌-◌, ◌*◌, ◌^◌, ◌≤◌, ◌<◌}
use mathlib.Core.Path.{◌≡◌, refl, sym, ◌∙◌}
use native.Mathlib.Nat.{sub-zero}
use native.Mathlib.Numerals.{add-one}
use native.Mathlib.Omega.{arith}
use lib.ListN.{get_or}
use Rattle.decimal.specs.Digits.{digit_of}
use Rattle.decimal.proofs.Figures.{one_more, no_digit, no_more, room-now, room_next}
use Rattle.decimal.proofs.digits.follow.Goals as goal

-- a digit more has room
module _ (base n d i m : ℕ) (small : d < base) (before : i < m) (now : (n + 1) * base ^ (m - i) ≤ 2 ^ 64) where
  room : (n * base + d + 1) * base ^ (m - (i + 1)) ≤ 2 ^ 64
  room =
      let one : m - i ≡ suc (m - (i + 1)) = omega arith in
      room_next base n (m - (i + 1)) d (2 ^ 64) small (rw one at now)

  next : 1 ≤ base → n * base + d < 2 ^ 64
  next some = room-now base (n * base + d) (m - (i + 1)) (2 ^ 64) some room

pub loop-b-init : goal.loop-b-init
loop-b-init c = (simp sub-zero c.requires.1, refl)

pub returns-then-base-d : goal.returns-then-base-d
returns-then-base-d c =
    let at = c.loop-b in
    let args = c.args in
    let no : args.base ≤ digit_of (get_or args.text.now at.b-index 0) = omega (arith, c.if-base-d.true, c.digit-d.ensures) in
    sym (sym at.invariant.1 ∙ no_digit args.base at.n args.text.now at.b-index (omega arith) no)

pub overflow_mul-n : goal.overflow_mul-n
overflow_mul-n c = omega (arith, next _ _ c.digit-d.result _ _ (omega arith) (omega arith) c.loop-b.invariant.0 c.requires.0)

pub overflow_add-n : goal.overflow_add-n
overflow_add-n c = omega (arith, next _ _ c.digit-d.result _ _ (omega arith) (omega arith) c.loop-b.invariant.0 c.requires.0)

pub loop-b-preserved : goal.loop-b-preserved
loop-b-preserved c =
    let l = c.loop-b in
    let args = c.args in
    let small : digit_of (get_or args.text.now l.b-index 0) < args.base = omega (arith, c.if-base-d.false, c.digit-d.ensures) in (
      room _ _ c.digit-d.result _ _ (omega arith) (omega arith) l.invariant.0,
      simp (add-one l.b-index, c.digit-d.ensures) (sym (one_more args.base l.n args.text.now l.b-index (omega arith) small) ∙ l.invariant.1),
    )

pub returns : goal.returns
returns c =
    let l = c.loop-b in
    let args = c.args in
    sym (sym l.invariant.1 ∙ no_more args.base l.n args.text.now l.b-index (omega arith))
