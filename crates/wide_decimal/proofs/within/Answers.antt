-- `wide_decimal::within` meets its contract: where the whole number fits, both parts together are rounded, if the digits are enough. Assumes nothing.
use Prim.Native.Nat.{ℕ, ◌+◌, ◌-◌, ◌*◌, ◌^◌, ◌<◌, min}
use mathlib.Core.Path.{◌≡◌, refl, subst}
use mathlib.Core.Bool.{Bool, true, false}
use mathlib.Core.List.{List}
use native.Mathlib.Omega.{arith}
use lib.Ieee.{Float}
use lib.ListN.{length, take, drop}
use Rattle.std.specs.Prelude.{Option, None, Some}
use Rattle.std.specs.Option.{ok_or}
use Rattle.wide_decimal.specs.declared.Short.TheVariants.{Thin}
use Rattle.wide_decimal.specs.Figures.{worth, without}
use Rattle.wide_decimal.specs.Limbs.{value, weight, Held}
use Rattle.wide_decimal.specs.Near.{Near}
use Rattle.wide_decimal.specs.Placed.{before, parts, nearest_of}
use Rattle.wide_decimal.specs.Told.{Told, Outcome}
use Rattle.wide_decimal.proofs.Placing.{same-take, same_drop, same-behind, same_more, grown, together}
use Rattle.wide_decimal.proofs.Powers.{ten_pos, weight-even}
use Rattle.wide_decimal.proofs.within.Goals as goal
use Rattle.wide_decimal.proofs.within.Goals.{then-not-before-via-then-not-before, then-not-before-via-else-not-before+then-not-raise}

module _ (figures : List ℕ) (whole first : ℕ) (e : first ≡ min whole (length figures)) where
  -- what the first figures are
  held : (ok : Bool) (v w : ℕ) → Held ok v (worth (take first figures)) w → Held ok v (worth (take whole figures)) w
  held ok v w h = subst (λ (x : List ℕ). Held ok v (worth x) w) (same-take figures whole first e) h

  -- what stands before the point
  raised : (ok : Bool) (v u n m : ℕ) → v ≡ worth (take whole figures) → m ≡ n → Held ok u (v * 10 ^ (whole - first)) (weight m) → Held ok u (before figures whole) (weight n)
  raised ok v u n m p q h = rw (← p, ← same_more figures whole first e, ← q) h

  -- both parts: what stands behind it is d before the zeros
  both : (v d b zeros low : ℕ) → v ≡ before figures whole → 0 < low → Near d (10 ^ (length figures - first)) (worth (drop first figures) * weight low) → Near b (10 ^ zeros) d
      → Near (v * weight low + b) (parts figures whole zeros) ((before figures whole * parts figures whole zeros + worth (drop whole figures)) * weight low)
  both v d b zeros low p l x y =
      rw p (together (before figures whole) b d (worth (drop whole figures)) (length figures - whole) zeros (weight low) (weight-even low l) (rw (same-behind figures whole first e, same_drop figures whole first e) at x) y)

  -- what is told of them
  outcome : (minus : Bool) (zeros s above low m : ℕ) (r : Option Float) → m ≡ low → Near s (parts figures whole zeros) ((before figures whole * parts figures whole zeros + worth (drop whole figures)) * weight m) → Told minus s m r
      → Outcome minus figures whole zeros above low (ok_or r Thin)
  unfolding nearest_of
  outcome minus gap s above low m (Some x) q n t = t (before figures whole * parts figures whole gap + worth (drop whole figures)) (parts figures whole gap) (ten_pos (length figures - whole + gap)) n
  outcome minus gap s above low m None q n t = rw q at t

pub returns-then-not-before : goal.returns-then-not-before
returns-then-not-before c =
    let a = c.args in
    let fs = without a.point a.text.now in
    let first = c.min-first.result in
    let e : first ≡ min a.whole (length fs) = omega (arith, c.min-first.ensures, c.count.ensures) in
    elim c.then-not-before.branch [
      | then-not-before-via-then-not-before w ↦ grown _ (a.whole - length fs) _ ((held fs a.whole first e false _ _ w.if-not-before.ensures).over refl)
      | then-not-before-via-else-not-before+then-not-raise w ↦
          let v = (held fs a.whole first e true _ _ w.if-not-before.ensures).is refl in
          (raised fs a.whole first e false _ _ (length a.high.now) _ v (omega arith) w.if-not-raise.ensures).over refl
    ]

pub returns : goal.returns
returns c =
    let a = c.args in
    let fs = without a.point a.text.now in
    let first = c.min-first.result in
    let e : first ≡ min a.whole (length fs) = omega (arith, c.min-first.ensures, c.count.ensures) in
    let v = (held fs a.whole first e true _ _ c.if-not-before.ensures).is refl in
    let high = (raised fs a.whole first e true _ _ (length a.high.now) _ v (omega arith) c.if-not-raise.ensures).is refl in
    let long : length c.lower.new.low ≡ length a.low.now = omega arith in
    let near = both fs a.whole first e (value c.raise.new.high) (value c.behind.new.low) (value c.lower.new.low) a.zeros (length a.low.now) high c.requires.some c.behind.ensures c.lower.ensures in
    rw c.ok_or.ensures.value
    (outcome fs a.whole first e a.minus a.zeros (value c.raise.new.high * weight (length c.lower.new.low) + value c.lower.new.low) (length a.high.now) (length a.low.now) (length c.lower.new.low) c.packed.result long (rw long near) c.packed.ensures)
