use mathlib.Core.Path.{◌≡◌, refl}
use mathlib.Core.List.{List, [], ◌∷◌}
use Prim.Native.Nat.{ℕ, ◌+◌, ◌-◌, ◌≤◌, ◌<◌}
use native.Mathlib.Omega.{arith}
use lib.Dec.{lit<}
use lib.ListN.{length, get_or}
use lib.Ieee.{Float, nan, binary64, add, mul}
use Rattle.ring.specs.Ring.{sum_to}
use Rattle.ring.specs.Inside.{Ready, output_to}
use Rattle.ring.proofs.Slots.{ready-room, more, at_before, at_new, at_after}
use Rattle.ring.proofs.few.sum_one.Goals as goal

-- one slot more: before the new sample's, its own, after it
module _ (ring : List Float) (s : ℕ) (taps : List Float) (x sum : Float) (j : ℕ) (ready : Ready taps ring) (turn : s < length taps) where
  width : s + 1 ≤ length taps
  width = omega arith

  room : length taps ≤ length ring
  room = ready-room ready

  before-it : j < s → sum ≡ output_to taps ring s (x ∷ []) j 0 → add binary64 (mul binary64 (get_or taps (s - j) nan) (get_or ring j nan)) sum ≡ output_to taps ring s (x ∷ []) (j + 1) 0
  before-it h = more taps ring s (x ∷ []) width room 0 (lit< tt) j (j + 1) refl (at_before taps ring s (x ∷ []) width room 0 (lit< tt) j (s - j) h (omega arith))

  its_own : j ≡ s → sum ≡ output_to taps ring s (x ∷ []) j 0 → add binary64 (mul binary64 (get_or taps 0 nan) x) sum ≡ output_to taps ring s (x ∷ []) (s + 1) 0
  its_own h = more taps ring s (x ∷ []) width room 0 (lit< tt) j (s + 1) (omega arith) (at_new taps ring s (x ∷ []) width room 0 (lit< tt) j 0 0 (omega arith) (omega arith) (omega arith))

  after-it : s < j → j < length taps → sum ≡ output_to taps ring s (x ∷ []) j 0 → add binary64 (mul binary64 (get_or taps (length taps + s - j) nan) (get_or ring j nan)) sum ≡ output_to taps ring s (x ∷ []) (j + 1) 0
  after-it h g = more taps ring s (x ∷ []) width room 0 (lit< tt) j (j + 1) refl (at_after taps ring s (x ∷ []) width room 0 (lit< tt) j (length taps + s - j) (omega arith) g (omega arith))

pub loop-j-init : goal.loop-j-init
unfolding sum_to
loop-j-init c = refl

pub loop-j-preserved : goal.loop-j-preserved
loop-j-preserved c =
    let at = c.loop-j in
    let a = c.args in
    before-it a.ring.now a.s a.taps.now a.x at.sum at.j c.requires.ready c.requires.turn c.loop-j-test.true at.invariant

pub loop-j-2-init : goal.loop-j-2-init
loop-j-2-init c =
    let at = c.loop-j in
    let a = c.args in
    its_own a.ring.now a.s a.taps.now a.x at.sum at.j c.requires.ready c.requires.turn (omega arith) at.invariant

pub loop-j-2-preserved : goal.loop-j-2-preserved
loop-j-2-preserved c =
    let at = c.loop-j-2 in
    let a = c.args in
    after-it a.ring.now a.s a.taps.now a.x at.sum at.j c.requires.ready c.requires.turn (omega arith) c.loop-j-2-test.true at.invariant
