use mathlib.Core.Path.{◌≡◌, refl, ◌∙◌}
use mathlib.Core.List.{List, [], ◌∷◌}
use Prim.Native.Nat.{ℕ, ◌+◌, ◌-◌, ◌≤◌, ◌<◌}
use native.Mathlib.Omega.{arith}
use lib.Dec.{lit<}
use lib.ListN.{length, get_or}
use lib.Ieee.{Float, nan, binary64, add, mul}
use Rattle.ring.specs.Ring.{sum_to}
use Rattle.ring.specs.Inside.{Ready}
use Rattle.ring.proofs.Slots.{ready-room, more, at_before, at_new, at_old, at_after}
use Rattle.ring.proofs.few.sum_two.Invariants.{Both}
use Rattle.ring.proofs.few.sum_two.Goals as goal

-- one slot more: before the new samples', after them; and theirs
module _ (ring : List Float) (s : ℕ) (taps : List Float) (x y a b : Float) (j : ℕ) (ready : Ready taps ring) (turn : s + 2 ≤ length taps) where
  room : length taps ≤ length ring
  room = ready-room ready

  module _ (t : ℕ) {a' b' : Float} (e : a' ≡ add binary64 (mul binary64 (get_or taps t nan) (get_or ring j nan)) a) (f : b' ≡ add binary64 (mul binary64 (get_or taps (t + 1) nan) (get_or ring j nan)) b) (i : Both ring s taps x y a b j) where
    before-them : j < s → t ≡ s - j → Both ring s taps x y a' b' (j + 1)
    before-them h g =
        let xs = x ∷ y ∷ [] in
        record {
          first = e ∙ more taps ring s xs turn room 0 (lit< tt) j (j + 1) refl (at_before taps ring s xs turn room 0 (lit< tt) j t h (omega arith)) i.first;
          second = f ∙ more taps ring s xs turn room 1 (lit< tt) j (j + 1) refl (at_before taps ring s xs turn room 1 (lit< tt) j (t + 1) h (omega arith)) i.second;
        }

    after-them : s + 2 ≤ j → j < length taps → t ≡ length taps + s - j → Both ring s taps x y a' b' (j + 1)
    after-them h l g =
        let xs = x ∷ y ∷ [] in
        record {
          first = e ∙ more taps ring s xs turn room 0 (lit< tt) j (j + 1) refl (at_after taps ring s xs turn room 0 (lit< tt) j t h l (omega arith)) i.first;
          second = f ∙ more taps ring s xs turn room 1 (lit< tt) j (j + 1) refl (at_after taps ring s xs turn room 1 (lit< tt) j (t + 1) h l (omega arith)) i.second;
        }

  their-own : j ≡ s → Both ring s taps x y a b j → Both ring s taps x y (add binary64 (mul binary64 (get_or taps (length taps - 1) nan) (get_or ring (s + 1) nan)) (add binary64 (mul binary64 (get_or taps 0 nan) x) a)) (add binary64 (mul binary64 (get_or taps 0 nan) y) (add binary64 (mul binary64 (get_or taps 1 nan) x) b)) (s + 2)
  their-own e i =
      let xs = x ∷ y ∷ [] in
      record {
        first =
            more taps ring s xs turn room 0 (lit< tt) (s + 1) (s + 2) (omega arith) (at_old taps ring s xs turn room 0 (lit< tt) (s + 1) (length taps - 1) 1 refl (lit< tt) (lit< tt) (omega arith))
            (more taps ring s xs turn room 0 (lit< tt) j (s + 1) (omega arith) (at_new taps ring s xs turn room 0 (lit< tt) j 0 0 (omega arith) (omega arith) (omega arith)) i.first);
        second =
            more taps ring s xs turn room 1 (lit< tt) (s + 1) (s + 2) (omega arith) (at_new taps ring s xs turn room 1 (lit< tt) (s + 1) 0 1 refl (omega arith) (omega arith))
            (more taps ring s xs turn room 1 (lit< tt) j (s + 1) (omega arith) (at_new taps ring s xs turn room 1 (lit< tt) j 1 0 (omega arith) (omega arith) (omega arith)) i.second);
      }

pub loop-j-init : goal.loop-j-init
unfolding sum_to
loop-j-init c = let d = c.default-sums.ensures in record { first = d.0; second = d.1 }

pub loop-j-preserved : goal.loop-j-preserved
loop-j-preserved c =
    let at = c.loop-j in
    let a = c.args in
    before-them a.ring.now a.s a.taps.now a.x a.y at.sums.first at.sums.second at.j c.requires.ready c.requires.turn (a.s - at.j) c.meet-sums.ensures.first c.meet-sums.ensures.second at.invariant c.loop-j-test.true refl

pub loop-j-2-init : goal.loop-j-2-init
loop-j-2-init c =
    let at = c.loop-j in
    let a = c.args in
    their-own a.ring.now a.s a.taps.now a.x a.y at.sums.first at.sums.second at.j c.requires.ready c.requires.turn (omega arith) at.invariant

pub loop-j-2-preserved : goal.loop-j-2-preserved
loop-j-2-preserved c =
    let at = c.loop-j-2 in
    let a = c.args in
    after-them a.ring.now a.s a.taps.now a.x a.y at.sums.first at.sums.second at.j c.requires.ready c.requires.turn (length a.taps.now + a.s - at.j) c.meet-sums-in-loop-j-2.ensures.first c.meet-sums-in-loop-j-2.ensures.second at.invariant (omega arith) c.loop-j-2-test.true refl
