-- One tap t makes each sample x round(t x) + 0.0, rounded: the ring has one slot. Assumes nothing.
use mathlib.Core.Path.{◌≡◌, refl, sym, ap, ◌∙◌}
use mathlib.Core.List.{List, [], ◌∷◌}
use Prim.Native.Nat.{ℕ, suc, ◌<◌}
use native.Mathlib.Nat.{suc-ne-zero, suc_inj, mod-one}
use lib.ListN.{length, get_or, set, length-set}
use lib.Seq.{get_or-set_same}
use lib.Ieee.{Float, nan, binary64, add, mul}
use Rattle.exact.specs.Doubles.{nought}
use Rattle.ring.specs.Ring.{slot_of, put, sum_to, ring_sum, filtered_from}
use Rattle.ring.specs.Inside.{by_one_tap}
use Rattle.ring.proofs.Tap.{tap_is}

only : (t x : Float) (ring : List Float) → 0 < length ring → ring_sum (t ∷ []) (set ring 0 x) 0 ≡ add binary64 (mul binary64 t x) nought
unfolding sum_to
only t x ring h = λ i. add binary64 (mul binary64 (tap_is (t ∷ []) 0 0 i) (get_or-set_same ring 0 x nan h i)) nought

pub one_from : (t : Float) (k : ℕ) (ring row : List Float) → 0 < length ring → filtered_from (t ∷ []) k ring row ≡ by_one_tap t row
unfolding filtered_from
one_from t k ring [] h = refl
one_from t k ring (x ∷ xs) h =
    let here : ring_sum (t ∷ []) (put (t ∷ []) k x ring) (slot_of (t ∷ []) k) ≡ add binary64 (mul binary64 t x) nought =
    ap (λ (s : ℕ). ring_sum (t ∷ []) (set ring s x) s) (mod-one k) ∙ only t x ring h in
    λ i. here i ∷ one_from t (suc k) (put (t ∷ []) k x ring) xs (rw length-set h) i

pub only_of : (taps ring row : List Float) → length taps ≡ 1 → 0 < length ring → filtered_from taps 0 ring row ≡ by_one_tap (get_or taps 0 nan) row
only_of [] ring row e h = absurd (suc-ne-zero 0 (sym e))
only_of (t ∷ []) ring row e h = one_from t 0 ring row h
only_of (t ∷ u ∷ taps) ring row e h = absurd (suc-ne-zero (length taps) (suc_inj e))
