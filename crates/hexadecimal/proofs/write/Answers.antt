use Prim.Native.Nat.{ℕ, suc, ◌+◌, ◌-◌, ◌/◌, ◌%◌, ◌^◌, ◌≤◌, ◌<◌}
use mathlib.Core.Path.{◌≡◌, refl, ◌∙◌, sym}
use mathlib.Core.Bool.{true, false}
use mathlib.Core.List.{List, ◌∷◌, ◌++◌, append_assoc}
use native.Mathlib.Omega.{arith}
use native.Mathlib.Nat.{add-zero, div-one, div-div-eq-div-mul, pow-suc}
use borrow.Author.Tests.{le-leb, lt-leb}
use lib.ListN.{length, get_or, set, take, drop, length-set, take-append-drop}
use lib.Seq.{take-suc, length-take-le, set_at}
use Rattle.hexadecimal.specs.Hex.{Wrote, digit_of, digits, room, written}
use Rattle.hexadecimal.proofs.write.Invariants.{partly, Put}
use Rattle.hexadecimal.proofs.write.Goals as goal

refused : (word : ℕ) (text : List ℕ) (at : ℕ) → length text < at + 16 → Wrote word text at false text
unfolding room written
refused word text at h =
    let no_room = lt-leb (at + 16) (length text) h in
    record { answered = sym no_room; left = simp no_room }

-- the last byte of a text's beginning is replaced
stored : (text : List ℕ) (m : ℕ) (tail : List ℕ) (d : ℕ) → m < length text
    → set (take (suc m) text ++ tail) m d ≡ take m text ++ (d ∷ tail)
stored text m tail d h =
    rw (take-suc text m 0, append_assoc)
    (set_at (take m text) (get_or text m 0) tail d m (length-take-le m text (omega arith)))

module _ (word : ℕ) (text : List ℕ) (at : ℕ) (fits : at + 16 ≤ length text) where
  none : Put word text at text word 16
  unfolding digits
  none = record { within = omega arith; long = refl; left = sym (div-one word); is = sym (take-append-drop (at + 16) text) }

  whole : (out : List ℕ) (rest i : ℕ) → Put word text at out rest i → i ≤ 0 → Wrote word text at true out
  unfolding room written
  whole out rest i p h =
      let there = le-leb (at + 16) (length text) fits in
      let end : i ≡ 0 = omega arith in
      record { answered = sym there; left = simp there (simp add-zero at (rw end at p.is)) }

  module _ (out : List ℕ) (rest i : ℕ) (p : Put word text at out rest i) (h : 0 < i) where
    one_more : set out (at + (i - 1)) (digit_of (rest % 16)) ≡ partly word text at (i - 1) (suc (16 - i))
    unfolding digits
    one_more =
        let there : at + (i - 1) < length text = omega arith in
        let up : at + i ≡ suc (at + (i - 1)) = omega arith in
        rw (p.is, up, stored text (at + (i - 1)) (digits (16 - i) word ++ drop (at + 16) text) (digit_of (rest % 16)) there, p.left)

    next : Put word text at (set out (at + (i - 1)) (digit_of (rest % 16))) (rest / 16) (i - 1)
    next =
        let count : 16 - (i - 1) ≡ suc (16 - i) = omega arith in
        record {
          within = omega arith;
          long = length-set out (at + (i - 1)) (digit_of (rest % 16)) ∙ p.long;
          left = rw (count, pow-suc, p.left) (div-div-eq-div-mul word (16 ^ (16 - i)) 16);
          is = rw count one_more;
        }

pub returns-then-out-lt16 : goal.returns-then-out-lt16
returns-then-out-lt16 c = refused _ _ _ (omega arith)

pub loop-i-init : goal.loop-i-init
loop-i-init c = none _ _ _ (omega arith)

pub loop-i-preserved : goal.loop-i-preserved
loop-i-preserved c =
    let args = c.args in
    let loop = c.loop-i in
    rw c.digit_of.ensures
    (next args.word args.out.now args.at (omega arith) loop.out loop.rest loop.i loop.invariant (omega arith))

pub returns : goal.returns
returns c = whole _ _ _ (omega arith) _ _ _ c.loop-i.invariant (omega arith)
