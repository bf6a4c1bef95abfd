use Rattle.std.specs.Prelude.{Some, None}
use Prim.Native.Nat.{ℕ, ◌+◌, ◌*◌, ◌^◌, ◌≤◌, ◌<◌}
use mathlib.Core.Path.{◌≡◌, refl, ap, sym}
use mathlib.Core.List.{List, [], ◌∷◌, ◌++◌}
use native.Mathlib.Omega.{arith}
use native.Mathlib.Nat.{lt_of_lt_of_le, pow-le-pow_right}
use native.Mathlib.Numerals.{add-one}
use borrow.Author.Tests.{le-leb, lt-leb}
use lib.Dec.{lit<}
use lib.ListN.{length, get_or, take, drop, length-drop}
use lib.Seq.{take-suc, get_or-drop, get_or-take, length-take-le}
use Rattle.hexadecimal.specs.Hex.{all_digits, digit_value, field, number, room, word_at}
use Rattle.hexadecimal.proofs.Number.{all_more, not-all, number_lt, number_more}
use Rattle.hexadecimal.proofs.read.Invariants.{Passed}
use Rattle.hexadecimal.proofs.read.Goals as goal

short : (text : List ℕ) (at : ℕ) → length text < at + 16 → word_at text at ≡ None
unfolding word_at room
short text at h = simp (lt-leb (at + 16) (length text) h)

module _ (text : List ℕ) (at : ℕ) (fits : at + 16 ≤ length text) where
  left : 16 ≤ length (drop at text)
  left = simp length-drop (omega arith)

  none : Passed text at 0 0
  unfolding all_digits number
  none = record { within = omega arith; all = refl; is = refl }

  whole : (word i : ℕ) → Passed text at word i → 16 ≤ i → Some word ≡ word_at text at
  unfolding word_at room field
  whole word i p h =
      let end : i ≡ 16 = omega arith in
      simp (le-leb (at + 16) (length text) fits, rw end at p.all) (ap Some (rw end at p.is))

  module _ (word i : ℕ) (p : Passed text at word i) (h : i < 16) where
    next : take (i + 1) (drop at text) ≡ take i (drop at text) ++ (get_or text (at + i) 0 ∷ [])
    next =
        let there : i < length (drop at text) = omega (arith, left) in
        rw (add-one, take-suc (drop at text) i 0, get_or-drop)

    bad : 16 ≤ digit_value (get_or text (at + i) 0) → word_at text at ≡ None
    unfolding word_at room field
    bad d =
        let there : i < length (take 16 (drop at text)) = rw (length-take-le 16 (drop at text) left) h in
        let found : 16 ≤ digit_value (get_or (take 16 (drop at text)) i 0) = rw (get_or-take 16 (drop at text) i 0 h, get_or-drop) d in
        simp (le-leb (at + 16) (length text) fits, not-all (take 16 (drop at text)) i there found)

    small : word < 16 ^ 15
    small =
        let there : i ≤ length (drop at text) = omega (arith, left) in
        let below : number (take i (drop at text)) < 16 ^ i =
        rw (length-take-le i (drop at text) there) at (number_lt (take i (drop at text)) p.all) in
        let few : i ≤ 15 = omega arith in
        let most : 16 ^ i ≤ 16 ^ 15 = pow-le-pow_right (lit< tt) {j = 15} few in
        rw p.is (lt_of_lt_of_le below most)

    more : digit_value (get_or text (at + i) 0) < 16 → Passed text at (word * 16 + digit_value (get_or text (at + i) 0)) (i + 1)
    more d =
        record {
          within = omega arith;
          all = rw next (all_more (take i (drop at text)) (get_or text (at + i) 0) p.all d);
          is = rw (next, number_more (take i (drop at text)) (get_or text (at + i) 0), ← p.is);
        }

low : (c : goal.Else-d-ge16) → c.loop-i.word < 16 ^ 15
low c = small _ _ (omega arith) _ _ c.loop-i.invariant (omega arith)

pub returns-then-text-lt16 : goal.returns-then-text-lt16
returns-then-text-lt16 c = sym (short _ _ (omega arith))

pub loop-i-init : goal.loop-i-init
loop-i-init c = none _ _ (omega arith)

pub returns-then-d-ge16 : goal.returns-then-d-ge16
returns-then-d-ge16 c =
    let args = c.args in
    let loop = c.loop-i in
    let worth : 16 ≤ digit_value (get_or args.text.now (args.at + loop.i) 0) = rw c.digit_value-d.ensures at c.if-d-ge16.true in
    sym (bad args.text.now args.at (omega arith) loop.word loop.i loop.invariant (omega arith) worth)

pub overflow_mul-word : goal.overflow_mul-word
overflow_mul-word c = omega (arith, low c)

pub overflow_add-word : goal.overflow_add-word
overflow_add-word c = omega (arith, low c)

pub loop-i-preserved : goal.loop-i-preserved
loop-i-preserved c =
    let args = c.args in
    let loop = c.loop-i in
    let worth : digit_value (get_or args.text.now (args.at + loop.i) 0) < 16 = rw c.digit_value-d.ensures at c.if-d-ge16.false in
    rw c.digit_value-d.ensures
    (more args.text.now args.at (omega arith) loop.word loop.i loop.invariant (omega arith) worth)

pub returns : goal.returns
returns c = whole _ _ (omega arith) _ _ c.loop-i.invariant (omega arith)
