-- `naming::from_bytes` meets its contract: its tests are those of a fit list, and eight bytes or fewer leave the second word zero.
-- Assumes nothing.
use Rattle.std.specs.Prelude.{Some, None}
use Prim.Native.Nat.{ℕ, ◌-◌, ◌≤◌, ◌<◌}
use mathlib.Core.Path.{◌≡◌, ap, ◌∙◌, sym}
use mathlib.Core.Bool.{true, false, true≢false}
use mathlib.Core.List.{List}
use native.Mathlib.Omega.{arith}
use Rattle.std.proofs.lemmas.Bool.Decides.{nat_tests}
use lib.ListN.{length, take, drop, length-drop, drop_of_length-le}
use lib.Seq.{take_all}
use Rattle.naming.specs.Name.{name_byte, every, word_of, named, naming_of}
use Rattle.naming.proofs.Named.{accepts, refuses}
use Rattle.naming.proofs.Places.{every-all, every-at}
use Rattle.naming.proofs.from_bytes.Goals as goal

module _ (text : List ℕ) where
  empty : length text < 1 → naming_of text ≡ None
  empty h = refuses text (λ f. omega (arith, f.some))

  long : 16 < length text → naming_of text ≡ None
  long h = refuses text (λ f. omega (arith, f.most))

  stray : every name_byte text ≡ false → naming_of text ≡ None
  stray e = refuses text (λ f. true≢false (sym (every-all name_byte text f.each) ∙ e))

  module _ (some : 1 ≤ length text) (most : length text ≤ 16) (stand : every name_byte text ≡ true) where
    reads : naming_of text ≡ Some (named text)
    reads = (accepts text).1 (record { some = some; most = most; each = every-at name_byte text stand })

    reads-one : length text ≤ 8 → (w : ℕ) → w ≡ word_of text → naming_of text ≡ Some (record { first = w; second = 0; len = length text })
    unfolding named word_of
    reads-one h w e =
        let whole : word_of (take 8 text) ≡ w = ap word_of (take_all 8 text h) ∙ sym e in
        let none : word_of (drop 8 text) ≡ 0 = ap word_of (drop_of_length-le text {i = 8} h) in
        reads ∙ ap Some (λ i. record { first = whole i; second = none i; len = length text })

    reads_two : (w v : ℕ) → w ≡ word_of (take 8 text) → v ≡ word_of (take (length text - 8) (drop 8 text))
        → naming_of text ≡ Some (record { first = w; second = v; len = length text })
    unfolding named
    reads_two w v e f =
        let all = take_all (length text - 8) (drop 8 text) (simp length-drop (omega arith)) in
        let rest : v ≡ word_of (drop 8 text) = f ∙ ap word_of all in
        reads ∙ ap Some (λ i. record { first = sym e i; second = sym rest i; len = length text })

pub returns-then-is_empty : goal.returns-then-is_empty
returns-then-is_empty c = sym (empty _ (grind (arith, nat_tests)))

pub returns-then-text-gt16 : goal.returns-then-text-gt16
returns-then-text-gt16 c = sym (long _ (omega arith))

pub returns-then-not-all_stand : goal.returns-then-not-all_stand
returns-then-not-all_stand c =
    let call = c.all_stand in
    sym (stray _ (sym call.ensures ∙ c.if-not-all_stand.true))

pub returns-then-len-le8 : goal.returns-then-len-le8
returns-then-len-le8 c =
    let text = c.args.text.now in
    let call = c.word_of-first in
    sym (reads-one text (grind (arith, nat_tests)) (omega arith) (sym c.all_stand.ensures ∙ c.if-not-all_stand.false) (omega arith) call.result call.ensures)

pub returns : goal.returns
returns c =
    let text = c.args.text.now in
    let first = c.word_of-first-2 in
    let second = c.word_of-second in
    sym (reads_two text (grind (arith, nat_tests)) (omega arith) (sym c.all_stand.ensures ∙ c.if-not-all_stand.false) first.result second.result first.ensures second.ensures)
