use Prim.Native.Nat.{ℕ, suc, ◌+◌, ◌-◌, ◌*◌, ◌^◌, ◌≤◌, ◌<◌}
use mathlib.Core.Path.{◌≡◌, ap, ◌∙◌}
use mathlib.Core.List.{List, ◌∷◌}
use native.Mathlib.Omega.{arith}
use native.Mathlib.Nat.{lt_of_lt_of_le, pow-le-pow_right, pow-succ'}
use lib.Dec.{lit<}
use lib.ListN.{length, get_or, drop}
use lib.Seq.{drop-cons, drop-length}
use mir.Facts.{Fits-cat, Fits-shl}
use Rattle.naming.specs.Name.{word_of}
use Rattle.naming.proofs.word_of.Invariants.{Gathered}
use Rattle.naming.proofs.word_of.Goals as goal

none : (part : List ℕ) → Gathered part 0 (length part)
unfolding word_of
none part =
    let end : length part - length part ≡ 0 = omega arith in
    record { within = omega arith; is = rw drop-length; few = rw end (lit< tt) }

module _ (part : List ℕ) (word i : ℕ) (g : Gathered part word i) (h : 0 < i) where
  small : length part ≤ 8 → word < 256 ^ 7
  small short =
      let few : length part - i ≤ 7 = omega arith in
      lt_of_lt_of_le g.few (pow-le-pow_right (lit< tt) {j = 7} few)

  more : get_or part (i - 1) 0 < 256 → Gathered part (word * 256 + get_or part (i - 1) 0) (i - 1)
  unfolding word_of
  more byte =
      let b = get_or part (i - 1) 0 in
      let there : i - 1 < length part = omega arith in
      let up : suc (i - 1) ≡ i = omega arith in
      let next : drop (i - 1) part ≡ b ∷ drop i part = drop-cons part (i - 1) 0 there ∙ ap (λ (n : ℕ). b ∷ drop n part) up in
      let count : length part - (i - 1) ≡ suc (length part - i) = omega arith in
      record {
        within = omega arith;
        is = rw next (omega arith);
        few = rw (count, pow-succ') (omega arith);
      }

pub loop-i-init : goal.loop-i-init
loop-i-init c = none _

pub overflow_mul-word : goal.overflow_mul-word
overflow_mul-word c = Fits-shl 56 8 tt (small _ _ _ c.loop-i.invariant c.loop-i-test.true c.requires)

pub overflow_add-word : goal.overflow_add-word
overflow_add-word c = Fits-cat 56 8 tt (small _ _ _ c.loop-i.invariant c.loop-i-test.true c.requires) (c.type_inv.part _).fits

pub loop-i-preserved : goal.loop-i-preserved
loop-i-preserved c =
    let loop = c.loop-i in
    more _ _ _ loop.invariant (omega arith) (c.type_inv.part (loop.i - 1)).fits
