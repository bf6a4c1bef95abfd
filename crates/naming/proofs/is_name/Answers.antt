use Prim.Native.Nat.{ℕ, ◌+◌, ◌-◌, ◌^◌, ◌≤◌, ◌<◌}
use mathlib.Core.Path.{◌≡◌, ap, ◌∙◌, sym}
use mathlib.Core.Bool.{true, false, and-false}
use mathlib.Core.List.{List}
use mathlib.Core.Logic.{⊎_elim}
use native.Mathlib.Omega.{arith}
use borrow.Author.Tests.{lt-leb, lt-ltb, le-ltb}
use lib.ListN.{length, get_or}
use lib.Seq.{get_or-drop, get_or-take}
use Rattle.exact.proofs.Naturals.{below_or}
use Rattle.naming.specs.declared.Name.{Name}
use Rattle.naming.specs.Name.{name_byte, is_zero, every, sixteen, bytes_of, past_end, is_name, in_place}
use Rattle.naming.proofs.Named.{well-formed, length-bytes, length-past}
use Rattle.naming.proofs.Places.{every-all, every-not}
use Rattle.naming.proofs.is_name.Goals as goal

module _ (n : Name) where
  abbrev both_words : List ℕ
  both_words = sixteen n.first n.second

  -- ---- each test that fails

  empty : n.len < 1 → is_name n ≡ false
  unfolding is_name
  empty h = simp (lt-leb 1 n.len h, and-false)

  long : 16 < n.len → is_name n ≡ false
  unfolding is_name
  long h = simp (lt-leb n.len 16 h, and-false)

  stray : every name_byte (bytes_of n) ≡ false → is_name n ≡ false
  unfolding is_name
  stray e = simp (e, and-false)

  left_over : every is_zero (past_end n) ≡ false → is_name n ≡ false
  unfolding is_name
  left_over e = simp (e, and-false)

  -- ---- byte i in its place

  within : (i : ℕ) → i < n.len → in_place n.len i (get_or both_words i 0) ≡ name_byte (get_or (bytes_of n) i 0)
  unfolding in_place bytes_of
  within i h = simp (lt-ltb i n.len h, get_or-take n.len both_words i 0 h)

  past : (i : ℕ) → in_place n.len (n.len + i) (get_or both_words (n.len + i) 0) ≡ is_zero (get_or (past_end n) i 0)
  unfolding in_place past_end
  past i = simp (le-ltb (n.len + i) n.len (omega arith), get_or-drop)

  module _ (most : n.len ≤ 16) where
    out-of-place : (i : ℕ) → i < 16 → in_place n.len i (get_or both_words i 0) ≡ false → is_name n ≡ false
    out-of-place i h e = ⊎_elim inside outside (below_or i n.len)
      where
        inside : i < n.len → is_name n ≡ false
        inside m = stray (every-not name_byte (bytes_of n) i (rw (length-bytes n most) m) (sym (within i m) ∙ e))

        outside : n.len ≤ i → is_name n ≡ false
        outside m =
            let k = i - n.len in
            let up : n.len + k ≡ i = omega arith in
            let there : k < length (past_end n) = rw length-past (omega arith) in
            let strange = ap (λ (j : ℕ). in_place n.len j (get_or both_words j 0)) up ∙ e in
            left_over (every-not is_zero (past_end n) k there (sym (past k) ∙ strange))

    in_place_lem : n.first < 2 ^ 64 → n.second < 2 ^ 64 → 1 ≤ n.len → ((i : ℕ) → i < 16 → in_place n.len i (get_or both_words i 0) ≡ true)
        → is_name n ≡ true
    in_place_lem first second some all =
        (well-formed n).1
        (record {
          first_word = first;
          second_word = second;
          some = some;
          most = most;
          stand =
              every-all name_byte (bytes_of n)
              (λ i h. let m : i < n.len = rw (length-bytes n most) at h in sym (within i m) ∙ all i (omega arith));
          zeros =
              every-all is_zero (past_end n)
              (λ i h. let m : i < 16 - n.len = rw length-past at h in sym (past i) ∙ all (n.len + i) (omega arith));
        })

pub returns-then-len-lt1 : goal.returns-then-len-lt1
returns-then-len-lt1 c = sym (empty _ (omega arith))

pub returns-then-len-gt16 : goal.returns-then-len-gt16
returns-then-len-gt16 c = sym (long _ (omega arith))

pub returns-then-not-in_place : goal.returns-then-not-in_place
returns-then-not-in_place c =
    let judged = ap (in_place c.args.n.len c.loop-i.i) (sym c.byte_at.ensures) ∙ sym c.in_place.ensures in
    sym (out-of-place c.args.n (omega arith) c.loop-i.i (omega arith) (judged ∙ c.if-not-in_place.true))

pub returns : goal.returns
returns c =
    let n = c.args.n in
    sym (in_place_lem n (omega arith) (omega arith) (omega arith) (omega arith) (λ i h. c.loop-i.invariant i (omega arith)))
