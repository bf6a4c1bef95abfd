use Prim.Native.Nat.{ℕ, ◌+◌, ◌≤◌, ◌<◌}
use mathlib.Core.Path.{◌≡◌, refl, ◌∙◌, sym}
use mathlib.Core.Bool.{true, false}
use mathlib.Core.List.{List}
use native.Mathlib.Omega.{arith}
use native.Mathlib.Numerals.{add-one}
use borrow.Author.Tests.{le-leb, lt-leb}
use lib.ListN.{length, get_or, set, length-set}
use lib.Seq.{paste-zero, paste-suc}
use Rattle.naming.specs.declared.Name.{Name}
use Rattle.naming.specs.Name.{Wrote, sixteen, bytes_of, is_name, writable, written}
use Rattle.naming.proofs.Named.{well-formed}
use Rattle.naming.proofs.Words.{length-sixteen}
use Rattle.naming.proofs.write.Invariants.{Put}
use Rattle.naming.proofs.write.Goals as goal

module _ (n : Name) (text : List ℕ) (at : ℕ) where
  no_name : is_name n ≡ false → Wrote n text at false text
  unfolding writable written
  no_name e = record { answered = simp e; left = simp e }

  no_room : is_name n ≡ true → length text < at + n.len → Wrote n text at false text
  unfolding writable written
  no_room e h =
      let out = lt-leb (at + n.len) (length text) h in
      record { answered = simp (e, out); left = simp (e, out) }

module _ (bytes text : List ℕ) (at len : ℕ) where
  none : Put bytes text at len text 0
  none = record { within = omega arith; long = refl; is = paste-zero text at bytes }

  more : (out : List ℕ) (i : ℕ) → Put bytes text at len out i → i < len → len ≤ length bytes → at + len ≤ length text
      → Put bytes text at len (set out (at + i) (get_or bytes i 0)) (i + 1)
  more out i p h few fits =
      record {
        within = omega arith;
        long = length-set out (at + i) (get_or bytes i 0) ∙ p.long;
        is = rw (p.is, add-one) (paste-suc text at bytes i 0 (omega arith) (omega arith));
      }

whole : (n : Name) (text : List ℕ) (at : ℕ) (out : List ℕ) (i : ℕ) → is_name n ≡ true → at + n.len ≤ length text
    → Put (sixteen n.first n.second) text at n.len out i → n.len ≤ i → Wrote n text at true out
unfolding writable written bytes_of
whole n text at out i e fits p h =
    let there = le-leb (at + n.len) (length text) fits in
    let end : i ≡ n.len = omega arith in
    record { answered = simp (e, there); left = simp (e, there) (rw end at p.is) }

pub returns-then-not-is_name : goal.returns-then-not-is_name
returns-then-not-is_name c =
    let call = c.is_name in
    no_name _ _ _ (sym call.ensures ∙ c.if-not-is_name.true)

pub returns-then-out-len : goal.returns-then-out-len
returns-then-out-len c = no_room _ _ _ (sym c.is_name.ensures ∙ c.if-not-is_name.false) (omega arith)

pub returns-then-out-len-2 : goal.returns-then-out-len-2
returns-then-out-len-2 c = no_room _ _ _ (sym c.is_name.ensures ∙ c.if-not-is_name.false) (omega arith)

pub byte_at-requires : goal.byte_at-requires
byte_at-requires c = omega (arith, ((well-formed c.args.n).0 (sym c.is_name.ensures ∙ c.if-not-is_name.false)).most)

pub loop-put-preserved : goal.loop-put-preserved
loop-put-preserved c =
    let args = c.args in
    let loop = c.loop-put in
    let bytes = sixteen args.n.first args.n.second in
    let few : args.n.len ≤ length bytes = rw length-sixteen ((well-formed c.args.n).0 (sym c.is_name.ensures ∙ c.if-not-is_name.false)).most in
    rw c.byte_at.ensures
    (more bytes args.out.now args.at args.n.len loop.out loop.put loop.invariant (omega arith) few (omega arith))

pub returns : goal.returns
returns c =
    whole _ _ _ _ _ (sym c.is_name.ensures ∙ c.if-not-is_name.false) (omega arith) c.loop-put.invariant (omega arith)
