-- Lists pasted into a list: two, one behind the other, are one. Assumes nothing.
use Prim.Native.Nat.{ℕ, suc, ◌+◌, ◌≤◌, ◌<◌}
use mathlib.Core.List.{List, [], ◌∷◌, ◌++◌, append_assoc}
use mathlib.Core.Path.{◌≡◌, refl, sym, ap, ◌∙◌}
use native.Mathlib.Nat.{add_assoc, add-zero}
use native.Mathlib.Numerals.{add-one}
use native.Mathlib.Omega.{arith}
use lib.ListN.{length, take, drop, set, length-append, length-drop}
use lib.Seq.{append_snoc, drop-append-add, drop-drop, length-take-le, paste-zero, set_split, take_at}
use Rattle.sheet.specs.Puts.{pasted, Put}

module _ {A : Type 0} (l : List A) (at : ℕ) where
  pub none-pasted : pasted l at [] ≡ l
  none-pasted = sym (paste-zero l at [])

  pub one-pasted : (a : A) → at < length l → set l at a ≡ pasted l at (a ∷ [])
  one-pasted a h =
      set_split l at a h
      ∙ sym (append_snoc (take at l) a (drop (suc at) l))
      ∙ ap (λ (k : ℕ). take at l ++ a ∷ [] ++ drop k l) (sym (add-one at))

  module _ (within : at ≤ length l) (a : List A) where
    head-long : length (take at l ++ a) ≡ at + length a
    head-long = simp (length-append, length-take-le at l within)

    pub pasted-long : at + length a ≤ length l → length (pasted l at a) ≡ length l
    pasted-long h = length-append (take at l ++ a) (drop (at + length a) l) ∙ rw (head-long, length-drop) (omega arith)

    pub two-pasted : (b : List A) → pasted (pasted l at a) (at + length a) b ≡ pasted l at (a ++ b)
    two-pasted b =
        let head : List A = take at l ++ a in
        let rest : List A = drop (at + length a) l in
        let front : take (at + length a) (head ++ rest) ≡ head = take_at head rest (at + length a) head-long in
        let behind : drop (at + length a + length b) (head ++ rest) ≡ drop (at + length (a ++ b)) l =
        ap (λ (n : ℕ). drop (n + length b) (head ++ rest)) (sym head-long)
        ∙ drop-append-add head rest (length b)
        ∙ drop-drop (length b) (at + length a) l
        ∙ ap (λ (n : ℕ). drop n l) (add_assoc at (length a) (length b) ∙ ap (λ (n : ℕ). at + n) (sym (length-append a b))) in
        rw (front, behind, append_assoc (take at l) a b)

-- ---- bytes put one behind the other

pub then : {a b text : List ℕ} {at next last : ℕ} {middle after : List ℕ} → at ≤ length text
    → Put a text at next middle → Put b middle next last after → Put (a ++ b) text at last after
then {a} {b} {text} {at} {next} {last} {middle} {after} within p q =
    record {
      next = rw (length-append a b) (omega (arith, p.next, q.next));
      left = q.left ∙ rw (p.left, p.next) (two-pasted text at within a b);
    }

-- a loop that puts: what is left to put here comes to what was to put at the start
pub record Left (rest all before : List ℕ) (from at : ℕ) (out : List ℕ) : Type 0 where
  pub long : length out ≡ length before
  pub room : from + length all ≤ length before
  pub next : at + length rest ≡ from + length all
  pub same : pasted out at rest ≡ pasted before from all

pub left-all : (all before : List ℕ) (from : ℕ) → from + length all ≤ length before → Left all all before from from before
left-all all before from h = record { long = refl; room = h; next = refl; same = refl }

module _ {all before : List ℕ} {from at : ℕ} {out : List ℕ} where
  pub left-more : {line rest more : List ℕ} {next : ℕ} {after : List ℕ} → more ≡ line ++ rest → Left more all before from at out
      → Put line out at next after → length after ≡ length out → Left rest all before from next after
  left-more {line} {rest} {more} {next} {after} e l p k =
      let size : length more ≡ length line + length rest = ap length e ∙ length-append line rest in
      record {
        long = k ∙ l.long;
        room = l.room;
        next = omega (arith, p.next, l.next);
        same =
            rw (p.left, p.next) (two-pasted out at (omega (arith, l.next, l.room, l.long)) line rest)
            ∙ ap (λ (m : List ℕ). pasted out at m) (sym e)
            ∙ l.same;
      }

  pub left-none : {rest : List ℕ} → rest ≡ [] → Left rest all before from at out → Put all before from at out
  left-none {rest} e l =
      record {
        next = sym (ap (λ (m : List ℕ). at + length m) e ∙ add-zero at) ∙ l.next;
        left = sym (none-pasted out at) ∙ ap (λ (m : List ℕ). pasted out at m) (sym e) ∙ l.same;
      }

  -- the room for the next line
  pub left-room : (line rest : List ℕ) {more : List ℕ} → more ≡ line ++ rest → Left more all before from at out → at + length line ≤ length out
  left-room line rest {more} e l =
      let size : length more ≡ length line + length rest = ap length e ∙ length-append line rest in
      omega (arith, l.next, l.room, l.long)
