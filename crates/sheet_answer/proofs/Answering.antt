-- What `answer` promises, from what `read` and `print` promise. The one idea: what was read is never refused by `print`, which is the law
-- `printed-back`. Assumes nothing.
use Rattle.quant.specs.Refusal.{refuse, Answer}
use Rattle.quant.proofs.Refusals.{same-why, same-place}
use Rattle.std.specs.Prelude.{Ok}
use Prim.Native.Nat.{ℕ, ◌+◌, ◌≤◌, ◌<◌}
use mathlib.Core.Path.{◌≡◌, refl, sym, ap, ◌∙◌}
use mathlib.Core.Bool.{Bool, true, false}
use mathlib.Core.List.{List, ◌++◌}
use native.Mathlib.Nat.{zero-add}
use native.Mathlib.Omega.{arith}
use borrow.Author.Tests.{lt-ltb, le-ltb}
use lib.Dec.{ltb}
use lib.Ieee.{Float}
use lib.ListN.{length, drop, length-append}
use Rattle.naming.specs.declared.Name.{Name}
use Rattle.quant.specs.declared.refusal.Refusal.{Refusal}
use Rattle.quant.specs.declared.refusal.Refusal.TheVariants.{WrongSize}
use Rattle.sheet.specs.Sheet.{SoFar, Outcome, accepts, refuses, outcome, answer_of, names_of, matrix_of, Read, sheet_of, sheet_text, printed_of, bytes_after, Print}
use Rattle.sheet.specs.declared.read.Reading.{Reading}
use Rattle.sheet_laws.specs.Words.{count_in, text_printed, print_answers}
use Rattle.sheet_laws.proofs.Laws.{printed-back}
use Rattle.sheet.specs.Puts.{Put}
use Rattle.sheet_answer.specs.Answer.{refused_text, zeros, text_for, answer_text, answer_prints, answer_left, Answered}

-- ---- with too little room

pub no_room : (text before : List ℕ) → length before < 4096 → Answered text before (refuse WrongSize 0) before
unfolding answer_prints answer_left
no_room text before h = record { answer = rw (lt-ltb (length before) 4096 h); left = rw (lt-ltb (length before) 4096 h) }

-- ---- with room

pub answered : (text before bytes : List ℕ) (r : ℕ) (after : List ℕ) → 4096 ≤ length before → answer_text text ≡ bytes → Put bytes before 0 r after
    → Answered text before (Ok r) after
unfolding answer_prints answer_left
answered text before bytes r after room is put =
    record {
      answer = rw (le-ltb (length before) 4096 room, is) (ap Ok (put.next ∙ zero-add (length bytes)));
      left = rw (le-ltb (length before) 4096 room, is) (put.left ∙ ap (λ (n : ℕ). bytes ++ drop n before) (zero-add (length bytes)));
    }

-- the bytes answered are within the room, since the list keeps its length
pub within : (text before : List ℕ) (r : Answer) (size : ℕ) (after : List ℕ) → Answered text before r after → r ≡ Ok size
    → length after ≡ length before → size ≤ length after
unfolding answer_prints answer_left
within text before r size after a is same = by (ltb (length before) 4096) refl
  where
    by : (t : Bool) → ltb (length before) 4096 ≡ t → size ≤ length after
    by true e =
        let none : r ≡ refuse WrongSize 0 = a.answer ∙ rw e in
        let z : ◌≡◌ {A = ℕ} 0 1 = cc in
        omega arith
    by false e =
        let bytes : List ℕ = answer_text text in
        let all : r ≡ Ok (length bytes) = a.answer ∙ rw e in
        let sizes : size ≡ length bytes = cc in
        let left : after ≡ bytes ++ drop (length bytes) before = a.left ∙ rw e in
        let long : length after ≡ length bytes + length (drop (length bytes) before) = ap length left ∙ length-append bytes (drop (length bytes) before) in
        omega arith

-- ---- what the reader answers

pub accepts-is : (o : Outcome) (n : ℕ) → answer_of o ≡ Ok n → (s : SoFar) × (o ≡ accepts s)
unfolding answer_of
accepts-is (accepts s) n e = (s, refl)
accepts-is (refuses q k) n e = let z : ◌≡◌ {A = ℕ} 0 1 = cc in absurd (omega arith)

for-sheet : (o : Outcome) (n : ℕ) (names : List Name) (matrix : List Float) → answer_of o ≡ Ok n → names ≡ names_of o → matrix ≡ matrix_of o zeros
    → text_for o ≡ sheet_text (sheet_of n names matrix)
unfolding answer_of text_for
for-sheet (accepts s) n names matrix a b c = let same : s.count ≡ n = cc in rw (b, c, same)
for-sheet (refuses q k) n names matrix a b c = let z : ◌≡◌ {A = ℕ} 0 1 = cc in absurd (omega arith)

for-refusal : (o : Outcome) (r : Refusal) (line : ℕ) → answer_of o ≡ refuse r line → text_for o ≡ refused_text r line
unfolding answer_of text_for
for-refusal (accepts s) r line e = let z : ◌≡◌ {A = ℕ} 0 1 = cc in absurd (omega arith)
for-refusal (refuses q k) r line e = let one : q ≡ r = same-why _ _ _ _ e in let two : k ≡ line = same-place _ _ _ _ e in rw (one, two)

pub sheet-is : (text : List ℕ) (answer : Reading) (after : List Float) (n : ℕ) → Read text zeros answer after → answer.answer ≡ Ok n
    → answer_text text ≡ sheet_text (sheet_of n answer.names after)
unfolding answer_text zeros
sheet-is text answer after n kept told = for-sheet (outcome text 64) n answer.names after (sym kept.answered ∙ told) kept.named kept.left

pub refusal_is : (text : List ℕ) (answer : Reading) (after : List Float) (r : Refusal) (line : ℕ) → Read text zeros answer after
    → answer.answer ≡ refuse r line → answer_text text ≡ refused_text r line
unfolding answer_text zeros
refusal_is text answer after r line kept told = for-refusal (outcome text 64) r line (sym kept.answered ∙ told)

pub printable : (text : List ℕ) (before : List Float) (answer : Reading) (after : List Float) (n : ℕ) (bytes : List ℕ) → Read text before answer after
    → answer.answer ≡ Ok n → 4096 ≤ length bytes
    → printed_of n answer.names after (length bytes) ≡ Ok (length (sheet_text (sheet_of n answer.names after)))
unfolding text_printed print_answers count_in
printable text before answer after n bytes kept told room =
    let is : answer_of (outcome text (length before)) ≡ Ok n = sym kept.answered ∙ told in
    let read = accepts-is (outcome text (length before)) n is in
    let law = printed-back text before read.0 read.1 in
    let count : n ≡ count_in (answer_of (outcome text (length before))) = sym (ap count_in is) in
    rw (count, kept.named, kept.left) (law.answer bytes (omega (arith, law.short)))

-- ---- what `print` answers and leaves where it does not refuse

module _ (count : ℕ) (names : List Name) (matrix : List Float) (before : List ℕ) (r : Answer) (after : List ℕ) where
  abbrev text : List ℕ
  text = sheet_text (sheet_of count names matrix)

  pub printed-put : (size : ℕ) → printed_of count names matrix (length before) ≡ Ok (length text) → r ≡ Ok size
      → Print count names matrix before r after → Put text before 0 size after
  unfolding bytes_after
  printed-put size fits is p =
      let same : Ok size ≡ Ok (length text) = sym is ∙ p.answered ∙ fits in
      let sizes : size ≡ length text = cc in
      record {
        next = sizes ∙ sym (zero-add (length text));
        left =
            p.left
            ∙ ap (λ (x : Answer). bytes_after count names matrix x before) fits
            ∙ ap (λ (n : ℕ). text ++ drop n before) (sym (zero-add (length text)));
      }

  pub not-refused : (why : Refusal) (line : ℕ) → printed_of count names matrix (length before) ≡ Ok (length text) → r ≡ refuse why line
      → Print count names matrix before r after → ⊥
  not-refused why line fits is p =
      let same : refuse why line ≡ Ok (length text) = sym is ∙ p.answered ∙ fits in
      let z : ◌≡◌ {A = ℕ} 0 1 = cc in
      omega arith
