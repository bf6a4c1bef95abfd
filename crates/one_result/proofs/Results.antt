-- Any two results that a contract allows for one input are equal, buffers too. A contract that is one equation with a definition is `one` by
-- itself; here are the others, each a record of several equations. Assumes nothing.
use Prim.Native.Nat.{ℕ, ◌*◌, ◌^◌}
use Rattle.std.specs.Prelude.{Option}
use mathlib.Core.Path.{◌≡◌, refl, sym, ap, ◌∙◌}
use mathlib.Core.Bool.{Bool, true, false, true≢false}
use mathlib.Core.List.{List, ◌++◌}
use mathlib.Core.Logic.{inl}
use lib.ListN.{length, take, drop}
use lib.Ieee.{Float, binary64, round}
use Rattle.naming.specs.declared.Name.{Name}
use Rattle.quant.specs.Refusal.{code_of, Answer}
use Rattle.naming.specs.Name as Name
use Rattle.hexadecimal.specs.Hex as Hex
use Rattle.fma.specs.Words.{words}
use Rattle.fma.specs.Sticky.{Whole}
use Rattle.trig.specs.Trig.{Both}
use Rattle.mixer.specs.Mixer.{Mixer}
use Rattle.iir.specs.Iir.{Iir}
use Rattle.fir.specs.Fir.{Fir}
use Rattle.host.specs.Coded.{Coded}
use Rattle.sheet.specs.declared.read.Reading.{Reading}
use Rattle.sheet.specs.Sheet.{Behind, value, other, Read, Print}
use Rattle.sheet.specs.Reader.{Starts, parted}
use Rattle.sheet_answer.specs.Answer.{Answered}
use Rattle.crosstalk.specs.declared.names.Crosstalk.{Crosstalk}
use Rattle.job_sheet.specs.declared.Taken.{Taken}
use Rattle.job_sheet.specs.Inset.{Took}
use Rattle.fields.specs.declared.words.Span.{Span}
use Rattle.fields.specs.Words.{Found, spanned}
use Rattle.numbers.specs.Numbers.{Stored, listed}

pub one : {A : Type 0} {x y z : A} → x ≡ z → y ≡ z → x ≡ y
one p q = p ∙ sym q

-- ---- two words rounded: they stand for themselves, at least

abbrev Rounded : Bool → ℕ → ℕ → ℕ → Float → Type 0
Rounded negative h l x r = (s : ℕ) → Whole (words h l) x s → r ≡ round binary64 negative s (2 ^ 2208)

pub one-double : (negative : Bool) (h l x : ℕ) (r s : Float) → Rounded negative h l x r → Rounded negative h l x s → r ≡ s
one-double negative h l x r s a b =
    let self : Whole (words h l) x (words h l * 2 ^ x) = record { sticky = inl refl; clean = λ n. refl } in
    one (a (words h l * 2 ^ x) self) (b (words h l * 2 ^ x) self)

-- ---- the steps: the answer and both rows

pub one-mixer : (rows : ℕ) (i q m o : List Float) (r s : Answer) (i' q' i'' q'' : List Float) → Mixer rows i q m o r i' q' → Mixer rows i q m o s i'' q''
    → (r ≡ s) × (i' ≡ i'') × (q' ≡ q'')
one-mixer rows i q m o r s i' q' i'' q'' a b = (one a.answer b.answer, one a.first b.first, one a.second b.second)

pub one-iir : (rows : ℕ) (i q sections : List Float) (r s : Answer) (i' q' i'' q'' : List Float) → Iir rows i q sections r i' q' → Iir rows i q sections s i'' q''
    → (r ≡ s) × (i' ≡ i'') × (q' ≡ q'')
one-iir rows i q sections r s i' q' i'' q'' a b = (one a.answer b.answer, one a.i-row b.i-row, one a.q-row b.q-row)

pub one-fir : (rows : ℕ) (i q taps : List Float) (r s : Answer) (i' q' i'' q'' : List Float) → Fir rows i q taps r i' q' → Fir rows i q taps s i'' q''
    → (r ≡ s) × (i' ≡ i'') × (q' ≡ q'')
one-fir rows i q taps r s i' q' i'' q'' a b = (one a.answer b.answer, one a.first b.first, one a.second b.second)

-- Over the C border: the number and both rows, of any call P on rows whose answer and rows are the only ones.
module _ (P : Answer → List Float → List Float → Type 0) (only : (r s : Answer) (i q i' q' : List Float) → P r i q → P s i' q' → (r ≡ s) × (i ≡ i') × (q ≡ q')) where
  pub one_code : (m n : ℕ) (i q i' q' : List Float) → Coded (λ (r : Answer). P r i q) m → Coded (λ (r : Answer). P r i' q') n → (m ≡ n) × (i ≡ i') × (q ≡ q')
  one_code m n i q i' q' a b =
      let same = only a.answer b.answer i q i' q' a.does b.does in
      (a.coded ∙ ap code_of same.0 ∙ sym b.coded, same.1, same.2)

module _ (rows : ℕ) (i q numbers : List Float) (m n : ℕ) (i' q' i'' q'' : List Float) where
  pub one-mixer-code : (offsets : List Float) → Coded (λ (r : Answer). Mixer rows i q numbers offsets r i' q') m → Coded (λ (r : Answer). Mixer rows i q numbers offsets r i'' q'') n
      → (m ≡ n) × (i' ≡ i'') × (q' ≡ q'')
  one-mixer-code offsets = one_code (Mixer rows i q numbers offsets) (one-mixer rows i q numbers offsets) m n i' q' i'' q''

  pub one-iir-code : Coded (λ (r : Answer). Iir rows i q numbers r i' q') m → Coded (λ (r : Answer). Iir rows i q numbers r i'' q'') n → (m ≡ n) × (i' ≡ i'') × (q' ≡ q'')
  one-iir-code = one_code (Iir rows i q numbers) (one-iir rows i q numbers) m n i' q' i'' q''

  pub one-fir-code : Coded (λ (r : Answer). Fir rows i q numbers r i' q') m → Coded (λ (r : Answer). Fir rows i q numbers r i'' q'') n → (m ≡ n) × (i' ≡ i'') × (q' ≡ q'')
  one-fir-code = one_code (Fir rows i q numbers) (one-fir rows i q numbers) m n i' q' i'' q''

-- ---- cosine and sine together

pub one-pair : (x c s d t : Float) → Both x c s → Both x d t → (c ≡ d) × (s ≡ t)
one-pair x c s d t a b = (one a.cos b.cos, one a.sin b.sin)

-- ---- words and names put into a text

pub one_word : (word : ℕ) (before : List ℕ) (at : ℕ) (r s : Bool) (t u : List ℕ) → Hex.Wrote word before at r t → Hex.Wrote word before at s u → (r ≡ s) × (t ≡ u)
one_word word before at r s t u a b = (one a.answered b.answered, one a.left b.left)

pub one_name : (n : Name) (before : List ℕ) (at : ℕ) (r s : Bool) (t u : List ℕ) → Name.Wrote n before at r t → Name.Wrote n before at s u → (r ≡ s) × (t ≡ u)
one_name n before at r s t u a b = (one a.answered b.answered, one a.left b.left)

-- ---- the sheet: the answer, the names and the matrix; the bytes printed

pub one-sheet : (text : List ℕ) (before : List Float) (r s : Reading) (m n : List Float) → Read text before r m → Read text before s n
    → (r.answer ≡ s.answer) × (r.names ≡ s.names) × (m ≡ n)
one-sheet text before r s m n a b = (one a.answered b.answered, one a.named b.named, one a.left b.left)

pub one-print : (count : ℕ) (names : List Name) (matrix : List Float) (before : List ℕ) (r s : Answer) (t u : List ℕ)
    → Print count names matrix before r t → Print count names matrix before s u → (r ≡ s) × (t ≡ u)
one-print count names matrix before r s t u a b = (one a.answered b.answered, one a.left b.left)

pub one-sheet-answer : (text before : List ℕ) (r s : Answer) (t u : List ℕ) → Answered text before r t → Answered text before s u → (r ≡ s) × (t ≡ u)
one-sheet-answer text before r s t u a b = (one a.answer b.answer, one a.left b.left)

-- the sheet behind a job's line

pub one-taken : (behind : List ℕ) (count : ℕ) (c : Crosstalk) (before : List Float) (r s : Taken) (m n : List Float) → Took behind count c before r m → Took behind count c before s n
    → (r ≡ s) × (m ≡ n)
one-taken behind count c before r s m n a b = (one a.taken b.taken, one a.left b.left)

-- whether there is anything behind the key
abbrev told : Behind → Bool
told (value bytes) = true
told other = false

same_key : (key line : List ℕ) (r s : Bool) → parted r key line ≡ parted s key line → r ≡ s
same_key key line true true e = refl
same_key key line false false e = refl
same_key key line true false e = absurd (true≢false (ap told e))
same_key key line false true e = absurd (true≢false (sym (ap told e)))

pub one_key : (key line : List ℕ) (r s : Bool) → Starts key line r → Starts key line s → r ≡ s
one_key key line r s a b = same_key key line r s (sym a.parts ∙ b.parts)

-- ---- a job's numbers

pub one_list : (line : List ℕ) (k : ℕ) (before : List Float) (r s : ℕ) (m n : List Float) → Stored line k before r m → Stored line k before s n → (r ≡ s) × (m ≡ n)
one_list line k before r s m n a b =
    let same = one a.count b.count in
    (same, a.left ∙ ap (λ (c : ℕ). take (length before) (listed line k) ++ drop c before) same ∙ sym b.left)

-- The one exception: two answers of `value_at` may be two places, but the same bytes stand there.
pub same-value : (line : List ℕ) (k : ℕ) (key : List ℕ) (r s : Option Span) → Found line k key r → Found line k key s → spanned r line ≡ spanned s line
same-value line k key r s a b = sym a.is ∙ b.is
