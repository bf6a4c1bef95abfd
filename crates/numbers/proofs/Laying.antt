-- Numbers one after another: where they begin, and what is stored of them. Assumes nothing.
use Rattle.std.specs.Prelude.{Some, None}
use Prim.Native.Nat.{ℕ, zero, suc, ◌+◌, ◌-◌, ◌≤◌, ◌<◌}
use mathlib.Core.List.{List, [], ◌∷◌, ◌++◌, append-nil}
use mathlib.Core.Path.{◌≡◌, refl, sym, ap, ◌∙◌}
use mathlib.Core.Logic.{inl, inr}
use native.Mathlib.Nat.{eq-or-lt_of_le, not-suc-le-zero}
use native.Mathlib.Numerals.{add-one}
use native.Mathlib.Omega.{arith}
use lib.Ieee.{Float}
use lib.ListN.{length, take, drop, set, take-append-drop, length-set, drop_of_length-le}
use lib.Seq.{drop-drop, drop-nil, drop-set-lt, take-suc-set, append_snoc, take_at, length-take-le, take_all}
use Rattle.decimal.specs.Digits.{place_of}
use Rattle.decimal.specs.Number.{decimal_of, number_of}
use Rattle.fields.specs.Words.{words_of, first_word}
use Rattle.job.proofs.Listing.{first, last, more, end-within}
use Rattle.numbers.specs.Numbers.{numbers_of, listed, Begun, Stored}

no_number : numbers_of ([] ∷ []) ≡ []
unfolding numbers_of number_of decimal_of
no_number = refl

end_none : (line : List ℕ) → numbers_of (words_of (drop (length line) line)) ≡ []
unfolding words_of
end_none line = let all : length line ≤ length line = omega arith in rw (drop_of_length-le line all) no_number

skip : (left : ℕ) (w : List ℕ) (ws : List (List ℕ)) → 0 < left → drop left (w ∷ ws) ≡ drop (left - 1) ws
skip zero w ws h = absurd (not-suc-le-zero h)
skip (suc n) w ws h = let same : suc n - 1 ≡ n = omega arith in rw same

module _ (line : List ℕ) (at left p : ℕ) (within : at ≤ length line) (place : p ≡ place_of 32 (take (length line - at) (drop at line))) where
  -- ---- passing over words
  module _ (k : ℕ) (some : 0 < left) (so_far : numbers_of (drop left (words_of (drop at line))) ≡ listed line k) where
    pub begun-end : at + p ≡ length line → Begun line k (at + p)
    unfolding numbers_of
    begun-end e =
        let none : drop left (words_of (drop at line)) ≡ [] =
        rw (last line at left p within place e) (skip left (first_word (drop at line)) [] some ∙ drop-nil (left - 1)) in
        record { within = end-within line at left p within place; is = rw e (end_none line ∙ sym (sym so_far ∙ ap numbers_of none)) }

    pub begun-on : (at + p ≡ length line → ⊥) → numbers_of (drop (left - 1) (words_of (drop (at + p + 1) line))) ≡ listed line k
    begun-on n =
        let next : drop left (words_of (drop at line)) ≡ drop (left - 1) (words_of (drop (at + p + 1) line)) =
        rw (more line at left p within place n) (skip left (first_word (drop at line)) (words_of (drop (at + p + 1) line)) some) in
        ap numbers_of (sym next) ∙ so_far

  -- ---- the number of a word
  pub number-none : number_of (take (at + p - at) (drop at line)) ≡ None → numbers_of (words_of (drop at line)) ≡ []
  unfolding numbers_of
  number-none e =
      let bad : number_of (first_word (drop at line)) ≡ None = rw (first line at left p within place) at e in
      elim (eq-or-lt_of_le (end-within line at left p within place)) [
        | inl z ↦ rw (last line at left p within place z, bad)
        | inr h ↦ rw (more line at left p within place (λ z. under z h), bad)
      ]
    where
      under : at + p ≡ length line → at + p < length line → ⊥
      under z h = omega arith

  module _ (x : Float) (e : number_of (take (at + p - at) (drop at line)) ≡ Some x) where
    pub number-last : at + p ≡ length line → numbers_of (words_of (drop at line)) ≡ x ∷ []
    unfolding numbers_of
    number-last z =
        let is : number_of (first_word (drop at line)) ≡ Some x = rw (first line at left p within place) at e in
        rw (last line at left p within place z, is)

    pub number_more : (at + p ≡ length line → ⊥) → numbers_of (words_of (drop at line)) ≡ x ∷ numbers_of (words_of (drop (at + p + 1) line))
    unfolding numbers_of
    number_more n =
        let is : number_of (first_word (drop at line)) ≡ Some x = rw (first line at left p within place) at e in
        rw (more line at left p within place n, is)

-- ---- n numbers are laid, and with the rest they make up all
pub record Laid (all out₀ out : List Float) (n : ℕ) (rest : List Float) : Type 0 where
  pub within : n ≤ length out
  pub same : length out ≡ length out₀
  pub whole : take n out ++ rest ≡ all
  pub tail : drop n out ≡ drop n out₀

pub laid_none : (all out : List Float) → Laid all out out 0 all
laid_none all out = record { within = omega arith; same = refl; whole = refl; tail = refl }

pub laid_next : (all out₀ out : List Float) (n : ℕ) (x : Float) (rest : List Float) → n < length out → Laid all out₀ out n (x ∷ rest) → Laid all out₀ (set out n x) (n + 1) rest
laid_next all out₀ out n x rest h laid =
    let under : n < suc n = omega arith in
    rw (add-one n)
    (record {
      within = simp length-set (omega arith);
      same = simp length-set laid.same;
      whole = rw (take-suc-set out n x h) (append_snoc (take n out) x rest ∙ laid.whole);
      tail = drop-set-lt (suc n) out n x under ∙ sym (drop-drop 1 n out ∙ ap (λ (k : ℕ). drop k out) (add-one n)) ∙ ap (drop 1)
          laid.tail ∙ (drop-drop 1 n out₀ ∙ ap (λ (k : ℕ). drop k out₀) (add-one n));
    })

module _ (line : List ℕ) (k : ℕ) (out₀ out : List Float) (n : ℕ) where
  -- nothing is left to store
  pub stored-all : Laid (listed line k) out₀ out n [] → Stored line k out₀ n out
  stored-all laid =
      let all : take n out ≡ listed line k = sym (append-nil (take n out)) ∙ laid.whole in
      let long : length (listed line k) ≡ n = rw (← all) (length-take-le n out laid.within) in
      let fits : length (listed line k) ≤ length out₀ = omega (arith, laid.within, laid.same) in
      let whole : take (length out₀) (listed line k) ≡ listed line k = take_all (length out₀) (listed line k) fits in
      record { count = rw whole (sym long); left = rw (whole, ← all, ← laid.tail) (sym (take-append-drop n out)) }

  -- the buffer is full
  pub stored-full : (rest : List Float) → length out ≤ n → Laid (listed line k) out₀ out n rest → Stored line k out₀ n out
  stored-full rest h laid =
      let end : n ≡ length out₀ = omega (arith, laid.within, laid.same) in
      let mine : take n out ≡ out = take_all n out h in
      let all : out ++ rest ≡ listed line k = rw mine at laid.whole in
      let part : take (length out₀) (listed line k) ≡ out = rw (← all) (take_at out rest (length out₀) laid.same) in
      let past : length out₀ ≤ n = omega arith in
      let none : drop n out₀ ≡ [] = drop_of_length-le out₀ past in
      record { count = rw part (end ∙ sym laid.same); left = rw (part, none) (sym (append-nil out)) }
