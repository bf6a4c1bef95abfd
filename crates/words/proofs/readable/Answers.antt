use Prim.Native.Nat.{ℕ, zero, suc, ◌+◌, ◌*◌, ◌<◌, ◌≤◌}
use mathlib.Core.Path.{◌≡◌, sym, ◌∙◌}
use mathlib.Core.Bool.{false, and-false}
use mathlib.Core.List.{List}
use mathlib.Core.Logic.{⊎_elim}
use native.Mathlib.Omega.{arith}
use borrow.Author.Tests.{eq-eqb}
use Rattle.std.proofs.lemmas.Bool.{cases_lt}
use Rattle.lines.specs.Field.{number_at}
use Rattle.words.specs.Words.{is_word, words_stand, readable_as}
use Rattle.words.proofs.readable.Goals as goal

-- one that is missing among the first so many
missing : (line : List ℕ) (k n : ℕ) → k < n → is_word (number_at line (1 + 17 * k)) ≡ false → words_stand line n ≡ false
unfolding words_stand
missing line k zero h e = absurd (omega arith)
missing line k (suc n) h e =
    ⊎_elim
    (λ (m : k < n). simp (missing line k n m e, and-false))
    (λ (m : n ≤ k). let same : n ≡ k = omega arith in rw (same, e))
    (cases_lt k n)

pub returns-then-not-is_word : goal.returns-then-not-is_word
unfolding readable_as
returns-then-not-is_word c =
    let bad = missing c.args.line.now c.loop-k.k c.args.count (omega arith) (sym c.is_word.ensures ∙ c.if-not-is_word.true) in
    rw (eq-eqb _ _ c.if-line-words.false, bad)

pub returns : goal.returns
unfolding readable_as
returns c =
    let end : c.args.count ≡ c.loop-k.k = omega arith in
    rw (eq-eqb _ _ c.if-line-words.false, end, c.loop-k.invariant)
