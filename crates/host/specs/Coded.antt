-- An answer over the C border: one number, 0 or the refusal's. Definitions only.
use Rattle.std.specs.Prelude.{◌≡◌, ℕ}
use Rattle.quant.specs.Refusal.{reply_of, Answer}

-- n stands for an answer of which P holds
pub record Coded (P : Answer → Type 0) (n : ℕ) : Type 0 where
  pub answer : Answer
  pub coded : n ≡ (reply_of answer).number
  pub does : P answer
