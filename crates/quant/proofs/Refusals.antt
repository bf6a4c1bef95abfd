-- Of two equal refusals number and place are equal. By the parts of an answer. Assumes nothing.
use Prim.Native.Nat.{ℕ}
use mathlib.Core.Path.{◌≡◌, ap}
use Rattle.std.specs.Prelude.{Ok, Err}
use Rattle.quant.specs.declared.refusal.Refusal.{Refusal}
use Rattle.quant.specs.Refusal.{Answer, refuse}

abbrev why_or : Refusal → Answer → Refusal
why_or r (Ok n) = r
why_or r (Err e) = e.why

abbrev place_or : ℕ → Answer → ℕ
place_or k (Ok n) = k
place_or k (Err e) = e.place

module _ (r s : Refusal) (k j : ℕ) (e : refuse r k ≡ refuse s j) where
  pub same-why : r ≡ s
  same-why = ap (why_or r) e

  pub same-place : k ≡ j
  same-place = ap (place_or k) e
