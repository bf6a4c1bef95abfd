-- How many bins a channel has, and their rows among the lent rows. Assumes nothing.
use Prim.Native.Nat.{ℕ, ◌+◌, ◌*◌, ◌≤◌, ◌<◌}
use native.Mathlib.Omega.{arith}
use mathlib.Core.Path.{◌≡◌, refl, sym, ap, ◌∙◌}
use mathlib.Core.Bool.{Bool, true, false}
use mathlib.Core.List.{List, []}
use lib.Dec.{ltb}
use lib.Ieee.{Float}
use lib.ListN.{length, take, drop, get_or, get_or-eq_default}
use lib.Seq.{take-take, get_or-take, get_or-drop}
use borrow.Author.Tests.{ltb-true, ltb-false}
use Rattle.tables.specs.declared.Tables.{Tables}
use Rattle.tables.specs.Tables.{no_channel}
use Rattle.commands.specs.Play.{rows_of}
use Rattle.commands.proofs.Rows.{part-is, part_length}
use Rattle.mixdown.specs.Starts.{bins_held}

module _ (t : Tables) (i : ℕ) (eight : length t.channels ≡ 8) where
  pub held-past : 8 ≤ i → bins_held t i ≡ 0
  held-past h = rw (get_or-eq_default t.channels no_channel {n = i} (omega (arith, eight))) refl

  pub held-here : (bins_held t i ≡ 0 → ⊥) → i < 8
  held-here some = go (ltb i 8) refl
    where
      go : (b : Bool) → ltb i 8 ≡ b → i < 8
      go true e = ltb-true i 8 e
      go false e = absurd (some (held-past (ltb-false i 8 e)))

module _ (t : Tables) (bins : List (List Float)) (i : ℕ) where
  pub held-most : bins_held t i ≤ 64
  held-most = omega arith

  pub rows-held : take (bins_held t i) (drop (64 * i) bins) ≡ rows_of t bins i
  rows-held = part-is t bins i (bins_held t i) refl

  pub rows_none : bins_held t i ≡ 0 → rows_of t bins i ≡ []
  rows_none e = sym rows-held ∙ rw e refl

  pub rows-many : length t.channels ≡ 8 → length bins ≡ 512 → length (rows_of t bins i) ≡ bins_held t i
  rows-many eight whole = go (ltb i 8) refl
    where
      go : (b : Bool) → ltb i 8 ≡ b → length (rows_of t bins i) ≡ bins_held t i
      go true e = part_length t bins i (bins_held t i) refl (ltb-true i 8 e) whole
      go false e = let none = held-past t i eight (ltb-false i 8 e) in ap length (rows_none none) ∙ sym none

-- the first of them
pub rows-first : (t : Tables) (bins : List (List Float)) (i p : ℕ) → p ≤ bins_held t i → take p (drop (64 * i) bins) ≡ take p (rows_of t bins i)
rows-first t bins i p h = sym (take-take p (bins_held t i) (drop (64 * i) bins) h) ∙ ap (take p) (rows-held t bins i)

pub rows_at : (t : Tables) (bins : List (List Float)) (i p : ℕ) → p < bins_held t i → get_or (rows_of t bins i) p [] ≡ get_or bins (64 * i + p) []
rows_at t bins i p h = ap (λ (l : List (List Float)). get_or l p []) (sym (rows-held t bins i)) ∙ get_or-take (bins_held t i) (drop (64 * i) bins) p [] h ∙ get_or-drop (64 * i) bins p []
