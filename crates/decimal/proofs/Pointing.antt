-- Figures with a point as a significand, of whatever count. Assumes nothing.
use Rattle.std.specs.Prelude.{None}
use Prim.Native.Nat.{ℕ, suc, ◌+◌}
use mathlib.Core.Path.{◌≡◌, refl, ◌∙◌}
use mathlib.Core.Bool.{Bool, true, false, ◌&&◌}
use mathlib.Core.List.{List, ◌++◌}
use borrow.Author.Tests.{leb-true, leb-false}
use lib.Dec.{leb}
use lib.ListN.{length, take, drop}
use Rattle.wide_decimal.specs.Figures.{worth, without}
use Rattle.decimal.specs.Digits.{place_of}
use Rattle.decimal.specs.Number.{significand_of, with_fraction}
use Rattle.decimal.specs.Ways.{figures_in, pointed_in}
use Rattle.decimal.proofs.Moving.{figures-value, figures-broken}
use Rattle.decimal.proofs.Reading.{significand-none, significand-are}

module _ (text : List ℕ) where
  abbrev front : List ℕ
  front = take (place_of 46 text) text

  abbrev back : List ℕ
  back = drop (suc (place_of 46 text)) text

  pub not-pointed : pointed_in text ≡ false → significand_of 10 text ≡ None
  unfolding pointed_in
  not-pointed e = by (leb 1 (length front + length back)) refl (figures_in (front ++ back)) refl e
    where
      by : (s : Bool) → leb 1 (length front + length back) ≡ s → (t : Bool) → figures_in (front ++ back) ≡ t → s && t ≡ false → significand_of 10 text ≡ None
      by true h true f e = cc
      by true h false f e = significand-are 10 text (leb-true 1 (length front + length back) h) ∙ rw (figures-broken 0 (front ++ back) f)
      by false h t f e = significand-none 10 text (leb-false 1 (length front + length back) h)

  pub is-pointed : (p : ℕ) → p ≡ place_of 46 text → pointed_in text ≡ true → significand_of 10 text ≡ with_fraction (worth (without p text)) (length (drop (suc p) text))
  unfolding pointed_in without
  is-pointed p e y = by (leb 1 (length front + length back)) refl (figures_in (front ++ back)) refl y
    where
      by : (s : Bool) → leb 1 (length front + length back) ≡ s → (t : Bool) → figures_in (front ++ back) ≡ t → s && t ≡ true
          → significand_of 10 text ≡ with_fraction (worth (take p text ++ drop (suc p) text)) (length (drop (suc p) text))
      by true h true f y = significand-are 10 text (leb-true 1 (length front + length back) h) ∙ rw (figures-value 0 (front ++ back) f, e)
      by true h false f y = cc
      by false h t f y = cc
