-- The rows of a channel's bins: the part of the lent rows that is looked through; and a row read in a list. Assumes nothing.
use Prim.Native.Nat.{ℕ, zero, suc, ◌+◌, ◌-◌, ◌*◌, ◌≤◌, ◌<◌, min}
use native.Mathlib.Omega.{arith}
use mathlib.Core.Path.{◌≡◌, refl, sym, ap, ◌∙◌}
use mathlib.Core.Bool.{Bool, true, false, ◌&&◌, ◌||◌, cond, true≢false}
use mathlib.Core.List.{List, [], ◌∷◌, ◌++◌}
use lib.Dec.{leb, ltb}
use borrow.Author.Tests.{ltb-true, ltb-false, leb-false}
use lib.Ieee.{Float}
use lib.ListN.{length, get_or, take, drop, length-take, length-drop}
use lib.Seq.{take_all, take-take}
use Rattle.exact.proofs.Truth.{neither}
use Rattle.tables.specs.declared.Channel.{Channel}
use Rattle.tables.specs.declared.Tables.{Tables}
use Rattle.tables.specs.Tables.{channel_at}
use Rattle.quant.specs.declared.refusal.Refusal.TheVariants.{Full}
use Rattle.pulse.specs.declared.weight.Weight.{Weight}
use Rattle.pulse.specs.Bin.{place_of}
use Rattle.pulse.proofs.Place.{place-first}
use Rattle.commands.specs.Step.{numbers_at, stops}
use Rattle.commands.specs.Play.{rows_of, stores, stored_at}

-- within a list it does not matter what would stand past its end
pub same-within : {A : Type 0} (l : List A) (k : ℕ) (d e : A) → k < length l → get_or l k d ≡ get_or l k e
same-within [] k d e h = absurd (omega arith)
same-within (x ∷ l) zero d e h = refl
same-within (x ∷ l) (suc k) d e h = same-within l k d e (omega arith)

pub take-most : {A : Type 0} (n : ℕ) (l : List A) → take (min n 64) l ≡ take n (take 64 l)
take-most {A} n l = go (ltb n 64) refl
  where
    go : (b : Bool) → ltb n 64 ≡ b → take (min n 64) l ≡ take n (take 64 l)
    go true e =
        let below = ltb-true n 64 e in
        let least : min n 64 ≡ n = omega arith in
        rw least (sym (take-take n 64 l (omega arith)))
    go false e =
        let over = ltb-false n 64 e in
        let least : min n 64 ≡ 64 = omega arith in
        let short : length (take 64 l) ≤ n = rw length-take (omega arith) in
        rw least (sym (take_all n (take 64 l) short))

-- room for a bin where one is new, and for a pulse
pub not_full : (new : Bool) (bins pulses : ℕ) → ((new && leb 64 bins) || leb 1024 pulses) ≡ false → (new ≡ true → bins < 64) × (pulses < 1024)
not_full true bins pulses e =
    let p = neither (leb 64 bins) (leb 1024 pulses) e in
    (λ _. leb-false 64 bins p.0, leb-false 1024 pulses p.1)
not_full false bins pulses e = (λ f. absurd (true≢false (sym f)), leb-false 1024 pulses e)

module _ (t : Tables) (bins : List (List Float)) (i many : ℕ) (is : many ≡ min (channel_at t i).bins 64) where
  pub part-is : take many (drop (64 * i) bins) ≡ rows_of t bins i
  part-is = rw is (take-most (channel_at t i).bins (drop (64 * i) bins))

  pub part_length : i < 8 → length bins ≡ 512 → length (rows_of t bins i) ≡ many
  part_length h whole =
      sym (ap length part-is) ∙ (rw (length-take many (drop (64 * i) bins), length-drop (64 * i) bins) (omega (arith, is, whole)))

-- the place found in that part, and what is stored there
module _ (t : Tables) (bins : List (List Float)) (i many : ℕ) (c : Channel) (there : c ≡ channel_at t i) (is : many ≡ min c.bins 64) (h : i < 8) (whole : length bins ≡ 512)
    (splines : List (List Float)) (head : List Float) (spline at : ℕ)
    (found : at ≡ place_of (head ++ numbers_at splines spline) (take (64 * i + many - 64 * i) (drop (64 * i) bins))) where
  many_is : many ≡ min (channel_at t i).bins 64
  many_is = rw there at is

  place_is : place_of (head ++ numbers_at splines spline) (rows_of t bins i) ≡ at
  place_is =
      let size : 64 * i + many - 64 * i ≡ many = omega arith in
      sym (rw size at found ∙ ap (place_of (head ++ numbers_at splines spline)) (part-is t bins i many many_is))

  pub place-most : at ≤ 64
  place-most =
      let within = (place-first (head ++ numbers_at splines spline) (rows_of t bins i)).within in
      let long = part_length t bins i many many_is h whole in
      rw (sym place_is) (omega (arith, within, long, is))

  pub stored_is : (start : Float) (w : Weight)
      → stored_at t splines bins i start w head spline
      ≡ cond ((leb many at && leb 64 c.bins) || leb 1024 c.pulses) (stops t Full) (stores t i at (leb many at) start w head spline)
  stored_is start w = rw (place_is, part_length t bins i many many_is h whole, there)
