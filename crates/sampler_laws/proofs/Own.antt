-- A channel that is not named takes its own list, and so does one with the unit matrix: of each bin the summed pulses as they stand, no bit
-- changed. For a list that stands by bin, summing and picking out a bin commute; summing twice is summing once; and x times 1.0 is x. Assumes nothing.
use Prim.Native.Nat.{ℕ, ◌≤◌, ◌<◌}
use native.Mathlib.Omega.{arith}
use mathlib.Core.Path.{◌≡◌, refl, sym, ap, ◌∙◌}
use mathlib.Core.Bool.{Bool, true, false, ◌&&◌, ◌||◌, cond, true≢false}
use mathlib.Core.List.{List, [], ◌∷◌, map}
use lib.Dec.{ltb, eqb}
use lib.Ieee.{Float, le}
use borrow.Author.Tests.{ltb-true, eqb-true, eqb-false, ne_eqb}
use Rattle.exact.specs.Doubles.{one}
use Rattle.exact.proofs.Truth.{both}
use Rattle.pulse.specs.declared.list.Pulse.{Pulse}
use Rattle.pulse.specs.List.{stays_before}
use Rattle.pulse.specs.Sorted.{sorted}
use Rattle.pulse.specs.Bin.{place_of}
use Rattle.tables.specs.declared.Tables.{Tables}
use Rattle.commands.specs.Play.{rows_of}
use Rattle.merge.specs.Sum.{plus_p, scaled_p, together, together_in_bin, kept_from, summed_by, summed_again}
use Rattle.merge.specs.Join.{joined}
use Rattle.merge.specs.Taking.{part, records_of, list_of}
use Rattle.merge.proofs.Scaled.{AllFitting, scaled-by-one}
use Rattle.merge.proofs.Next.{joined-one}
use Rattle.merge.proofs.Twice.{bin-twice}
use Rattle.mixdown.specs.Runs.{of_mark}
use Rattle.mixdown.specs.Bins.{is_among, merged_of}

-- ---- a list that stands by bin

-- no bin below b, and none below the one before it
abbrev Rising : ℕ → List Pulse → Type 0
Rising b [] = Unit {0}
Rising b (p ∷ ps) = (b ≤ p.bin) × Rising p.bin ps

stays-bin : (q r : Pulse) → stays_before q r ≡ true → q.bin ≤ r.bin
stays-bin q r e = go (ltb q.bin r.bin) refl (eqb q.bin r.bin) refl (le q.time.0 r.time.0) e
  where
    go : (a : Bool) → ltb q.bin r.bin ≡ a → (b : Bool) → eqb q.bin r.bin ≡ b → (c : Bool) → (a || (b && c)) ≡ true → q.bin ≤ r.bin
    go true f b g c h = let k = ltb-true q.bin r.bin f in omega (arith, k)
    go false f true g c h = let k = eqb-true q.bin r.bin g in omega (arith, k)
    go false f false g c h = absurd (true≢false (sym h))

rising : (p : Pulse) (ps : List Pulse) → sorted (p ∷ ps) ≡ true → Rising p.bin ps
unfolding sorted
rising p [] e = tt
rising p (q ∷ ps) e = let k = both (stays_before p q) (sorted (q ∷ ps)) e in (stays-bin p q k.0, rising q ps k.1)

all-rising : (ps : List Pulse) → sorted ps ≡ true → Rising 0 ps
all-rising [] e = tt
all-rising (p ∷ ps) e = (omega arith, rising p ps e)

lower : (a b : ℕ) (ps : List Pulse) → a ≤ b → Rising b ps → Rising a ps
lower a b [] h r = tt
lower a b (p ∷ ps) h r = (let k = r.0 in omega (arith, k, h), r.1)

-- above a bin none of it is left
none_above : (m b : ℕ) (ps : List Pulse) → m < b → Rising b ps → of_mark m ps ≡ []
unfolding of_mark
none_above m b [] h r = refl
none_above m b (p ∷ ps) h r =
    let apart : eqb p.bin m ≡ false = ne_eqb p.bin m (λ e. let k = r.0 in omega (arith, k, h, e)) in
    rw apart (none_above m p.bin ps (let k = r.0 in omega (arith, k, h)) r.1)

-- ---- picking out a bin, and summing
module _ (tolerance : Float) (m : ℕ) where
  abbrev near : Pulse → Pulse → Bool
  near = together tolerance

  abbrev in_bin : Pulse → Pulse → Bool
  in_bin = together_in_bin tolerance

  -- the three ways of one pulse more
  step : (k p : Pulse) (ps : List Pulse) → k.bin ≤ p.bin → Rising p.bin ps
      → of_mark m (kept_from in_bin (plus_p k p) ps) ≡ cond (eqb k.bin m) (kept_from near (plus_p k p) (of_mark m ps)) (summed_by near (of_mark m ps))
      → of_mark m (kept_from in_bin p ps) ≡ cond (eqb p.bin m) (kept_from near p (of_mark m ps)) (summed_by near (of_mark m ps))
      → of_mark m (kept_from in_bin k (p ∷ ps)) ≡ cond (eqb k.bin m) (kept_from near k (of_mark m (p ∷ ps))) (summed_by near (of_mark m (p ∷ ps)))
  unfolding kept_from summed_by of_mark
  step k p ps h r with_it without = go (eqb k.bin p.bin) refl (near k p) refl (eqb k.bin m) refl (eqb p.bin m) refl
    where
      go : (a : Bool) → eqb k.bin p.bin ≡ a → (b : Bool) → near k p ≡ b → (c : Bool) → eqb k.bin m ≡ c → (d : Bool) → eqb p.bin m ≡ d
          → of_mark m (cond (eqb k.bin p.bin && near k p) (kept_from in_bin (plus_p k p) ps) (k ∷ kept_from in_bin p ps)) ≡ cond (eqb k.bin m) (kept_from near k (cond (eqb p.bin m) (p ∷ of_mark m ps) (of_mark m ps))) (summed_by near (cond (eqb p.bin m) (p ∷ of_mark m ps) (of_mark m ps)))
      go true e true f true g true i = rw (e, f) (with_it ∙ rw (g, i, f) refl)
      go true e true f false g false i = rw (e, f) (with_it ∙ rw (g, i) refl)
      go true e true f true g false i = let x = eqb-true k.bin p.bin e in let y = eqb-true k.bin m g in let z = eqb-false p.bin m i (sym x ∙ y) in absurd z
      go true e true f false g true i = let x = eqb-true k.bin p.bin e in let y = eqb-true p.bin m i in let z = eqb-false k.bin m g (x ∙ y) in absurd z
      go true e false f true g true i =
          let later : cond (eqb p.bin m) (kept_from near p (of_mark m ps)) (summed_by near (of_mark m ps)) ≡ kept_from near p (of_mark m ps) = rw i refl in
          let apart : kept_from near k (p ∷ of_mark m ps) ≡ k ∷ kept_from near p (of_mark m ps) = rw f refl in
          rw (e, f, g, i) (ap (λ (l : List Pulse). k ∷ l) (without ∙ later) ∙ sym apart)
      go true e false f false g false i = rw (e, f, g, i) (without ∙ rw i refl)
      go true e false f true g false i = let x = eqb-true k.bin p.bin e in let y = eqb-true k.bin m g in let z = eqb-false p.bin m i (sym x ∙ y) in absurd z
      go true e false f false g true i = let x = eqb-true k.bin p.bin e in let y = eqb-true p.bin m i in let z = eqb-false k.bin m g (x ∙ y) in absurd z
      go false e b f true g true i = let x = eqb-true k.bin m g in let y = eqb-true p.bin m i in let z = eqb-false k.bin p.bin e (x ∙ sym y) in absurd z
      go false e b f true g false i =
          let x = eqb-true k.bin m g in
          let none = none_above m p.bin ps (let apart = eqb-false k.bin p.bin e in omega (arith, x, h, apart)) r in
          let nothing : cond (eqb p.bin m) (kept_from near p (of_mark m ps)) (summed_by near (of_mark m ps)) ≡ [] = rw (i, none) refl in
          rw (e, g, i) (ap (λ (l : List Pulse). k ∷ l) (without ∙ nothing) ∙ sym (ap (kept_from near k) none))
      go false e b f false g true i = rw (e, g, i) (without ∙ rw i refl)
      go false e b f false g false i = rw (e, g, i) (without ∙ rw i refl)

  kept-picked : (k : Pulse) (ps : List Pulse) → Rising k.bin ps → of_mark m (kept_from in_bin k ps) ≡ cond (eqb k.bin m) (kept_from near k (of_mark m ps)) (summed_by near (of_mark m ps))
  unfolding kept_from summed_by of_mark
  kept-picked k [] r = refl
  kept-picked k (p ∷ ps) r = step k p ps r.0 r.1 (kept-picked (plus_p k p) ps (lower k.bin p.bin ps r.0 r.1)) (kept-picked p ps r.1)

  pub picked-summed : (ps : List Pulse) → Rising 0 ps → of_mark m (summed_by in_bin ps) ≡ summed_by near (of_mark m ps)
  unfolding summed_by of_mark
  picked-summed [] r = refl
  picked-summed (p ∷ ps) r = kept-picked p ps r.1 ∙ go (eqb p.bin m)
    where
      go : (b : Bool) → cond b (kept_from near p (of_mark m ps)) (summed_by near (of_mark m ps)) ≡ summed_by near (cond b (p ∷ of_mark m ps) (of_mark m ps))
      go true = refl
      go false = refl

-- ---- a channel's own list

of-mark-fits : (m : ℕ) (ps : List Pulse) → AllFitting ps → AllFitting (of_mark m ps)
unfolding of_mark
of-mark-fits m [] f = tt
of-mark-fits m (p ∷ ps) f = go (eqb p.bin m) (of-mark-fits m ps f.1)
  where
    go : (b : Bool) → AllFitting (of_mark m ps) → AllFitting (cond b (p ∷ of_mark m ps) (of_mark m ps))
    go true g = (f.0, g)
    go false g = g

-- of channel i, whose records stand by bin and time and are made of doubles: the summed pulses of a bin
pub own-list : (t : Tables) (bins : List (List Float)) (pulses : List Pulse) (i : ℕ) (row : List Float) → sorted (records_of t pulses i) ≡ true → AllFitting (list_of t pulses i) → is_among row (rows_of t bins i) ≡ true
    → merged_of t bins pulses (part i one ∷ []) row ≡ of_mark (place_of row (rows_of t bins i)) (list_of t pulses i)
own-list t bins pulses i row stands fits known =
    let m = place_of row (rows_of t bins i) in
    let mine = of_mark m (list_of t pulses i) in
    let tolerance = t.time.0 in
    let run : cond (is_among row (rows_of t bins i)) (map (scaled_p one) mine) [] ≡ mine = rw known (scaled-by-one mine (of-mark-fits m (list_of t pulses i) fits)) in
    let commutes = picked-summed tolerance m (records_of t pulses i) (all-rising (records_of t pulses i) stands) in
    ap (λ (l : List Pulse). summed_again tolerance (joined (l ∷ []))) run
    ∙ ap (summed_again tolerance) (joined-one mine)
    ∙ ap (summed_again tolerance) commutes
    ∙ bin-twice tolerance (of_mark m (records_of t pulses i))
    ∙ sym commutes
