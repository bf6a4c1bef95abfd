-- A pulse changes no length: neither of the rows nor of the scratch. Assumes nothing.
use Rattle.quant.specs.declared.refusal.Refusal.{Refusal}
use Rattle.std.specs.Prelude.{Result, Ok, Err}
use Prim.Native.Nat.{ℕ, ◌+◌, ◌-◌, ◌≤◌}
use native.Mathlib.Omega.{arith}
use mathlib.Core.Path.{◌≡◌, refl, sym, ◌∙◌}
use mathlib.Core.Bool.{Bool, true, false, ◌&&◌, cond}
use mathlib.Core.List.{List, ◌++◌}
use lib.Dec.{eqb}
use lib.Ieee.{Float}
use lib.ListN.{length, take, drop, length-append, length-take, length-drop}
use borrow.Author.Tests.{eqb-true}
use Rattle.quant.specs.declared.settings.Settings.{Settings}
use Rattle.pulse.specs.declared.bin.Bin.{Bin}
use Rattle.mix.specs.Part.{part_fits, on_part, first_row, second_row}
use Rattle.mix.proofs.Parts.{first_holds, second_holds}
use Rattle.mix.proofs.Samples.{carried-length, shaped-length}
use Rattle.placing.specs.declared.Judged.{Judged}
use Rattle.placing.specs.declared.Judged.TheVariants.{Plateau, Shaped}
use Rattle.mixdown.specs.Sampled.{Rowed, added_to}
use Rattle.mixdown.proofs.Holdings.{after-length}

part_length : (s n : ℕ) (f : List Float → List Float) (row : List Float) → ((xs : List Float) → length (f xs) ≡ length xs) → s + n ≤ length row → length (on_part s n f row) ≡ length row
unfolding on_part
part_length s n f row same h =
    let ends = length-append (take s row) (f (take n (drop s row)) ++ drop (s + n) row) in
    let mid = length-append (f (take n (drop s row))) (drop (s + n) row) in
    let a = length-take s row in
    let b = length-take n (drop s row) in
    let c = length-drop s row in
    let d = length-drop (s + n) row in
    let e = same (take n (drop s row)) in
    ends ∙ (rw (mid, a, e, b, c, d) (omega (arith, h)))

module _ (rows s n : ℕ) (i q : List Float) (f : List Float → List Float) (same : (xs : List Float) → length (f xs) ≡ length xs) where
  pub first-length : length (first_row rows s n i q f) ≡ length i
  first-length = go (part_fits rows (length i) (length q) s n) refl
    where
      go : (b : Bool) → part_fits rows (length i) (length q) s n ≡ b → length (cond b (on_part s n f i) i) ≡ length i
      go true e = part_length s n f i same (first_holds rows (length i) (length q) s n e)
      go false e = refl

  pub second-length : length (second_row rows s n i q f) ≡ length q
  second-length = go (part_fits rows (length i) (length q) s n) refl (eqb rows 2) refl (eqb rows 1) refl
    where
      go : (b : Bool) → part_fits rows (length i) (length q) s n ≡ b → (d : Bool) → eqb rows 2 ≡ d → (o : Bool) → eqb rows 1 ≡ o → length (cond (b && d) (on_part s n f q) q) ≡ length q
      go true e true g false h = part_length s n f q same (second_holds rows (length i) (length q) s n e h)
      go true e true g true h = let z : ◌≡◌ {A = ℕ} 1 2 = sym (eqb-true rows 1 h) ∙ eqb-true rows 2 g in absurd (omega arith)
      go true e false g o h = refl
      go false e d g o h = refl

module _ (s : Settings) (b : Bin) (numbers : List Float) (rows : ℕ) (st : Rowed) where
  pub i-length : (j : Result Judged Refusal) → length (added_to s b numbers rows j st).i ≡ length st.i
  i-length (Ok (Plateau f)) = first-length rows f.start f.count st.i st.q _ (carried-length _ _ _)
  i-length (Ok (Shaped c)) = first-length rows c.start c.points st.i st.q _ (λ xs. shaped-length _ _ _ _ _ _ _ xs)
  i-length (Err r) = refl

  pub q-length : (j : Result Judged Refusal) → length (added_to s b numbers rows j st).q ≡ length st.q
  q-length (Ok (Plateau f)) = second-length rows f.start f.count st.i st.q _ (carried-length _ _ _)
  q-length (Ok (Shaped c)) = second-length rows c.start c.points st.i st.q _ (λ xs. shaped-length _ _ _ _ _ _ _ xs)
  q-length (Err r) = refl

  pub scratch-length : length st.i ≤ length st.scratch → (j : Result Judged Refusal) → length (added_to s b numbers rows j st).scratch ≡ length st.scratch
  scratch-length h (Ok (Plateau f)) = refl
  scratch-length h (Ok (Shaped c)) = after-length s b numbers c.offset (length st.i - c.start) st.scratch (omega (arith, h))
  scratch-length h (Err r) = refl
