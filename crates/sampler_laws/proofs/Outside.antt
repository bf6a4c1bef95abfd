-- An accepted pulse changes no sample outside its range, in either row. Assumes nothing.
use Rattle.quant.specs.declared.refusal.Refusal.{Refusal}
use Rattle.std.specs.Prelude.{Result, Ok, Err}
use Prim.Native.Nat.{ℕ, ◌+◌, ◌≤◌, ◌<◌}
use native.Mathlib.Omega.{arith}
use mathlib.Core.Path.{◌≡◌, refl, ◌∙◌}
use mathlib.Core.Bool.{Bool, true, false, ◌&&◌, cond}
use mathlib.Core.List.{List}
use lib.Dec.{eqb}
use lib.Ieee.{Float, nan}
use lib.ListN.{length, take, drop, get_or, length-drop}
use lib.Seq.{length-take-le}
use borrow.Author.Tests.{eqb-true}
use Rattle.quant.specs.declared.settings.Settings.{Settings}
use Rattle.pulse.specs.declared.bin.Bin.{Bin}
use Rattle.mix.specs.Part.{part_fits, on_part, first_row, second_row}
use Rattle.mix.proofs.Parts.{first_holds, second_holds}
use Rattle.mix.proofs.Samples.{before-part, behind-part, carried-length, shaped-length}
use Rattle.placing.specs.declared.Judged.{Judged}
use Rattle.placing.specs.declared.Judged.TheVariants.{Plateau, Shaped}
use Rattle.mixdown.specs.Sampled.{Rowed, added_to}
use Rattle.sampler_laws.specs.Added.{from_of, length_of}

-- outside a part: before it, or behind it
pub data Outside (s n k : ℕ) : Type 0 where
  before : k < s → Outside s n k
  behind : s + n ≤ k → Outside s n k

part_stays : (s n k : ℕ) (f : List Float → List Float) (row : List Float) → ((xs : List Float) → length (f xs) ≡ length xs) → s + n ≤ length row → Outside s n k → get_or (on_part s n f row) k nan ≡ get_or row k nan
part_stays s n k f row same h (before g) = before-part s n f row h (same (take n (drop s row)) ∙ length-take-le n (drop s row) (let d = length-drop s row in omega (arith, d, h))) k g
part_stays s n k f row same h (behind g) = behind-part s n f row h (same (take n (drop s row)) ∙ length-take-le n (drop s row) (let d = length-drop s row in omega (arith, d, h))) k g

module _ (rows s n k : ℕ) (i q : List Float) (f : List Float → List Float) (same : (xs : List Float) → length (f xs) ≡ length xs) (o : Outside s n k) where
  first-stays : get_or (first_row rows s n i q f) k nan ≡ get_or i k nan
  first-stays = go (part_fits rows (length i) (length q) s n) refl
    where
      go : (b : Bool) → part_fits rows (length i) (length q) s n ≡ b → get_or (cond b (on_part s n f i) i) k nan ≡ get_or i k nan
      go true e = part_stays s n k f i same (first_holds rows (length i) (length q) s n e) o
      go false e = refl

  second-stays : get_or (second_row rows s n i q f) k nan ≡ get_or q k nan
  second-stays = go (part_fits rows (length i) (length q) s n) refl (eqb rows 2) refl (eqb rows 1) refl
    where
      go : (b : Bool) → part_fits rows (length i) (length q) s n ≡ b → (d : Bool) → eqb rows 2 ≡ d → (x : Bool) → eqb rows 1 ≡ x → get_or (cond (b && d) (on_part s n f q) q) k nan ≡ get_or q k nan
      go true e true g false h = part_stays s n k f q same (second_holds rows (length i) (length q) s n e h) o
      go true e true g true h = let a = eqb-true rows 1 h in let b = eqb-true rows 2 g in absurd (omega (arith, a, b))
      go true e false g x h = refl
      go false e d g x h = refl

module _ (s : Settings) (b : Bin) (numbers : List Float) (rows k : ℕ) (st : Rowed) where
  pub outside-i : (d : Result Judged Refusal) → Outside (from_of d) (length_of d) k → get_or (added_to s b numbers rows d st).i k nan ≡ get_or st.i k nan
  outside-i (Ok (Plateau f)) o = first-stays rows f.start f.count k st.i st.q _ (carried-length _ _ _) o
  outside-i (Ok (Shaped c)) o = first-stays rows c.start c.points k st.i st.q _ (λ xs. shaped-length _ _ _ _ _ _ _ xs) o
  outside-i (Err r) o = refl

  pub outside-q : (d : Result Judged Refusal) → Outside (from_of d) (length_of d) k → get_or (added_to s b numbers rows d st).q k nan ≡ get_or st.q k nan
  outside-q (Ok (Plateau f)) o = second-stays rows f.start f.count k st.i st.q _ (carried-length _ _ _) o
  outside-q (Ok (Shaped c)) o = second-stays rows c.start c.points k st.i st.q _ (λ xs. shaped-length _ _ _ _ _ _ _ xs) o
  outside-q (Err r) o = refl
