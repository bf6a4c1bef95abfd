-- One turn of a loop that puts a value into the place of each point: after k turns the first k are values. Assumes nothing.
use Prim.Native.Nat.{ℕ, ◌+◌, ◌<◌, ◌≤◌}
use native.Mathlib.Omega.{arith}
use mathlib.Core.Path.{◌≡◌, refl, sym, ap, ◌∙◌}
use mathlib.Core.List.{List, [], ◌∷◌, map}
use lib.ListN.{length, get_or, set, replicate, length-set, length-map, get_or-map}
use lib.Ieee.{Float, nan}
use Rattle.rows.proofs.Turns.{upto, upto-get, upto_next, upto-end}

pub record Valued (f : Float → Float) (part₀ part : List Float) (k : ℕ) : Type 0 where
  pub within : k ≤ length part₀
  pub same : length part ≡ length part₀
  pub done : part ≡ upto (map f part₀) part₀ k

module _ (f : Float → Float) (part₀ part : List Float) (k : ℕ) where
  pub valued-turn : k < length part₀ → Valued f part₀ part k → (y : Float) → y ≡ f (get_or part k nan) → Valued f part₀ (set part k y) (k + 1)
  valued-turn h i y e =
      let new = map f part₀ in
      let old : get_or part k nan ≡ get_or part₀ k nan = ap (λ (l : List Float). get_or l k nan) i.done ∙ upto-get new part₀ k nan in
      record {
        within = omega arith;
        same = length-set part k y ∙ i.same;
        done = ap (λ (l : List Float). set l k y) i.done ∙ upto_next new part₀ k (f nan) y h (length-map part₀ f) (get_or-map f part₀ k nan ∙ ap f (sym old) ∙ sym e);
      }

  pub valued-all : length part₀ ≤ k → Valued f part₀ part k → part ≡ map f part₀
  valued-all h i =
      let end : k ≡ length part₀ = omega (arith, i.within) in
      i.done ∙ ap (upto (map f part₀) part₀) end ∙ upto-end (map f part₀) part₀ (length-map part₀ f)

-- one value wherever the point is
pub constant : (v : Float) (l : List Float) → map (λ (x : Float). v) l ≡ replicate (length l) v
constant v [] = refl
constant v (x ∷ l) = ap (λ (m : List Float). v ∷ m) (constant v l)
