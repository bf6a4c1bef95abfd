-- Lists put one behind the other into the two arrays: what is pushed behind `packed` parts is `packed` again. Assumes nothing.
use Rattle.std.specs.Prelude.{Option, Some, None}
use Prim.Native.Nat.{ℕ, zero, suc, ◌+◌, ◌-◌, ◌≤◌, ◌<◌}
use native.Mathlib.Omega.{arith}
use mathlib.Core.Path.{◌≡◌, refl, sym, ap, ◌∙◌}
use mathlib.Core.Bool.{true, false}
use mathlib.Core.List.{List, [], ◌∷◌, ◌++◌, map, append_assoc, append-nil}
use lib.Ieee.{Float, eq}
use lib.ListN.{length, drop, get_or, set, replicate, length-append, length-map}
use Rattle.exact.specs.Doubles.{nought}
use Rattle.naming.specs.declared.Name.{Name}
use Rattle.tables.specs.declared.Tables.{Tables}
use Rattle.tables.specs.Tables.{found}
use Rattle.merge.specs.declared.taking.Taking.{Taking}
use Rattle.merge.specs.Taking.{Part, part, place_of_part, factor_of_part, packed}
use Rattle.crosstalk.specs.Crosstalk.{part_of, row_parts, pushed}

-- an array whose places are alike
filled : {A : Type 0} (n : ℕ) (xs : List A) (v : A) → length xs ≡ n → ((k : ℕ) → k < n → get_or xs k v ≡ v) → xs ≡ replicate n v
filled zero [] v long each = refl
filled zero (x ∷ xs) v long each = absurd (omega arith)
filled (suc n) [] v long each = absurd (omega arith)
filled {A} (suc n) (x ∷ xs) v long each =
    let rest = filled n xs v (omega arith) (λ k h. each (suc k) (omega arith)) in
    let first : x ≡ v = each 0 (omega arith) in
    rw (first, rest)

-- no list takes part
pub packed-none : (k : Taking) → k.count ≡ 0 → length k.places ≡ 8 → ((i : ℕ) → i < 8 → get_or k.places i 0 ≡ 0)
    → length k.factors ≡ 8 → ((i : ℕ) → i < 8 → get_or k.factors i nought ≡ nought) → k ≡ packed []
unfolding packed
packed-none k count longs places long factors =
    λ i. record { count = count i; places = filled 8 k.places 0 longs places i; factors = filled 8 k.factors nought long factors i }

-- the first of what fills the array up makes room for one more
push-end : {A : Type 0} (xs : List A) (k : ℕ) (d v : A) → set (xs ++ replicate (suc k) d) (length xs) v ≡ (xs ++ (v ∷ [])) ++ replicate k d
push-end [] k d v = refl
push-end {A} (x ∷ xs) k d v = ap (λ (l : List A). x ∷ l) (push-end xs k d v)

map_push : {A B : Type 0} (g : A → B) (xs : List A) (v : A) → map g (xs ++ (v ∷ [])) ≡ map g xs ++ (g v ∷ [])
map_push g [] v = refl
map_push {A} {B} g (x ∷ xs) v = ap (λ (l : List B). g x ∷ l) (map_push g xs v)

-- one of the two arrays
push-array : {B : Type 0} (g : Part → B) (d : B) (done : List Part) (p : Part) → length done < 8
    → set (map g done ++ replicate (8 - length done) d) (length done) (g p) ≡ map g (done ++ (p ∷ [])) ++ replicate (8 - length (done ++ (p ∷ []))) d
push-array {B} g d done p h =
    let more : length (done ++ (p ∷ [])) ≡ length done + 1 = length-append done (p ∷ []) in
    let room : 8 - length done ≡ suc (8 - (length done + 1)) = omega arith in
    rw (more, room, map_push g done p)
    (rw (length-map done g) at (push-end (map g done) (8 - (length done + 1)) d (g p)))

pub push-packed : (done : List Part) (i : ℕ) (f : Float) → length done < 8 → pushed (packed done) (Some i) f ≡ packed (done ++ (part i f ∷ []))
unfolding pushed packed
push-packed done i f h =
    rw (push-array place_of_part 0 done (part i f) h, push-array factor_of_part nought done (part i f) h, length-append done (part i f ∷ []))

-- one list alone
pub one-pushed : (p : Option ℕ) (f : Float) → pushed (packed []) p f ≡ packed (part_of p f [])
unfolding pushed part_of
one-pushed (Some i) f = push-packed [] i f (omega arith)
one-pushed None f = refl

-- ---- a row's lists, name by name

-- after k names: the lists that are there, and those still to come
pub record Turn (t : Tables) (names : List Name) (row : List Float) (k : ℕ) (taking : Taking) : Type 0 where
  pub done : List Part
  pub is : taking ≡ packed done
  pub few : length done ≤ k
  pub whole : done ++ row_parts t (drop k names) (drop k row) ≡ row_parts t names row

module _ (t : Tables) (names : List Name) (row : List Float) (k : ℕ) (taking : Taking) where
  pub turn-count : Turn t names row k taking → taking.count ≤ k
  unfolding packed
  turn-count h = let same : taking.count ≡ length h.done = ap (λ (x : Taking). x.count) h.is in omega (arith, h.few)

  -- no name is left
  pub turn_end : drop k names ≡ [] → Turn t names row k taking → taking ≡ packed (row_parts t names row)
  unfolding row_parts
  turn_end none h =
      let whole : h.done ++ [] ≡ row_parts t names row = rw none at h.whole in
      h.is ∙ ap packed (sym (append-nil h.done) ∙ whole)

  -- a name and its factor
  module _ (n : Name) (f : Float) (at : drop k names ≡ n ∷ drop (k + 1) names) (on : drop k row ≡ f ∷ drop (k + 1) row) where
    abbrev rest : List Part
    rest = row_parts t (drop (k + 1) names) (drop (k + 1) row)

    pub turn-skip : eq f nought ≡ true → Turn t names row k taking → Turn t names row (k + 1) taking
    unfolding row_parts
    turn-skip z h =
        let now : row_parts t (drop k names) (drop k row) ≡ rest = rw (at, on, z) in
        record { done = h.done; is = h.is; few = omega (arith, h.few); whole = ap (λ (l : List Part). h.done ++ l) (sym now) ∙ h.whole }

    pub turn-with : k < 8 → eq f nought ≡ false → Turn t names row k taking → Turn t names row (k + 1) (pushed taking (found t n) f)
    unfolding row_parts part_of pushed
    turn-with room z h = go (found t n) (rw (at, on, z))
      where
        go : (p : Option ℕ) → row_parts t (drop k names) (drop k row) ≡ part_of p f rest → Turn t names row (k + 1) (pushed taking p f)
        go (Some i) now =
            record {
              done = h.done ++ (part i f ∷ []);
              is = ap (λ (x : Taking). pushed x (Some i) f) h.is ∙ push-packed h.done i f (omega (arith, h.few));
              few = rw (length-append h.done (part i f ∷ [])) (omega (arith, h.few));
              whole = append_assoc h.done (part i f ∷ []) rest ∙ ap (λ (l : List Part). h.done ++ l) (sym now) ∙ h.whole;
            }
        go None now = record { done = h.done; is = h.is; few = omega (arith, h.few); whole = ap (λ (l : List Part). h.done ++ l) (sym now) ∙ h.whole }
