-- A name looked for among the entries that are there, one place after the other. Assumes nothing.
use Rattle.std.specs.Prelude.{Some, None}
use Prim.Native.Nat.{ℕ, suc, ◌+◌, ◌≤◌, ◌<◌}
use native.Mathlib.Omega.{arith}
use native.Mathlib.Numerals.{add-one}
use mathlib.Core.Path.{◌≡◌, refl, sym, ap, ◌∙◌}
use mathlib.Core.Bool.{Bool, true, false, cond}
use mathlib.Core.List.{List, [], ◌∷◌, map}
use lib.ListN.{length, take, drop, get_or, length-take, length-map, drop_of_length-le}
use lib.Seq.{drop-cons, get_or-take}
use Rattle.naming.specs.declared.Name.{Name}
use Rattle.naming.specs.Name.{same_name}
use Rattle.tables.specs.declared.Channel.{Channel}
use Rattle.tables.specs.declared.Tables.{Tables}
use Rattle.tables.specs.Tables.{channels_in, shapes_in, found_from, found, shape_from, shape_found}

module _ {A : Type 0} (l : List A) (count : ℕ) where
  -- nothing is left
  pub none_left : (i : ℕ) → count ≤ i → drop i (take count l) ≡ []
  none_left i h = drop_of_length-le (take count l) {i = i} (rw length-take (omega arith))

  pub none_over : (i : ℕ) → length l ≤ i → drop i (take count l) ≡ []
  none_over i h = drop_of_length-le (take count l) {i = i} (rw length-take (omega arith))

  pub next-left : (i : ℕ) (d : A) → i < count → i < length l → drop i (take count l) ≡ get_or l i d ∷ drop (i + 1) (take count l)
  next-left i d h k =
      let there : i < length (take count l) = rw length-take (omega arith) in
      rw (add-one i) (drop-cons (take count l) i d there ∙ ap (λ (x : A). x ∷ drop (suc i) (take count l)) (get_or-take count l i d h))

-- ---- channels

pub found-not : (i : ℕ) (n : Name) (cs : List Channel) → cs ≡ [] → found_from i n cs ≡ None
unfolding found_from
found-not i n cs e = rw e

module _ (i : ℕ) (n : Name) (cs rest : List Channel) (c : Channel) (e : cs ≡ c ∷ rest) where
  pub found_here : same_name c.name n ≡ true → found_from i n cs ≡ Some i
  unfolding found_from
  found_here t = rw (e, t)

  pub found-later : same_name c.name n ≡ false → found_from (i + 1) n rest ≡ found_from i n cs
  unfolding found_from
  found-later f = rw (e, f, add-one i)

-- ---- names

pub shape-not : (i : ℕ) (n : Name) (ms : List Name) → ms ≡ [] → shape_from i n ms ≡ None
unfolding shape_from
shape-not i n ms e = rw e

module _ (i : ℕ) (n : Name) (ms rest : List Name) (m : Name) (e : ms ≡ m ∷ rest) where
  pub shape-here : same_name m n ≡ true → shape_from i n ms ≡ Some i
  unfolding shape_from
  shape-here t = rw (e, t)

  pub shape-later : same_name m n ≡ false → shape_from (i + 1) n rest ≡ shape_from i n ms
  unfolding shape_from
  shape-later f = rw (e, f, add-one i)

-- ---- a place that is found is one of those looked at

pub shape-under : (k : ℕ) (n : Name) (ms : List Name) (i : ℕ) → shape_from k n ms ≡ Some i → i < k + length ms
unfolding shape_from
shape-under k n [] i e = let z : ◌≡◌ {A = ℕ} 0 1 = cc in absurd (omega arith)
shape-under k n (m ∷ ms) i e = go (same_name m n) e (shape-under (suc k) n ms i)
  where
    go : (b : Bool) → cond b (Some k) (shape_from (suc k) n ms) ≡ Some i → (shape_from (suc k) n ms ≡ Some i → i < suc k + length ms) → i < k + suc (length ms)
    go true f later = let same : k ≡ i = cc in omega arith
    go false f later = let under = later f in omega arith

-- channels are found by their names
abbrev name_of : Channel → Name
name_of c = c.name

by_names : (k : ℕ) (n : Name) (cs : List Channel) → found_from k n cs ≡ shape_from k n (map name_of cs)
unfolding found_from shape_from
by_names k n [] = refl
by_names k n (c ∷ cs) = rw (by_names (suc k) n cs)

pub found-under : (k : ℕ) (n : Name) (cs : List Channel) (i : ℕ) → found_from k n cs ≡ Some i → i < k + length cs
found-under k n cs i e = rw (length-map cs name_of) at (shape-under k n (map name_of cs) i (sym (by_names k n cs) ∙ e))

module _ (t : Tables) (n : Name) (i : ℕ) where
  pub found-eight : length t.channels ≡ 8 → found t n ≡ Some i → i < 8
  found-eight whole e =
      let under = found-under 0 n (channels_in t) i e in
      let most = rw (length-take t.count t.channels) at under in
      omega (arith, most, whole)

  pub shape-eight : length t.shapes ≡ 8 → shape_found t n ≡ Some i → i < 8
  shape-eight whole e =
      let under = shape-under 0 n (shapes_in t) i e in
      let most = rw (length-take t.named t.shapes) at under in
      omega (arith, most, whole)
