-- A plan is refused in one of four ways or holds exactly the lists that take part, at most eight, each at one of the tables' eight places; and
-- the unit matrix gives what a channel that is not named gets: its own list alone. Assumes nothing.
use Rattle.quant.specs.Refusal.{Answer}
use Rattle.std.specs.Prelude.{Option, Some, None, Ok, Err}
use Prim.Native.Nat.{ℕ, zero, suc, ◌+◌, ◌*◌, ◌≤◌, ◌<◌}
use native.Mathlib.Omega.{arith}
use mathlib.Core.Path.{◌≡◌, refl, ap, ◌∙◌}
use mathlib.Core.Bool.{Bool, true, false, cond, true≢false}
use mathlib.Core.List.{List, [], ◌∷◌, map}
use lib.Ieee.{Float, nan, eq, of_bits, of_fields}
use lib.ListN.{length, take, drop, get_or, length-map, length-take, length-drop}
use lib.Seq.{take_at, get_or-take, get_or-drop, length-take-le}
use Rattle.exact.specs.Doubles.{nought, one}
use Rattle.naming.specs.declared.Name.{Name}
use Rattle.quant.specs.declared.refusal.Refusal.{Refusal}
use Rattle.quant.specs.declared.refusal.Refusal.TheVariants as why
use Rattle.naming.specs.Name.{same_name}
use Rattle.naming.proofs.Named.{same-exactly}
use Rattle.tables.specs.declared.Tables.{Tables}
use Rattle.tables.specs.Tables.{found}
use Rattle.tables.proofs.Finding.{found-eight}
use Rattle.merge.specs.Taking.{Part, part, place_of_part, factor_of_part, packed, zipped, parts_in}
use Rattle.crosstalk.specs.declared.names.Crosstalk.{Crosstalk}
use Rattle.crosstalk.specs.Crosstalk.{Plan, names_in, cross_fits, cross_fine, is_known, names_judged, refused_plan, accepted_plan, unless_named, planned, is_refused, taking_of}
use Rattle.crosstalk.specs.Crosstalk.{row_from, row_of, part_of, row_parts, own_parts, row_at, parts_at, parts_for}
use Rattle.crosstalk.proofs.Fitting.{fitting, row_below, row_within}
use Rattle.crosstalk.specs.Faults.{name_at, FirstAtFault}
use Rattle.crosstalk.proofs.Faults.{name-told, told-done}

-- ---- what a plan says

-- nothing refuses
pub record Passes (t : Tables) (channel : Name) (c : Crosstalk) (factors : List Float) : Type 0 where
  pub fits : cross_fits c.count (length factors) ≡ true
  pub fine : cross_fine channel c (take (c.count * c.count) factors) ≡ true
  pub clear : names_judged t [] (names_in c) ≡ Ok 0
  pub known : is_known (found t channel) ≡ true

module _ (t : Tables) (channel : Name) (c : Crosstalk) (factors : List Float) where
  -- the one way to each plan, in the order of the refusals
  pub data Way : Plan → Type 0 where
    wrong_size : cross_fits c.count (length factors) ≡ false → Way (refused_plan why.WrongSize 0)
    malformed : cross_fits c.count (length factors) ≡ true → cross_fine channel c (take (c.count * c.count) factors) ≡ false → Way (refused_plan why.Malformed 0)
    at-fault : cross_fits c.count (length factors) ≡ true → cross_fine channel c (take (c.count * c.count) factors) ≡ true
        → (r : Refusal) (k : ℕ) → FirstAtFault t (names_in c) r k → Way (refused_plan r k)
    unknown : cross_fits c.count (length factors) ≡ true → cross_fine channel c (take (c.count * c.count) factors) ≡ true
        → names_judged t [] (names_in c) ≡ Ok 0 → is_known (found t channel) ≡ false → Way (refused_plan why.UnknownChannel 0)
    accepted : Passes t channel c factors → Way (accepted_plan (packed (parts_for t channel c factors)))

  pub way : Way (planned t channel c factors)
  unfolding planned
  way = by (cross_fits c.count (length factors)) (cross_fine channel c (take (c.count * c.count) factors)) (names_judged t [] (names_in c)) (is_known (found t channel)) refl refl refl refl
    where
      by : (u v : Bool) (a : Answer) (y : Bool) → cross_fits c.count (length factors) ≡ u → cross_fine channel c (take (c.count * c.count) factors) ≡ v
          → names_judged t [] (names_in c) ≡ a → is_known (found t channel) ≡ y
          → Way (cond u (cond v (unless_named a (cond y (accepted_plan (packed (parts_for t channel c factors))) (refused_plan why.UnknownChannel 0))) (refused_plan why.Malformed 0)) (refused_plan why.WrongSize 0))
      by false v a y f g h k = wrong_size f
      by true false a y f g h k = malformed f g
      by true true (Err e) y f g h k = at-fault f g e.why e.place ((name-told t (names_in c) e.why e.place).0 h)
      by true true (Ok n) y f g h k = passed y k (h ∙ ap Ok (told-done t (names_in c) n h))
        where
          passed : (y : Bool) → is_known (found t channel) ≡ y → names_judged t [] (names_in c) ≡ Ok 0
              → Way (cond y (accepted_plan (packed (parts_for t channel c factors))) (refused_plan why.UnknownChannel 0))
          passed false k h = unknown f g h k
          passed true k h = accepted (record { fits = f; fine = g; clear = h; known = k })

  pub passed-all : is_refused (planned t channel c factors) ≡ false → Passes t channel c factors
  passed-all e = by (planned t channel c factors) way e
    where
      by : (p : Plan) → Way p → is_refused p ≡ false → Passes t channel c factors
      by p (wrong_size f) e = absurd (true≢false e)
      by p (malformed f g) e = absurd (true≢false e)
      by p (at-fault f g r k h) e = absurd (true≢false e)
      by p (unknown f g h k) e = absurd (true≢false e)
      by p (accepted passes) e = passes

  pub accepted-is : Passes t channel c factors → planned t channel c factors ≡ accepted_plan (packed (parts_for t channel c factors))
  unfolding planned
  accepted-is p = rw (p.fits, p.fine, p.clear, p.known)

  -- the first name at fault is told, in the plan's own place in the order
  pub name-planned : cross_fits c.count (length factors) ≡ true → cross_fine channel c (take (c.count * c.count) factors) ≡ true
      → (r : Refusal) (k : ℕ) → FirstAtFault t (names_in c) r k → planned t channel c factors ≡ refused_plan r k
  unfolding planned
  name-planned fits fine r k f = rw (fits, fine, (name-told t (names_in c) r k).1 f)

-- ---- what the two arrays hold

zip-back : (ps : List Part) → zipped (map place_of_part ps) (map factor_of_part ps) ≡ ps
unfolding zipped
zip-back [] = refl
zip-back (p ∷ ps) = ap (λ (l : List Part). p ∷ l) (zip-back ps)

pub parts-packed : (ps : List Part) → parts_in (packed ps) ≡ ps
unfolding packed
parts-packed ps = rw (take_at (map place_of_part ps) _ (length ps) (length-map ps place_of_part), take_at (map factor_of_part ps) _ (length ps) (length-map ps factor_of_part)) (zip-back ps)

-- each place is one of eight
abbrev pub PlacesFit : List Part → Type 0
PlacesFit ps = (i : ℕ) → get_or (map place_of_part ps) i 0 < 8

part-few : (p : Option ℕ) (f : Float) (ps : List Part) → length (part_of p f ps) ≤ suc (length ps)
unfolding part_of
part-few (Some i) f ps = omega arith
part-few None f ps = omega arith

part-fits : (p : Option ℕ) (f : Float) (ps : List Part) → ((i : ℕ) → p ≡ Some i → i < 8) → PlacesFit ps → PlacesFit (part_of p f ps)
unfolding part_of
part-fits (Some k) f ps h l zero = h k refl
part-fits (Some k) f ps h l (suc i) = l i
part-fits None f ps h l i = l i

module _ (t : Tables) where
  row-few : (ns : List Name) (fs : List Float) → length (row_parts t ns fs) ≤ length ns
  unfolding row_parts
  row-few [] fs = omega arith
  row-few (n ∷ ns) [] = omega arith
  row-few (n ∷ ns) (f ∷ fs) = go (eq f nought) (row-few ns fs)
    where
      go : (b : Bool) → length (row_parts t ns fs) ≤ length ns → length (cond b (row_parts t ns fs) (part_of (found t n) f (row_parts t ns fs))) ≤ suc (length ns)
      go true h = omega arith
      go false h = let more = part-few (found t n) f (row_parts t ns fs) in omega arith

  module _ (whole : length t.channels ≡ 8) where
    row_fits : (ns : List Name) (fs : List Float) → PlacesFit (row_parts t ns fs)
    unfolding row_parts
    row_fits [] fs i = omega arith
    row_fits (n ∷ ns) [] i = omega arith
    row_fits (n ∷ ns) (f ∷ fs) i = go (eq f nought) (row_fits ns fs) i
      where
        go : (b : Bool) → PlacesFit (row_parts t ns fs) → PlacesFit (cond b (row_parts t ns fs) (part_of (found t n) f (row_parts t ns fs)))
        go true h i = h i
        go false h i = part-fits (found t n) f (row_parts t ns fs) (λ k e. found-eight t n k whole e) h i

  module _ (channel : Name) (c : Crosstalk) (factors : List Float) where
    few-at : (p : Option ℕ) → c.count ≤ 8 → length (parts_at t channel c factors p) ≤ 8
    unfolding parts_at
    few-at (Some r) h =
        let most = row-few (names_in c) (row_at r c.count factors) in
        let names = rw (length-take c.count c.names) at most in
        omega (arith, names)
    few-at None h = let one_more = part-few (found t channel) one [] in omega arith

    fits-at : length t.channels ≡ 8 → (p : Option ℕ) → PlacesFit (parts_at t channel c factors p)
    unfolding parts_at
    fits-at whole (Some r) i = row_fits whole (names_in c) (row_at r c.count factors) i
    fits-at whole None i = part-fits (found t channel) one [] (λ k e. found-eight t channel k whole e) (λ k. omega arith) i

    pub record Takes : Type 0 where
      pub parts : parts_in (taking_of (planned t channel c factors)) ≡ parts_for t channel c factors
      pub few : length (parts_for t channel c factors) ≤ 8
      pub places : length t.channels ≡ 8 → PlacesFit (parts_for t channel c factors)

    -- an accepted plan has exactly the lists that take part
    pub plan-parts : is_refused (planned t channel c factors) ≡ false → Takes
    plan-parts e =
        let p = passed-all t channel c factors e in
        let at = row_of channel (names_in c) in
        record {
          parts = ap (λ (x : Plan). parts_in (taking_of x)) (accepted-is t channel c factors p) ∙ parts-packed (parts_for t channel c factors);
          few = few-at at (fitting c.count (length factors) p.fits).few;
          places = λ whole. fits-at whole at;
        }

-- ---- the unit matrix

-- 1.0 on the diagonal, and zeros of either sign elsewhere
pub record UnitMatrix (count : ℕ) (factors : List Float) : Type 0 where
  pub on : (r : ℕ) → r < count → get_or factors (r * count + r) nan ≡ one
  pub off : (r k : ℕ) → r < count → k < count → (k ≡ r → ⊥) → eq (get_or factors (r * count + k) nan) nought ≡ true

above : (k : ℕ) (n : Name) (ns : List Name) (r : ℕ) → row_from k n ns ≡ Some r → k ≤ r
unfolding row_from
above k n [] r e = let z : ◌≡◌ {A = ℕ} 0 1 = cc in absurd (omega arith)
above k n (m ∷ ns) r e = go (same_name m n) e (above (suc k) n ns r)
  where
    go : (b : Bool) → cond b (Some k) (row_from (suc k) n ns) ≡ Some r → (row_from (suc k) n ns ≡ Some r → suc k ≤ r) → k ≤ r
    go true f later = let same : k ≡ r = cc in omega arith
    go false f later = let over = later f in omega arith

-- the channel's name stands in its row's place
row-name : (k : ℕ) (n : Name) (ns : List Name) (r : ℕ) → row_from k n ns ≡ Some (k + r) → name_at ns r ≡ n
unfolding row_from
row-name k n [] r e = let z : ◌≡◌ {A = ℕ} 0 1 = cc in absurd (omega arith)
row-name k n (m ∷ ns) r e = go (same_name m n) refl e r refl (row-name (suc k) n ns)
  where
    go : (b : Bool) → same_name m n ≡ b → cond b (Some k) (row_from (suc k) n ns) ≡ Some (k + r) → (j : ℕ) → r ≡ j
        → ((j : ℕ) → row_from (suc k) n ns ≡ Some (suc k + j) → name_at ns j ≡ n) → name_at (m ∷ ns) j ≡ n
    go true s e zero j later = (same-exactly m n).0 s
    go true s e (suc j) i later = let z : k ≡ k + r = cc in absurd (omega arith)
    go false s e zero i later = let under = above (suc k) n ns (k + r) e in absurd (omega arith)
    go false s e (suc j) i later = later j (e ∙ ap Some (omega arith))

row-zeros : (t : Tables) (ns : List Name) (fs : List Float) → ((k : ℕ) → k < length fs → eq (get_or fs k nan) nought ≡ true) → row_parts t ns fs ≡ []
unfolding row_parts
row-zeros t [] fs h = refl
row-zeros t (n ∷ ns) [] h = refl
row-zeros t (n ∷ ns) (f ∷ fs) h = rw (h 0 (omega arith)) (row-zeros t ns fs (λ k under. h (suc k) (omega arith)))

-- 1.0 is not skipped
one-stays : eq one nought ≡ false
unfolding eq of_bits of_fields
one-stays = refl

row-alone : (t : Tables) (ns : List Name) (fs : List Float) (r : ℕ) → r < length ns → r < length fs → get_or fs r nan ≡ one
    → ((k : ℕ) → k < length fs → (k ≡ r → ⊥) → eq (get_or fs k nan) nought ≡ true) → row_parts t ns fs ≡ part_of (found t (name_at ns r)) one []
unfolding row_parts
row-alone t [] fs r h l on off = absurd (omega arith)
row-alone t (n ∷ ns) [] r h l on off = absurd (omega arith)
row-alone t (n ∷ ns) (f ∷ fs) zero h l on off =
    let rest = row-zeros t ns fs (λ k under. off (suc k) (omega arith) (λ z. omega arith)) in
    rw (on, one-stays, rest)
row-alone t (n ∷ ns) (f ∷ fs) (suc r) h l on off =
    rw (off 0 (omega arith) (λ z. omega arith)) (row-alone t ns fs r (omega arith) (omega arith) on (λ k under z. off (suc k) (omega arith) (λ e. z (omega arith))))

module _ (t : Tables) (channel : Name) (c : Crosstalk) (factors : List Float) where
  unit-at : cross_fits c.count (length factors) ≡ true → length c.names ≡ 8 → UnitMatrix c.count factors
      → (p : Option ℕ) → row_of channel (names_in c) ≡ p → parts_at t channel c factors p ≡ own_parts t channel
  unfolding parts_at
  unit-at sized whole unit None e = refl
  unit-at sized whole unit (Some r) e =
      let size = fitting c.count (length factors) sized in
      let under = row_below c channel r e in
      let within = row_within r c.count under in
      let row = row_at r c.count factors in
      let long : length row ≡ c.count = length-take-le c.count (drop (r * c.count) factors) (rw (length-drop (r * c.count) factors) (omega (arith, size.enough))) in
      let names : length (names_in c) ≡ c.count = length-take-le c.count c.names (omega (arith, whole, size.few)) in
      let number : (k : ℕ) → k < c.count → get_or row k nan ≡ get_or factors (r * c.count + k) nan =
      λ k h. get_or-take c.count (drop (r * c.count) factors) k nan h ∙ get_or-drop (r * c.count) factors k nan in
      let alone =
      row-alone t (names_in c) row r (omega arith) (omega arith) (number r under ∙ unit.on r under)
      (λ k h z. let below : k < c.count = omega arith in ap (λ (x : Float). eq x nought) (number k below) ∙ unit.off r k under below z) in
      alone ∙ ap (λ (n : Name). part_of (found t n) one []) (row-name 0 channel (names_in c) r (e ∙ ap Some (omega arith)))

  -- the unit matrix gives a channel its own list alone, as if it were not named
  pub unit-own : cross_fits c.count (length factors) ≡ true → length c.names ≡ 8 → UnitMatrix c.count factors → parts_for t channel c factors ≡ own_parts t channel
  unit-own sized whole unit = unit-at sized whole unit (row_of channel (names_in c)) refl

  pub not_named : row_of channel (names_in c) ≡ None → parts_for t channel c factors ≡ own_parts t channel
  unfolding parts_at
  not_named e = rw e

  -- its own place, and 1.0
  pub own-list : (i : ℕ) → found t channel ≡ Some i → own_parts t channel ≡ part i one ∷ []
  unfolding part_of
  own-list i e = rw e
