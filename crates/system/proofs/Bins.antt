-- Every pulse that a sampling call judges belongs to a bin of a channel that is there; so what holds of these bins holds of the bin of every pulse. The
-- lists that take part are found by name, and their bins by first appearance are some of their rows. Assumes nothing.
use Rattle.std.specs.Prelude.{Option, Some, None}
use Prim.Native.Nat.{ℕ, suc, ◌+◌, ◌*◌, ◌<◌}
use native.Mathlib.Omega.{arith}
use mathlib.Core.Path.{◌≡◌, refl, sym, subst}
use mathlib.Core.Bool.{Bool, true, false, cond}
use mathlib.Core.List.{List, [], ◌∷◌, ◌++◌}
use lib.Ieee.{Float, eq}
use lib.ListN.{length, take, drop, get_or, length-take}
use lib.Seq.{get_or-take, get_or-drop}
use Rattle.exact.specs.Doubles.{nought, one}
use Rattle.naming.specs.declared.Name.{Name}
use Rattle.pulse.specs.declared.bin.Bin.{Bin}
use Rattle.pulse.specs.declared.list.Pulse.{Pulse}
use Rattle.pulse.specs.Bin.{bin_of, numbers_of}
use Rattle.tables.specs.declared.Tables.{Tables}
use Rattle.tables.specs.Tables.{found, channels_in, channel_at}
use Rattle.tables.proofs.Finding.{found-under}
use Rattle.commands.specs.Play.{rows_of}
use Rattle.merge.specs.Taking.{Part, parts_in}
use Rattle.crosstalk.specs.declared.names.Crosstalk.{Crosstalk}
use Rattle.crosstalk.specs.Crosstalk.{names_in, row_of, part_of, row_parts, row_at, parts_at, planned, is_refused, taking_of}
use Rattle.crosstalk.proofs.Laws.{plan-parts}
use Rattle.mixdown.specs.Bins.{is_among, all_rows, firsts_after, bins_by}
use Rattle.sampler_laws.specs.Added.{Due, dues_of, all_dues}

-- ---- each of some
abbrev pub Each : {A : Type 0} → (A → Type 0) → List A → Type 0
Each P [] = Unit {0}
Each P (x ∷ xs) = P x × Each P xs

module _ {A : Type 0} (P : A → Type 0) where
  each_append : (xs ys : List A) → Each P xs → Each P ys → Each P (xs ++ ys)
  each_append [] ys h k = k
  each_append (x ∷ xs) ys h k = (h.0, each_append xs ys h.1 k)

  pub each-here : (xs : List A) (x : A) (ys : List A) → Each P (xs ++ (x ∷ ys)) → P x
  each-here [] x ys h = h.0
  each-here (y ∷ xs) x ys h = each-here xs x ys h.1

  each_at : (d : A) (xs : List A) → ((k : ℕ) → k < length xs → P (get_or xs k d)) → Each P xs
  each_at d [] h = tt
  each_at d (x ∷ xs) h = (h 0 (omega arith), each_at d xs (λ k below. h (suc k) (omega arith)))

-- ---- the lists that take part

module _ (t : Tables) where
  -- its channel is there
  abbrev pub There : Part → Type 0
  There p = p.place < t.count

  found-there : (n : Name) (i : ℕ) → found t n ≡ Some i → i < t.count
  found-there n i e =
      let under = found-under 0 n (channels_in t) i e in
      let short = rw (length-take t.count t.channels) at under in
      omega (arith, short)

  part-there : (n : Name) (f : Option ℕ) (x : Float) (ps : List Part) → found t n ≡ f → Each There ps → Each There (part_of f x ps)
  unfolding part_of
  part-there n (Some i) x ps e h = (found-there n i e, h)
  part-there n None x ps e h = h

  row-there : (ns : List Name) (fs : List Float) → Each There (row_parts t ns fs)
  unfolding row_parts
  row-there [] fs = tt
  row-there (n ∷ ns) [] = tt
  row-there (n ∷ ns) (f ∷ fs) = go (eq f nought) (row-there ns fs)
    where
      go : (b : Bool) → Each There (row_parts t ns fs) → Each There (cond b (row_parts t ns fs) (part_of (found t n) f (row_parts t ns fs)))
      go true h = h
      go false h = part-there n (found t n) f (row_parts t ns fs) refl h

  module _ (channel : Name) (c : Crosstalk) (factors : List Float) where
    at_there : (f : Option ℕ) → Each There (parts_at t channel c factors f)
    unfolding parts_at
    at_there (Some r) = row-there (names_in c) (row_at r c.count factors)
    at_there None = part-there channel (found t channel) one [] refl tt

    pub parts-there : is_refused (planned t channel c factors) ≡ false → Each There (parts_in (taking_of (planned t channel c factors)))
    parts-there ok = subst (Each There) (sym (plan-parts t channel c factors ok).parts) (at_there (row_of channel (names_in c)))

  -- ---- their bins
  module _ (bins : List (List Float)) (P : List Float → Type 0) (known : (i k : ℕ) → i < t.count → k < (channel_at t i).bins → P (get_or bins (64 * i + k) [])) where
    rows-each : (i : ℕ) → i < t.count → Each P (rows_of t bins i)
    rows-each i there = each_at P [] (rows_of t bins i) at
      where
        at : (k : ℕ) → k < length (rows_of t bins i) → P (get_or (rows_of t bins i) k [])
        at k below =
            let short = rw (length-take (channel_at t i).bins (take 64 (drop (64 * i) bins)), length-take 64 (drop (64 * i) bins)) at below in
            let first : k < (channel_at t i).bins = omega (arith, short) in
            let second : k < 64 = omega (arith, short) in
            rw (get_or-take (channel_at t i).bins (take 64 (drop (64 * i) bins)) k [] first, get_or-take 64 (drop (64 * i) bins) k [] second, get_or-drop (64 * i) bins k []) (known i k there first)

    all-each : (ps : List Part) → Each There ps → Each P (all_rows t bins ps)
    unfolding all_rows
    all-each [] h = tt
    all-each (p ∷ ps) h = each_append P (rows_of t bins p.place) (all_rows t bins ps) (rows-each p.place h.0) (all-each ps h.1)

    firsts-each : (before rs : List (List Float)) → Each P rs → Each P (firsts_after before rs)
    unfolding firsts_after
    firsts-each before [] h = tt
    firsts-each before (r ∷ rs) h = go (is_among r before) (firsts-each (before ++ (r ∷ [])) rs h.1)
      where
        go : (b : Bool) → Each P (firsts_after (before ++ (r ∷ [])) rs) → Each P (cond b (firsts_after (before ++ (r ∷ [])) rs) (r ∷ firsts_after (before ++ (r ∷ [])) rs))
        go true k = k
        go false k = (h.0, k)

    pub bins-each : (ps : List Part) → Each There ps → Each P (bins_by t bins ps)
    bins-each ps h = firsts-each [] (all_rows t bins ps) (all-each ps h)

-- ---- their pulses

module _ (P : List Float → Type 0) (Q : Bin → Type 0) (holds : (row : List Float) → P row → Q (bin_of row)) where
  abbrev pub OfBin : Due → Type 0
  OfBin d = Q d.bin

  of-each : (b : Bin) (numbers : List Float) (ps : List Pulse) → Q b → Each OfBin (dues_of b numbers ps)
  unfolding dues_of
  of-each b numbers [] h = tt
  of-each b numbers (p ∷ ps) h = (h, of-each b numbers ps h)

  pub dues_each : (merged : List Float → List Pulse) (rs : List (List Float)) → Each P rs → Each OfBin (all_dues merged rs)
  unfolding all_dues
  dues_each merged [] h = tt
  dues_each merged (r ∷ rs) h = each_append OfBin (dues_of (bin_of r) (numbers_of r) (merged r)) (all_dues merged rs) (of-each (bin_of r) (numbers_of r) (merged r) (holds r h.0)) (dues_each merged rs h.1)
