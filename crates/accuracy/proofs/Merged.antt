-- Every pulse that a call adds, after merging and crosstalk, is made of doubles: its parts are products or sums. Assumes nothing.
use mathlib.Core.Bool.{Bool, true, false, cond}
use mathlib.Core.List.{List, [], ◌∷◌, map}
use lib.Ieee.{Float, binary64, lt}
use lib.Ieee.Fits.{add-fits, mul-fits}
use Rattle.pulse.specs.declared.list.Pulse.{Pulse}
use Rattle.tables.specs.declared.Tables.{Tables}
use Rattle.merge.specs.Sum.{plus_p, scaled_p, together, kept_from, summed_by}
use Rattle.merge.specs.Join.{joined_two, joined}
use Rattle.pulse.specs.Bin.{place_of}
use Rattle.commands.specs.Play.{rows_of}
use Rattle.merge.specs.Taking.{Part, list_of}
use Rattle.merge.proofs.Scaled.{Fitting, AllFitting}
use Rattle.mixdown.specs.Runs.{of_mark}
use Rattle.mixdown.specs.Bins.{is_among, run_of, merged_of}

scaled_fits : (f : Float) (p : Pulse) → Fitting (scaled_p f p)
scaled_fits f p = record { amp-re = mul-fits binary64 p.amp.re f; amp-im = mul-fits binary64 p.amp.im f; drag-re = mul-fits binary64 p.drag.re f; drag-im = mul-fits binary64 p.drag.im f }

plus-fits : (k p : Pulse) → Fitting (plus_p k p)
plus-fits k p =
    record {
      amp-re = add-fits binary64 k.amp.re p.amp.re;
      amp-im = add-fits binary64 k.amp.im p.amp.im;
      drag-re = add-fits binary64 k.drag.re p.drag.re;
      drag-im = add-fits binary64 k.drag.im p.drag.im;
    }

all-scaled : (f : Float) (ps : List Pulse) → AllFitting (map (scaled_p f) ps)
all-scaled f [] = tt
all-scaled f (p ∷ ps) = (scaled_fits f p, all-scaled f ps)

all-run : (t : Tables) (bins : List (List Float)) (pulses : List Pulse) (row : List Float) (p : Part) → AllFitting (run_of t bins pulses row p)
all-run t bins pulses row p = let rows = rows_of t bins p.place in go (is_among row rows) (of_mark (place_of row rows) (list_of t pulses p.place))
  where
    go : (b : Bool) (ps : List Pulse) → AllFitting (cond b (map (scaled_p p.factor) ps) [])
    go true ps = all-scaled p.factor ps
    go false ps = tt

all_two : (xs ys : List Pulse) → AllFitting xs → AllFitting ys → AllFitting (joined_two xs ys)
unfolding joined_two
all_two [] ys f g = g
all_two (x ∷ xs) [] f g = f
all_two (x ∷ xs) (y ∷ ys) f g = go (lt y.time.0 x.time.0) (all_two (x ∷ xs) ys f g.1) (all_two xs (y ∷ ys) f.1 g)
  where
    go : (b : Bool) → AllFitting (joined_two (x ∷ xs) ys) → AllFitting (joined_two xs (y ∷ ys)) → AllFitting (cond b (y ∷ joined_two (x ∷ xs) ys) (x ∷ joined_two xs (y ∷ ys)))
    go true a b = (g.0, a)
    go false a b = (f.0, b)

all-joined : (t : Tables) (bins : List (List Float)) (pulses : List Pulse) (row : List Float) (parts : List Part) → AllFitting (joined (map (run_of t bins pulses row) parts))
unfolding joined
all-joined t bins pulses row [] = tt
all-joined t bins pulses row (p ∷ ps) = all_two (run_of t bins pulses row p) (joined (map (run_of t bins pulses row) ps)) (all-run t bins pulses row p) (all-joined t bins pulses row ps)

all-kept : (falls : Pulse → Pulse → Bool) (k : Pulse) (ps : List Pulse) → Fitting k → AllFitting ps → AllFitting (kept_from falls k ps)
unfolding kept_from
all-kept falls k [] f g = (f, tt)
all-kept falls k (p ∷ ps) f g = go (falls k p) (all-kept falls (plus_p k p) ps (plus-fits k p) g.1) (all-kept falls p ps g.0 g.1)
  where
    go : (b : Bool) → AllFitting (kept_from falls (plus_p k p) ps) → AllFitting (kept_from falls p ps) → AllFitting (cond b (kept_from falls (plus_p k p) ps) (k ∷ kept_from falls p ps))
    go true a b = a
    go false a b = (f, b)

all-summed : (falls : Pulse → Pulse → Bool) (ps : List Pulse) → AllFitting ps → AllFitting (summed_by falls ps)
unfolding summed_by
all-summed falls [] f = tt
all-summed falls (p ∷ ps) f = all-kept falls p ps f.0 f.1

pub all-merged : (t : Tables) (bins : List (List Float)) (pulses : List Pulse) (parts : List Part) (row : List Float) → AllFitting (merged_of t bins pulses parts row)
all-merged t bins pulses parts row = all-summed (together t.time.0) (joined (map (run_of t bins pulses row) parts)) (all-joined t bins pulses row parts)
