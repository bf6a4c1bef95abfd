-- The one pulse that a call added is one: whatever is `Only` is the same pulse as sampled. Its bin's place is one, since the call's pulses are one in all,
-- and all else is a function of the call and that place. Assumes nothing.
use Rattle.quant.specs.Aligned.{starts_at}
use Rattle.quant.specs.declared.aligned.Misplaced.{Misplaced}
use Rattle.quant.specs.declared.aligned.Start.{Start}
use Rattle.std.specs.Prelude.{Option, Some, Result, Ok, Err}
use Prim.Native.Nat.{ℕ}
use mathlib.Core.Path.{◌≡◌, sym, ap, ◌∙◌}
use mathlib.Core.List.{List, [], ◌∷◌}
use lib.Ieee.{Float}
use lib.ListN.{length, get_or}
use Rattle.quant.specs.declared.settings.Settings.{Settings}
use Rattle.quant.specs.Settings.{fitting_of}
use Rattle.pulse.specs.declared.list.Pulse.{Pulse}
use Rattle.pulse.specs.Bin.{bin_of}
use Rattle.tables.specs.declared.Tables.{Tables}
use Rattle.merge.specs.Taking.{Part, parts_in}
use Rattle.crosstalk.specs.declared.names.Crosstalk.{Crosstalk}
use Rattle.crosstalk.specs.Crosstalk.{planned, taking_of}
use Rattle.placing.specs.Judged.{placed_at}
use Rattle.mixdown.specs.Bins.{bins_by, merged_of}
use Rattle.mixdown.specs.Sampled.{Rowed, ran_bins}
use Rattle.sampler.specs.declared.Request.{Request}
use Rattle.accuracy.specs.Call.{AsSampled, Only}
use Rattle.accuracy.proofs.One.{one_place}

same-settings : (f : Option Settings) (s u : Settings) → f ≡ Some s → f ≡ Some u → s ≡ u
same-settings f s u p q = cc

same-pulse : (ps : List Pulse) (p q : Pulse) → ps ≡ p ∷ [] → ps ≡ q ∷ [] → p ≡ q
same-pulse ps p q e f = cc

same_start : (p : Result Start Misplaced) (k l : ℕ) (x y : Float) → p ≡ starts_at k x → p ≡ starts_at l y → (k ≡ l) × (x ≡ y)
same_start p k l x y e f = (ap (λ (r : Result Start Misplaced). index r) same, ap (λ (r : Result Start Misplaced). offset r) same)
  where
    same : starts_at k x ≡ starts_at l y
    same = sym e ∙ f

    index : Result Start Misplaced → ℕ
    index (Ok s) = s.index
    index (Err m) = 0

    offset : Result Start Misplaced → Float
    offset (Ok s) = s.offset
    offset (Err m) = x

module _ (t : Tables) (r : Request) (c : Crosstalk) (factors : List Float) (bins : List (List Float)) (pulses : List Pulse) where
  abbrev parts : List Part
  parts = parts_in (taking_of (planned t r.channel c factors))

  abbrev merged : List Float → List Pulse
  merged = merged_of t bins pulses parts

  abbrev rs : List (List Float)
  rs = bins_by t bins parts

  pub only_one : (s : Settings) (st : Rowed) → (ran_bins s r.rows merged rs 0 st).answer ≡ Ok 1 → (x y : AsSampled) → Only t r c factors bins pulses x → Only t r c factors bins pulses y → x ≡ y
  only_one s st told x y o u =
      let clock = same-settings (fitting_of r.rate r.delay r.level) x.settings y.settings o.fit u.fit in
      let place = one_place s r.rows merged rs o.place u.place 0 st told o.within u.within (single x o) (single y u) in
      let row = sym o.there ∙ ap (λ (k : ℕ). get_or rs k []) place ∙ u.there in
      let bin = o.its-bin ∙ ap bin_of row ∙ sym u.its-bin in
      let it = same-pulse (merged u.row) x.pulse y.pulse (sym (ap merged row) ∙ o.only) u.only in
      let there = (λ i. placed_at (sym clock i) (sym it i)) ∙ o.placed in
      let begin = same_start (placed_at y.settings y.pulse) x.start y.start x.offset y.offset there u.placed in
      λ i. record { settings = clock i; bin = bin i; pulse = it i; start = begin.0 i; offset = begin.1 i }
    where
      single : (x : AsSampled) (o : Only t r c factors bins pulses x) → length (merged (get_or rs o.place [])) ≡ 1
      single x o = ap (λ (l : List Float). length (merged l)) o.there ∙ ap length o.only
