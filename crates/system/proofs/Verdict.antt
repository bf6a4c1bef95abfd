-- The answer of a call's pulses is the verdict on them, one after another: it depends on no sample, since adding a pulse changes no length. It
-- refuses at place k exactly where pulse k is the first that is refused. And a pulse is refused with 8, 9, 10, 11 or 12, and no other number. Assumes
-- nothing.
use Rattle.std.specs.Prelude.{Result, Ok, Err}
use Prim.Native.Nat.{ℕ, suc, ◌+◌, ◌-◌, ◌<◌}
use native.Mathlib.Omega.{arith}
use mathlib.Core.Path.{◌≡◌, refl, sym, ap, subst, ◌∙◌}
use mathlib.Core.Bool.{true}
use mathlib.Core.List.{List, [], ◌∷◌, ◌++◌}
use mathlib.Core.Logic.{◌⊎◌, inl, inr}
use lib.Ieee.{Float}
use lib.ListN.{length}
use Rattle.exact.specs.Among.{among}
use Rattle.quant.specs.declared.refusal.Refusal.{Refusal}
use Rattle.quant.specs.declared.refusal.Refusal.TheVariants.{NotFinite, BeforeRow, StartPastRow, ShapeTooShort, EndPastRow}
use Rattle.quant.specs.declared.settings.Settings.{Settings}
use Rattle.quant.specs.Refusal.{number_of, Answer, refuse}
use Rattle.quant.proofs.Refusals.{same-why, same-place}
use Rattle.pulse.specs.declared.bin.Bin.{Bin}
use Rattle.pulse.specs.declared.list.Pulse.{Pulse}
use Rattle.pulse.specs.Bin.{bin_of, numbers_of}
use Rattle.shape.specs.Envelope.{least}
use Rattle.shape.proofs.Envelopes.{refused-by}
use Rattle.placing.specs.declared.Judged.{Judged}
use Rattle.placing.specs.declared.Judged.TheVariants as judgement
use Rattle.placing.specs.Judged.{judged, judged_answer}
use Rattle.placing.proofs.Ways.{Way, no_index, before, beyond, past, unshaped, over, plain-rest, curved-rest, flat, curved, way}
use Rattle.mixdown.specs.Sampled.{Rowed, Out, out, added_to, unless_refused, ran_pulses, and_then, ran_bins}
use Rattle.mixdown.proofs.Lengths.{i-length}
use Rattle.sampler_laws.specs.Added.{Due, dues_of, all_dues}
use Rattle.system.specs.Said.{pulse_numbers, unless, verdict}

-- ---- the numbers of a pulse

abbrev Numbered : Refusal → Type 0
Numbered why = among pulse_numbers (number_of why) ≡ true

module _ (why : Refusal) where
  same : (x : Refusal) → Numbered x → ◌≡◌ {A = Result Judged Refusal} (Err x) (Err why) → Numbered why
  same x h e = let is : x ≡ why = cc in subst Numbered is h

  shaped : (x : Refusal) → (x ≡ ShapeTooShort) ⊎ ((x ≡ EndPastRow) ⊎ (x ≡ NotFinite)) → Numbered x
  unfolding among
  shaped x (inl e) = subst Numbered (sym e) refl
  shaped x (inr (inl e)) = subst Numbered (sym e) refl
  shaped x (inr (inr e)) = subst Numbered (sym e) refl

  pub judged-number : (s : Settings) (b : Bin) (numbers : List Float) (p : Pulse) (len : ℕ) → judged s b numbers p len ≡ Err why → Numbered why
  unfolding among
  judged-number s b numbers p len e = by (way s b numbers p len (Err why) e)
    where
      by : Way s b numbers p len (Err why) → Numbered why
      by (no_index g f) = same NotFinite refl f
      by (before g f) = same BeforeRow refl f
      by (beyond g f) = same StartPastRow refl f
      by (past w o g h f) = same StartPastRow refl f
      by (unshaped k r z m f) =
          same r (shaped r (refused-by b.envelope.shape numbers b.envelope.width.0 b.envelope.plateau.0 k.offset s.rate.0 s.dt.0 (least (len - k.start) 65536) r m)) f
      by (over k z h f) = same EndPastRow refl f
      by (plain-rest k z h m f) = same NotFinite refl f
      by (curved-rest k n z m h f) = same NotFinite refl f
      by (flat k z h m f) = let z : ◌≡◌ {A = ℕ} 0 1 = cc in absurd (omega arith)
      by (curved k n z m h f) = let z : ◌≡◌ {A = ℕ} 0 1 = cc in absurd (omega arith)

-- ---- a verdict that refuses

-- behind fewer pulses than there are, with one of the numbers
pub record Fewer (ds : List Due) (k : ℕ) (why : Refusal) (n : ℕ) : Type 0 where
  pub place : n < k + length ds
  pub number : Numbered why

module _ (s : Settings) (len : ℕ) where
  pub fewer : (ds : List Due) (k : ℕ) (why : Refusal) (n : ℕ) → verdict s len ds k ≡ refuse why n → Fewer ds k why n
  unfolding verdict
  fewer [] k why n e = let z : ◌≡◌ {A = ℕ} 0 1 = cc in absurd (omega arith)
  fewer (d ∷ ds) k why n e = go (judged s d.bin d.numbers d.pulse len) refl (fewer ds (suc k) why n) e
    where
      one_more : Fewer ds (suc k) why n → Fewer (d ∷ ds) k why n
      one_more f = record { place = let h = f.place in omega (arith, h); number = f.number }

      go : (j : Result Judged Refusal) → judged s d.bin d.numbers d.pulse len ≡ j → (verdict s len ds (suc k) ≡ refuse why n → Fewer ds (suc k) why n)
          → unless (judged_answer j) k (verdict s len ds (suc k)) ≡ refuse why n → Fewer (d ∷ ds) k why n
      go (Err r) h later f =
          let is = same-why r why k n f in
          let at = same-place r why k n f in
          record { place = omega (arith, at); number = judged-number why s d.bin d.numbers d.pulse len (h ∙ ap Err is) }
      go (Ok (judgement.Plateau x)) h later f = one_more (later f)
      go (Ok (judgement.Shaped x)) h later f = one_more (later f)

  -- ---- the verdict on two lists

  abbrev onward : Answer → (ℕ → Answer) → Answer
  onward (Ok k) next = next k
  onward (Err e) next = Err e

  verdict-append : (ds es : List Due) (k : ℕ) → verdict s len (ds ++ es) k ≡ onward (verdict s len ds k) (verdict s len es)
  unfolding verdict
  verdict-append [] es k = refl
  verdict-append (d ∷ ds) es k = go (judged s d.bin d.numbers d.pulse len) (verdict-append ds es (suc k))
    where
      go : (j : Result Judged Refusal) → verdict s len (ds ++ es) (suc k) ≡ onward (verdict s len ds (suc k)) (verdict s len es)
          → unless (judged_answer j) k (verdict s len (ds ++ es) (suc k)) ≡ onward (unless (judged_answer j) k (verdict s len ds (suc k))) (verdict s len es)
      go (Err r) h = refl
      go (Ok (judgement.Plateau f)) h = h
      go (Ok (judgement.Shaped f)) h = h

-- ---- the first pulse that is refused

-- where j are added already: pulse k, and those before it are accepted
pub record PulseAt (s : Settings) (len : ℕ) (ds : List Due) (j k : ℕ) : Type 0 where
  pub before : List Due
  pub this : Due
  pub behind : List Due
  pub are : ds ≡ before ++ (this ∷ behind)
  pub place : j + length before ≡ k
  pub accepted : verdict s len before j ≡ Ok k

module _ (s : Settings) (len : ℕ) (why : Refusal) where
  pub record FirstRefused (ds : List Due) (j k : ℕ) : Type 0 where
    pub pulse : PulseAt s len ds j k
    pub refused : judged s pulse.this.bin pulse.this.numbers pulse.this.pulse len ≡ Err why

  pub first-refused : (ds : List Due) (j k : ℕ) → verdict s len ds j ≡ refuse why k → FirstRefused ds j k
  unfolding verdict
  first-refused [] j k e = let z : ◌≡◌ {A = ℕ} 0 1 = cc in absurd (omega arith)
  first-refused (d ∷ ds) j k e = go (judged s d.bin d.numbers d.pulse len) refl (first-refused ds (suc j) k) e
    where
      later : ((ys : List Due) → verdict s len (d ∷ ys) j ≡ verdict s len ys (suc j)) → FirstRefused ds (suc j) k → FirstRefused (d ∷ ds) j k
      later passed f =
          let p = f.pulse in
          record {
            pulse =
                record {
                  before = d ∷ p.before;
                  this = p.this;
                  behind = p.behind;
                  are = ap (λ (l : List Due). d ∷ l) p.are;
                  place = let h = p.place in omega (arith, h);
                  accepted = passed p.before ∙ p.accepted;
                };
            refused = f.refused;
          }

      go : (x : Result Judged Refusal) → judged s d.bin d.numbers d.pulse len ≡ x → (verdict s len ds (suc j) ≡ refuse why k → FirstRefused ds (suc j) k) → unless (judged_answer x) j (verdict s len ds (suc j)) ≡ refuse why k → FirstRefused (d ∷ ds) j k
      go (Err r) h more f =
          let is = same-why r why j k f in
          let at = same-place r why j k f in
          record { pulse = record { before = []; this = d; behind = ds; are = refl; place = omega (arith, at); accepted = ap Ok at }; refused = h ∙ ap Err is }
      go (Ok (judgement.Plateau x)) h more f = later (λ ys. ap (λ (y : Result Judged Refusal). unless (judged_answer y) j (verdict s len ys (suc j))) h) (more f)
      go (Ok (judgement.Shaped x)) h more f = later (λ ys. ap (λ (y : Result Judged Refusal). unless (judged_answer y) j (verdict s len ys (suc j))) h) (more f)

  pub first-told : (ds : List Due) (j k : ℕ) → FirstRefused ds j k → verdict s len ds j ≡ refuse why k
  unfolding verdict
  first-told ds j k f =
      let p = f.pulse in
      ap (λ (l : List Due). verdict s len l j) p.are
      ∙ verdict-append s len p.before (p.this ∷ p.behind) j
      ∙ ap (λ (a : Answer). onward s len a (verdict s len (p.this ∷ p.behind))) p.accepted
      ∙ ap (λ (y : Result Judged Refusal). unless (judged_answer y) k (verdict s len p.behind (suc k))) f.refused

-- ---- the pulses of a bin
module _ (s : Settings) (rows : ℕ) where
  -- one pulse, and then others
  abbrev later : Bin → List Float → List Pulse → ℕ → Rowed → Result Judged Refusal → Out
  later b numbers ps k st j = ran_pulses s b numbers rows ps (suc k) (added_to s b numbers rows j st)

  pulses-long : (b : Bin) (numbers : List Float) (ps : List Pulse) (k : ℕ) (st : Rowed) → length (ran_pulses s b numbers rows ps k st).left.i ≡ length st.i
  unfolding ran_pulses
  pulses-long b numbers [] k st = refl
  pulses-long b numbers (p ∷ ps) k st = let j = judged s b numbers p (length st.i) in go j (i-length s b numbers rows st j) (pulses-long b numbers ps (suc k) (added_to s b numbers rows j st))
    where
      go : (j : Result Judged Refusal) → length (added_to s b numbers rows j st).i ≡ length st.i → length (later b numbers ps k st j).left.i ≡ length (added_to s b numbers rows j st).i
          → length (unless_refused j k st (later b numbers ps k st j)).left.i ≡ length st.i
      go (Err r) e h = refl
      go (Ok (judgement.Plateau f)) e h = h ∙ e
      go (Ok (judgement.Shaped f)) e h = h ∙ e

  pulses-verdict : (b : Bin) (numbers : List Float) (ps : List Pulse) (k : ℕ) (st : Rowed) → (ran_pulses s b numbers rows ps k st).answer ≡ verdict s (length st.i) (dues_of b numbers ps) k
  unfolding ran_pulses dues_of verdict
  pulses-verdict b numbers [] k st = refl
  pulses-verdict b numbers (p ∷ ps) k st = let j = judged s b numbers p (length st.i) in go j (i-length s b numbers rows st j) (pulses-verdict b numbers ps (suc k) (added_to s b numbers rows j st))
    where
      go : (j : Result Judged Refusal) → length (added_to s b numbers rows j st).i ≡ length st.i → (later b numbers ps k st j).answer ≡ verdict s (length (added_to s b numbers rows j st).i) (dues_of b numbers ps) (suc k)
          → (unless_refused j k st (later b numbers ps k st j)).answer ≡ unless (judged_answer j) k (verdict s (length st.i) (dues_of b numbers ps) (suc k))
      go (Err r) e h = refl
      go (Ok (judgement.Plateau f)) e h = h ∙ ap (λ (n : ℕ). verdict s n (dues_of b numbers ps) (suc k)) e
      go (Ok (judgement.Shaped f)) e h = h ∙ ap (λ (n : ℕ). verdict s n (dues_of b numbers ps) (suc k)) e

  -- ---- all bins
  pub bins-verdict : (merged : List Float → List Pulse) (rs : List (List Float)) (k : ℕ) (st : Rowed) → (ran_bins s rows merged rs k st).answer ≡ verdict s (length st.i) (all_dues merged rs) k
  unfolding ran_bins all_dues verdict
  bins-verdict merged [] k st = refl
  bins-verdict merged (r ∷ rs) k st =
      let b = bin_of r in
      let numbers = numbers_of r in
      let o = ran_pulses s b numbers rows (merged r) k st in
      let len = length st.i in
      by o.answer o.left (pulses-long b numbers (merged r) k st) (bins-verdict merged rs)
      ∙ ap (λ (a : Answer). onward s len a (verdict s len (all_dues merged rs))) (pulses-verdict b numbers (merged r) k st)
      ∙ sym (verdict-append s len (dues_of b numbers (merged r)) (all_dues merged rs) k)
    where
      by : (a : Answer) (l : Rowed) → length l.i ≡ length st.i → ((n : ℕ) (x : Rowed) → (ran_bins s rows merged rs n x).answer ≡ verdict s (length x.i) (all_dues merged rs) n)
          → (and_then (out a l) (ran_bins s rows merged rs)).answer ≡ onward s (length st.i) a (verdict s (length st.i) (all_dues merged rs))
      by (Ok n) l e h = h n l ∙ ap (λ (m : ℕ). verdict s m (all_dues merged rs) n) e
      by (Err x) l e h = refl
