-- A sampling call that is done with one pulse added: there is one bin with one pulse, and what the call leaves is what that pulse, added alone,
-- leaves. By the bins in turn: the count is that of their pulses, each of which counts one. Assumes nothing.
use Rattle.quant.specs.Refusal.{Answer}
use Rattle.quant.specs.declared.refusal.Refusal.{Refusal}
use Rattle.std.specs.Prelude.{Result, Ok, Err}
use Prim.Native.Nat.{ℕ, zero, suc, ◌+◌, ◌≤◌, ◌<◌}
use native.Mathlib.Nat.{le_of_suc-le-suc, not-suc-le-zero}
use native.Mathlib.Omega.{arith}
use mathlib.Core.Path.{◌≡◌, refl, sym, ap, subst, ◌∙◌}
use mathlib.Core.Bool.{true}
use mathlib.Core.List.{List, [], ◌∷◌}
use lib.Ieee.{Float}
use lib.ListN.{length, get_or}
use Rattle.quant.specs.declared.settings.Settings.{Settings}
use Rattle.pulse.specs.declared.bin.Bin.{Bin}
use Rattle.pulse.specs.declared.list.Pulse.{Pulse}
use Rattle.pulse.specs.Bin.{bin_of, numbers_of}
use Rattle.placing.specs.declared.Judged.{Judged}
use Rattle.placing.specs.declared.Judged.TheVariants as judgement
use Rattle.placing.specs.Judged.{judged}
use Rattle.mixdown.specs.Sampled.{Rowed, Out, out, added_to, unless_refused, ran_pulses, and_then, ran_bins}
use Rattle.mixdown.specs.Holding.{accepted}
use Rattle.mixdown.proofs.Listed.{done_inj}

module _ (s : Settings) (rows : ℕ) where
  -- ---- the pulses of a bin

  counted : (b : Bin) (numbers : List Float) (ps : List Pulse) (k m : ℕ) (st : Rowed) → (ran_pulses s b numbers rows ps k st).answer ≡ Ok m → m ≡ k + length ps
  unfolding ran_pulses
  counted b numbers [] k m st e = let same = done_inj k m e in omega (arith, same)
  counted b numbers (p ∷ ps) k m st e = go (judged s b numbers p (length st.i)) e (counted b numbers ps (suc k) m (added_to s b numbers rows (judged s b numbers p (length st.i)) st))
    where
      go : (d : Result Judged Refusal) → (unless_refused d k st (ran_pulses s b numbers rows ps (suc k) (added_to s b numbers rows (judged s b numbers p (length st.i)) st))).answer ≡ Ok m → ((ran_pulses s b numbers rows ps (suc k) (added_to s b numbers rows (judged s b numbers p (length st.i)) st)).answer ≡ Ok m → m ≡ suc k + length ps) → m ≡ k + suc (length ps)
      go (Err r) f rest = let z : ◌≡◌ {A = ℕ} 0 1 = cc in absurd (omega arith)
      go (Ok (judgement.Plateau x)) f rest = let q = rest f in omega (arith, q)
      go (Ok (judgement.Shaped c)) f rest = let q = rest f in omega (arith, q)

  none_left : (b : Bin) (numbers : List Float) (k : ℕ) (st : Rowed) → (ran_pulses s b numbers rows [] k st).left ≡ st
  unfolding ran_pulses
  none_left b numbers k st = refl

  -- one pulse that is accepted
  pub record Alone (b : Bin) (numbers : List Float) (p : Pulse) (st st' : Rowed) : Type 0 where
    pub taken : accepted (judged s b numbers p (length st.i)) ≡ true
    pub left : st' ≡ added_to s b numbers rows (judged s b numbers p (length st.i)) st

  one_left : (b : Bin) (numbers : List Float) (p : Pulse) (k m : ℕ) (st : Rowed) → (ran_pulses s b numbers rows (p ∷ []) k st).answer ≡ Ok m → Alone b numbers p st (ran_pulses s b numbers rows (p ∷ []) k st).left
  unfolding ran_pulses
  one_left b numbers p k m st e = go (judged s b numbers p (length st.i)) refl e
    where
      go : (d : Result Judged Refusal) → judged s b numbers p (length st.i) ≡ d → (unless_refused d k st (out (Ok (suc k)) (added_to s b numbers rows (judged s b numbers p (length st.i)) st))).answer ≡ Ok m → Alone b numbers p st (unless_refused d k st (out (Ok (suc k)) (added_to s b numbers rows (judged s b numbers p (length st.i)) st))).left
      go (Err r) f g = let z : ◌≡◌ {A = ℕ} 0 1 = cc in absurd (omega arith)
      go (Ok (judgement.Plateau x)) f g = record { taken = ap accepted f; left = refl }
      go (Ok (judgement.Shaped c)) f g = record { taken = ap accepted f; left = refl }

  -- ---- all bins
  module _ (merged : List Float → List Pulse) where
    -- how many pulses they have, and that these are the ones that are added
    unfoldable total : List (List Float) → ℕ
    total [] = 0
    total (r ∷ rs) = length (merged r) + total rs

    all-added : (rs : List (List Float)) (k m : ℕ) (st : Rowed) → (ran_bins s rows merged rs k st).answer ≡ Ok m → m ≡ k + total rs
    unfolding ran_bins total
    all-added [] k m st e = let same = done_inj k m e in omega (arith, same)
    all-added (r ∷ rs) k m st e = let o = ran_pulses s (bin_of r) (numbers_of r) rows (merged r) k st in by o.answer o.left refl e (λ n l. all-added rs n m l)
      where
        by : (a : Answer) (l : Rowed) → (ran_pulses s (bin_of r) (numbers_of r) rows (merged r) k st).answer ≡ a → (and_then (out a l) (ran_bins s rows merged rs)).answer ≡ Ok m
            → ((n : ℕ) (l' : Rowed) → (ran_bins s rows merged rs n l').answer ≡ Ok m → m ≡ n + total rs) → m ≡ k + (length (merged r) + total rs)
        by (Ok n) l f g later = let c = counted (bin_of r) (numbers_of r) (merged r) k n st f in let d = later n l g in omega (arith, c, d)
        by (Err e) l f g later = let z : ◌≡◌ {A = ℕ} 0 1 = cc in absurd (omega arith)

    -- none is added
    stays : (rs : List (List Float)) (k : ℕ) (st : Rowed) → (ran_bins s rows merged rs k st).answer ≡ Ok k → (ran_bins s rows merged rs k st).left ≡ st
    unfolding ran_bins
    stays [] k st e = refl
    stays (r ∷ rs) k st e = let o = ran_pulses s (bin_of r) (numbers_of r) rows (merged r) k st in by o.answer o.left refl (merged r) refl e (stays rs)
      where
        by : (a : Answer) (l : Rowed) → ran_pulses s (bin_of r) (numbers_of r) rows (merged r) k st ≡ out a l → (ps : List Pulse) → merged r ≡ ps → (and_then (out a l) (ran_bins s rows merged rs)).answer ≡ Ok k
            → ((n : ℕ) (l' : Rowed) → (ran_bins s rows merged rs n l').answer ≡ Ok n → (ran_bins s rows merged rs n l').left ≡ l') → (and_then (out a l) (ran_bins s rows merged rs)).left ≡ st
        by (Err e) l f ps h g later = let z : ◌≡◌ {A = ℕ} 0 1 = cc in absurd (omega arith)
        by (Ok n) l f [] h g later =
            let c = counted (bin_of r) (numbers_of r) (merged r) k n st (ap (λ (o : Out). o.answer) f) in
            let none : length (merged r) ≡ 0 = ap length h in
            let same : n ≡ k = omega (arith, c, none) in
            let here : l ≡ st = sym (ap (λ (o : Out). o.left) f) ∙ ap (λ (qs : List Pulse). (ran_pulses s (bin_of r) (numbers_of r) rows qs k st).left) h ∙ none_left (bin_of r) (numbers_of r) k st in
            later n l (g ∙ ap Ok (sym same)) ∙ here
        by (Ok n) l f (p ∷ ps) h g later =
            let c = counted (bin_of r) (numbers_of r) (merged r) k n st (ap (λ (o : Out). o.answer) f) in
            let some : length (merged r) ≡ suc (length ps) = ap length h in
            let d = all-added rs n k l g in
            absurd (omega (arith, c, some, d))

    -- one is added
    pub record One (rs : List (List Float)) (st st' : Rowed) : Type 0 where
      pub row : List Float
      pub place : ℕ
      pub within : place < length rs
      pub there : get_or rs place [] ≡ row
      pub pulse : Pulse
      pub only : merged row ≡ pulse ∷ []
      pub alone : Alone (bin_of row) (numbers_of row) pulse st st'

    pub one-added : (rs : List (List Float)) (k : ℕ) (st : Rowed) → (ran_bins s rows merged rs k st).answer ≡ Ok (suc k) → One rs st (ran_bins s rows merged rs k st).left
    unfolding ran_bins
    one-added [] k st e = let same = done_inj k (suc k) e in absurd (omega (arith, same))
    one-added (r ∷ rs) k st e = let o = ran_pulses s (bin_of r) (numbers_of r) rows (merged r) k st in by o.answer o.left refl (merged r) refl e (one-added rs)
      where
        further : (l : Rowed) → One rs st l → One (r ∷ rs) st l
        further l x = record { row = x.row; place = suc x.place; within = let h = x.within in omega (arith, h); there = x.there; pulse = x.pulse; only = x.only; alone = x.alone }

        by : (a : Answer) (l : Rowed) → ran_pulses s (bin_of r) (numbers_of r) rows (merged r) k st ≡ out a l → (ps : List Pulse) → merged r ≡ ps → (and_then (out a l) (ran_bins s rows merged rs)).answer ≡ Ok (suc k)
            → ((n : ℕ) (l' : Rowed) → (ran_bins s rows merged rs n l').answer ≡ Ok (suc n) → One rs l' (ran_bins s rows merged rs n l').left) → One (r ∷ rs) st (and_then (out a l) (ran_bins s rows merged rs)).left
        by (Err e) l f ps h g later = let z : ◌≡◌ {A = ℕ} 0 1 = cc in absurd (omega arith)
        by (Ok n) l f [] h g later =
            let c = counted (bin_of r) (numbers_of r) (merged r) k n st (ap (λ (o : Out). o.answer) f) in
            let none : length (merged r) ≡ 0 = ap length h in
            let same : n ≡ k = omega (arith, c, none) in
            let here : l ≡ st = sym (ap (λ (o : Out). o.left) f) ∙ ap (λ (qs : List Pulse). (ran_pulses s (bin_of r) (numbers_of r) rows qs k st).left) h ∙ none_left (bin_of r) (numbers_of r) k st in
            further (ran_bins s rows merged rs n l).left (subst (λ (x : Rowed). One rs x (ran_bins s rows merged rs n l).left) here (later n l (g ∙ ap (λ (x : ℕ). Ok (suc x)) (sym same))))
        by (Ok n) l f (p ∷ []) h g later =
            let c = counted (bin_of r) (numbers_of r) (merged r) k n st (ap (λ (o : Out). o.answer) f) in
            let some : length (merged r) ≡ 1 = ap length h in
            let same : n ≡ suc k = omega (arith, c, some) in
            let rest = stays rs n l (g ∙ ap Ok (sym same)) in
            let done = sym (ap (λ (qs : List Pulse). (ran_pulses s (bin_of r) (numbers_of r) rows qs k st).answer) h) ∙ ap (λ (o : Out). o.answer) f in
            let it = one_left (bin_of r) (numbers_of r) p k n st done in
            let here : (ran_pulses s (bin_of r) (numbers_of r) rows (p ∷ []) k st).left ≡ l = sym (ap (λ (qs : List Pulse). (ran_pulses s (bin_of r) (numbers_of r) rows qs k st).left) h) ∙ ap (λ (o : Out). o.left) f in
            record { row = r; place = 0; within = omega arith; there = refl; pulse = p; only = h; alone = record { taken = it.taken; left = rest ∙ sym here ∙ it.left } }
        by (Ok n) l f (p ∷ q ∷ ps) h g later =
            let c = counted (bin_of r) (numbers_of r) (merged r) k n st (ap (λ (o : Out). o.answer) f) in
            let some : length (merged r) ≡ suc (suc (length ps)) = ap length h in
            let d = all-added rs n (suc k) l g in
            absurd (omega (arith, c, some, d))

    -- ---- of one pulse in all, the place is one
    at_least : (rs : List (List Float)) (p : ℕ) → p < length rs → length (merged (get_or rs p [])) ≤ total rs
    unfolding total
    at_least [] p h = absurd (not-suc-le-zero h)
    at_least (r ∷ rs) zero h = omega arith
    at_least (r ∷ rs) (suc p) h = let g = at_least rs p (le_of_suc-le-suc h) in omega arith

    same_place : (rs : List (List Float)) (p q : ℕ) → p < length rs → q < length rs → length (merged (get_or rs p [])) ≡ 1 → length (merged (get_or rs q [])) ≡ 1 → total rs ≡ 1 → p ≡ q
    unfolding total
    same_place [] p q h g e f t = absurd (not-suc-le-zero h)
    same_place (r ∷ rs) zero zero h g e f t = refl
    same_place (r ∷ rs) zero (suc q) h g e f t = let l = at_least rs q (le_of_suc-le-suc g) in absurd (omega arith)
    same_place (r ∷ rs) (suc p) zero h g e f t = let l = at_least rs p (le_of_suc-le-suc h) in absurd (omega arith)
    same_place (r ∷ rs) (suc p) (suc q) h g e f t =
        let l = at_least rs p (le_of_suc-le-suc h) in
        ap suc (same_place rs p q (le_of_suc-le-suc h) (le_of_suc-le-suc g) e f (omega arith))

    pub one_place : (rs : List (List Float)) (p q k : ℕ) (st : Rowed) → (ran_bins s rows merged rs k st).answer ≡ Ok (suc k) → p < length rs → q < length rs → length (merged (get_or rs p [])) ≡ 1 → length (merged (get_or rs q [])) ≡ 1 → p ≡ q
    one_place rs p q k st d h g e f = let t = all-added rs k (suc k) st d in same_place rs p q h g e f (omega arith)
