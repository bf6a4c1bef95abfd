-- Bins run one after another: how a list of bins parts, what is left of it after one bin, how many pulses are added, and that no length changes.
-- Assumes nothing.
use Rattle.quant.specs.Refusal.{Answer, refuse}
use Rattle.std.specs.Prelude.{Result, Ok, Err}
use Prim.Native.Nat.{ℕ, suc, ◌+◌, ◌*◌, ◌<◌, ◌≤◌}
use native.Mathlib.Omega.{arith}
use native.Mathlib.Numerals.{add-one}
use mathlib.Core.Path.{◌≡◌, refl, sym, ap, ◌∙◌}
use mathlib.Core.Bool.{Bool, true, false, cond}
use mathlib.Core.List.{List, [], ◌∷◌, ◌++◌, map, append-nil, append_assoc}
use lib.Ieee.{Float}
use lib.ListN.{length, take, drop, get_or, drop_of_length-le}
use lib.Seq.{drop-cons, take-suc}
use Rattle.quant.specs.declared.refusal.Refusal.{Refusal}
use Rattle.quant.specs.declared.refusal.Refused.{Refused}
use Rattle.quant.specs.declared.settings.Settings.{Settings}
use Rattle.pulse.specs.declared.bin.Bin.{Bin}
use Rattle.pulse.specs.declared.list.Pulse.{Pulse}
use Rattle.pulse.specs.Bin.{bin_of, numbers_of}
use Rattle.tables.specs.declared.Tables.{Tables}
use Rattle.merge.specs.Sum.{together, summed_again}
use Rattle.merge.specs.Join.{joined}
use Rattle.merge.specs.Taking.{Part}
use Rattle.merge.proofs.Kept.{summed-length}
use Rattle.placing.specs.declared.Judged.{Judged}
use Rattle.placing.specs.declared.Judged.TheVariants as judgement
use Rattle.placing.specs.Judged.{judged}
use Rattle.mixdown.specs.declared.runs.Run.{Run}
use Rattle.mixdown.specs.declared.runs.Runs.{Runs}
use Rattle.mixdown.specs.Runs.{pulses_in, run_in, runs_in}
use Rattle.mixdown.specs.Bins.{is_among, firsts_after}
use Rattle.mixdown.specs.Starts.{runs_for_from, merged_in}
use Rattle.mixdown.specs.Sampled.{Rowed, Out, out, added_to, unless_refused, ran_pulses, and_then, ran_bins}
use Rattle.mixdown.proofs.Lengths.{i-length, q-length, scratch-length}
use Rattle.mixdown.proofs.Marked.{pulses-length}
use Rattle.mixdown.proofs.Binned.{joined_length}
use Rattle.mixdown.proofs.Starting.{runs-few}

-- ---- bins by first appearance

module _ (before : List (List Float)) (r : List Float) (rs : List (List Float)) where
  pub firsts-seen : is_among r before ≡ true → firsts_after before (r ∷ rs) ≡ firsts_after (before ++ (r ∷ [])) rs
  unfolding firsts_after
  firsts-seen e = rw e refl

  pub firsts-new : is_among r before ≡ false → firsts_after before (r ∷ rs) ≡ r ∷ firsts_after (before ++ (r ∷ [])) rs
  unfolding firsts_after
  firsts-new e = rw e refl

pub firsts-none : (before : List (List Float)) → firsts_after before [] ≡ []
unfolding firsts_after
firsts-none before = refl

pub firsts-append : (before xs ys : List (List Float)) → firsts_after before (xs ++ ys) ≡ firsts_after before xs ++ firsts_after (before ++ xs) ys
unfolding firsts_after
firsts-append before [] ys = ap (λ (b : List (List Float)). firsts_after b ys) (sym (append-nil before))
firsts-append before (x ∷ xs) ys = go (is_among x before) (firsts-append (before ++ (x ∷ [])) xs ys ∙ ap (λ (b : List (List Float)). firsts_after (before ++ (x ∷ [])) xs ++ firsts_after b ys) (append_assoc before (x ∷ []) xs))
  where
    go : (b : Bool) → firsts_after (before ++ (x ∷ [])) (xs ++ ys) ≡ firsts_after (before ++ (x ∷ [])) xs ++ firsts_after (before ++ (x ∷ xs)) ys
        → cond b (firsts_after (before ++ (x ∷ [])) (xs ++ ys)) (x ∷ firsts_after (before ++ (x ∷ [])) (xs ++ ys))
        ≡ cond b (firsts_after (before ++ (x ∷ [])) xs) (x ∷ firsts_after (before ++ (x ∷ [])) xs) ++ firsts_after (before ++ (x ∷ xs)) ys
    go true e = e
    go false e = ap (λ (l : List (List Float)). x ∷ l) e

pub firsts-length : (before rs : List (List Float)) → length (firsts_after before rs) ≤ length rs
unfolding firsts_after
firsts-length before [] = omega arith
firsts-length before (r ∷ rs) = go (is_among r before) (firsts-length (before ++ (r ∷ [])) rs)
  where
    go : (b : Bool) → length (firsts_after (before ++ (r ∷ [])) rs) ≤ length rs → length (cond b (firsts_after (before ++ (r ∷ [])) rs) (r ∷ firsts_after (before ++ (r ∷ [])) rs)) ≤ suc (length rs)
    go true h = omega (arith, h)
    go false h = omega (arith, h)

-- ---- one after another

-- what a part of a call is like: where it is done it has added so many pulses, and no length changes
pub record Like (st : Rowed) (k most : ℕ) (o : Out) : Type 0 where
  pub count : (m : ℕ) → o.answer ≡ Ok m → m ≤ k + most
  pub i-same : length o.left.i ≡ length st.i
  pub q-same : length o.left.q ≡ length st.q
  pub scratch-same : length o.left.scratch ≡ length st.scratch

pub done_inj : (k m : ℕ) → ◌≡◌ {A = Answer} (Ok k) (Ok m) → k ≡ m
done_inj k m e = cc

like-done : (st : Rowed) (k : ℕ) → Like st k 0 (out (Ok k) st)
like-done st k = record { count = λ m e. let same = done_inj k m e in omega (arith, same); i-same = refl; q-same = refl; scratch-same = refl }

like-refused : (st : Rowed) (k most : ℕ) (r : Refusal) → Like st k most (out (refuse r k) st)
like-refused st k most r = record { count = λ m e. let z : ◌≡◌ {A = ℕ} 0 1 = cc in absurd (omega arith); i-same = refl; q-same = refl; scratch-same = refl }

-- a part behind another
like-later : (st st' : Rowed) (k k' most more : ℕ) (o : Out) → k' ≤ k + most → length st'.i ≡ length st.i → length st'.q ≡ length st.q → length st'.scratch ≡ length st.scratch
    → Like st' k' more o → Like st k (most + more) o
like-later st st' k k' most more o h a b c l =
    record {
      count = λ m e. let less = l.count m e in omega (arith, less, h);
      i-same = l.i-same ∙ a;
      q-same = l.q-same ∙ b;
      scratch-same = l.scratch-same ∙ c;
    }

like-more : (st : Rowed) (k most more : ℕ) (o : Out) → most ≤ more → Like st k most o → Like st k more o
like-more st k most more o h l = record { count = λ m e. let less = l.count m e in omega (arith, less, h); i-same = l.i-same; q-same = l.q-same; scratch-same = l.scratch-same }

module _ (s : Settings) (rows : ℕ) where
  pub pulses-like : (b : Bin) (numbers : List Float) (ps : List Pulse) (k : ℕ) (st : Rowed) → length st.i ≤ length st.scratch → Like st k (length ps) (ran_pulses s b numbers rows ps k st)
  unfolding ran_pulses
  pulses-like b numbers [] k st h = like-done st k
  pulses-like b numbers (p ∷ ps) k st h =
      let d = judged s b numbers p (length st.i) in
      let st' = added_to s b numbers rows d st in
      let short : length st'.i ≤ length st'.scratch = rw (i-length s b numbers rows st d, scratch-length s b numbers rows st h d) h in
      go d (like-more st k (1 + length ps) (suc (length ps)) _ (omega arith) (like-later st st' k (suc k) 1 (length ps) _ (omega arith) (i-length s b numbers rows st d) (q-length s b numbers rows st d) (scratch-length s b numbers rows st h d) (pulses-like b numbers ps (suc k) st' short)))
    where
      go : (d : Result Judged Refusal) → Like st k (suc (length ps)) (ran_pulses s b numbers rows ps (suc k) (added_to s b numbers rows (judged s b numbers p (length st.i)) st)) → Like st k (suc (length ps)) (unless_refused d k st (ran_pulses s b numbers rows ps (suc k) (added_to s b numbers rows (judged s b numbers p (length st.i)) st)))
      go (Err r) l = like-refused st k (suc (length ps)) r
      go (Ok (judgement.Plateau f)) l = l
      go (Ok (judgement.Shaped c)) l = l

  module _ (merged : List Float → List Pulse) where
    pub bins-none : (k : ℕ) (st : Rowed) → ran_bins s rows merged [] k st ≡ out (Ok k) st
    unfolding ran_bins
    bins-none k st = refl

    -- one bin, by what it came to
    module _ (r : List Float) (rs : List (List Float)) (k : ℕ) (st st' : Rowed) where
      pub bins-on : (m : ℕ) → out (Ok m) st' ≡ ran_pulses s (bin_of r) (numbers_of r) rows (merged r) k st → ran_bins s rows merged (r ∷ rs) k st ≡ ran_bins s rows merged rs m st'
      unfolding ran_bins
      bins-on m e = ap (λ (o : Out). and_then o (ran_bins s rows merged rs)) (sym e)

      pub bins-refused : (x : Refused) → out (Err x) st' ≡ ran_pulses s (bin_of r) (numbers_of r) rows (merged r) k st → ran_bins s rows merged (r ∷ rs) k st ≡ out (Err x) st'
      unfolding ran_bins
      bins-refused x e = ap (λ (o : Out). and_then o (ran_bins s rows merged rs)) (sym e)

    -- two parts of a list of bins
    pub bins-append : (xs ys : List (List Float)) (k : ℕ) (st : Rowed) → ran_bins s rows merged (xs ++ ys) k st ≡ and_then (ran_bins s rows merged xs k st) (ran_bins s rows merged ys)
    unfolding ran_bins
    bins-append [] ys k st = refl
    bins-append (x ∷ xs) ys k st = let o = ran_pulses s (bin_of x) (numbers_of x) rows (merged x) k st in by o.answer o.left (bins-append xs ys)
      where
        by : (a : Answer) (l : Rowed) → ((m : ℕ) (st' : Rowed) → ran_bins s rows merged (xs ++ ys) m st' ≡ and_then (ran_bins s rows merged xs m st') (ran_bins s rows merged ys))
            → and_then (out a l) (ran_bins s rows merged (xs ++ ys)) ≡ and_then (and_then (out a l) (ran_bins s rows merged xs)) (ran_bins s rows merged ys)
        by (Ok m) l f = f m l
        by (Err e) l f = refl

    -- all bins
    pub bins-like : ((r : List Float) → length (merged r) ≤ 65536) → (rs : List (List Float)) (k : ℕ) (st : Rowed) → length st.i ≤ length st.scratch → Like st k (length rs * 65536) (ran_bins s rows merged rs k st)
    unfolding ran_bins
    bins-like few [] k st h = like-more st k 0 (0 * 65536) _ (omega arith) (like-done st k)
    bins-like few (r ∷ rs) k st h =
        let o = ran_pulses s (bin_of r) (numbers_of r) rows (merged r) k st in
        by o.answer o.left (pulses-like (bin_of r) (numbers_of r) (merged r) k st h) (bins-like few rs)
      where
        by : (a : Answer) (l : Rowed) → Like st k (length (merged r)) (out a l) → ((m : ℕ) (st' : Rowed) → length st'.i ≤ length st'.scratch → Like st' m (length rs * 65536) (ran_bins s rows merged rs m st')) → Like st k (suc (length rs) * 65536) (and_then (out a l) (ran_bins s rows merged rs))
        by (Ok m) l like rest =
            let less = like.count m refl in
            let short : length l.i ≤ length l.scratch = rw (like.i-same, like.scratch-same) h in
            like-more st k (65536 + length rs * 65536) (suc (length rs) * 65536) _ (omega arith) (like-later st l k m 65536 (length rs * 65536) _ (let f = few r in omega (arith, less, f)) like.i-same like.q-same like.scratch-same (rest m l short))
        by (Err x) l like rest = record { count = λ n e. let z : ◌≡◌ {A = ℕ} 0 1 = cc in absurd (omega arith); i-same = like.i-same; q-same = like.q-same; scratch-same = like.scratch-same }

    -- the same pulses, the same call
    pub bins-alike : (other : List Float → List Pulse) → ((r : List Float) → merged r ≡ other r) → (rs : List (List Float)) (k : ℕ) (st : Rowed) → ran_bins s rows merged rs k st ≡ ran_bins s rows other rs k st
    unfolding ran_bins
    bins-alike other same [] k st = refl
    bins-alike other same (r ∷ rs) k st =
        let o = ran_pulses s (bin_of r) (numbers_of r) rows (other r) k st in
        ap (λ (ps : List Pulse). and_then (ran_pulses s (bin_of r) (numbers_of r) rows ps k st) (ran_bins s rows merged rs)) (same r) ∙ by o.answer o.left (bins-alike other same rs)
      where
        by : (a : Answer) (l : Rowed) → ((m : ℕ) (st' : Rowed) → ran_bins s rows merged rs m st' ≡ ran_bins s rows other rs m st') → and_then (out a l) (ran_bins s rows merged rs) ≡ and_then (out a l) (ran_bins s rows other rs)
        by (Ok m) l f = f m l
        by (Err e) l f = refl

-- ---- the bins of one list, of which p are passed

module _ (s : Settings) (rows : ℕ) (merged : List Float → List Pulse) (before its : List (List Float)) (all : Out) (st₀ : Rowed) (added : ℕ) where
  pub record Listing (st : Rowed) (n p : ℕ) : Type 0 where
    pub same-i : length st.i ≡ length st₀.i
    pub same-q : length st.q ≡ length st₀.q
    pub same-scratch : length st.scratch ≡ length st₀.scratch
    pub upto : p ≤ length its
    pub counted : n ≤ added + p * 65536
    pub whole : ran_bins s rows merged (firsts_after (before ++ take p its) (drop p its)) n st ≡ all

module _ {s : Settings} {rows : ℕ} {merged : List Float → List Pulse} {before its : List (List Float)} {all : Out} {st₀ : Rowed} {added : ℕ} {st : Rowed} {n p : ℕ} (l : Listing s rows merged before its all st₀ added st n p) where
  abbrev pub r : List Float
  r = get_or its p []

  shift : before ++ take p its ++ (r ∷ []) ≡ before ++ (take p its ++ (r ∷ []))
  shift = append_assoc before (take p its) (r ∷ [])

  abbrev behind : List (List Float)
  behind = firsts_after (before ++ take (p + 1) its) (drop (p + 1) its)

  further : p < length its → firsts_after (before ++ take p its ++ (r ∷ [])) (drop (suc p) its) ≡ behind
  further h = rw (add-one p, take-suc its p [] h) (ap (λ (b : List (List Float)). firsts_after b (drop (suc p) its)) shift)

  pub seen_step : p < length its → is_among r (before ++ take p its) ≡ true → Listing s rows merged before its all st₀ added st n (p + 1)
  seen_step h e =
      record {
        same-i = l.same-i;
        same-q = l.same-q;
        same-scratch = l.same-scratch;
        upto = omega (arith, h);
        counted = omega (arith, l.counted);
        whole = ap (λ (rs : List (List Float)). ran_bins s rows merged rs n st) (sym (ap (firsts_after (before ++ take p its)) (drop-cons its p [] h) ∙ firsts-seen (before ++ take p its) r (drop (suc p) its) e ∙ further h)) ∙ l.whole;
      }

  new_is : p < length its → is_among r (before ++ take p its) ≡ false → ran_bins s rows merged (r ∷ behind) n st ≡ all
  new_is h e = ap (λ (rs : List (List Float)). ran_bins s rows merged rs n st) (sym (ap (firsts_after (before ++ take p its)) (drop-cons its p [] h) ∙ firsts-new (before ++ take p its) r (drop (suc p) its) e ∙ ap (λ (rs : List (List Float)). r ∷ rs) (further h))) ∙ l.whole

  pub same_after : length st₀.i ≤ length st₀.scratch → (a : Answer) (st' : Rowed) → out a st' ≡ ran_pulses s (bin_of r) (numbers_of r) rows (merged r) n st → Like st n (length (merged r)) (out a st')
  same_after h a st' e = rw e (pulses-like s rows (bin_of r) (numbers_of r) (merged r) n st (omega (arith, h, l.same-i, l.same-scratch)))

  pub new-step : length st₀.i ≤ length st₀.scratch → length (merged r) ≤ 65536 → p < length its → is_among r (before ++ take p its) ≡ false → (m : ℕ) (st' : Rowed) → out (Ok m) st' ≡ ran_pulses s (bin_of r) (numbers_of r) rows (merged r) n st → Listing s rows merged before its all st₀ added st' m (p + 1)
  new-step short few h new m st' e =
      let like = same_after short (Ok m) st' e in
      let less = like.count m refl in
      record {
        same-i = like.i-same ∙ l.same-i;
        same-q = like.q-same ∙ l.same-q;
        same-scratch = like.scratch-same ∙ l.same-scratch;
        upto = omega (arith, h);
        counted = omega (arith, less, few, l.counted);
        whole = sym (bins-on s rows merged r behind n st st' m e) ∙ new_is h new;
      }

  pub refused-step : p < length its → is_among r (before ++ take p its) ≡ false → (x : Refused) (st' : Rowed) → out (Err x) st' ≡ ran_pulses s (bin_of r) (numbers_of r) rows (merged r) n st → out (Err x) st' ≡ all
  refused-step h new x st' e = sym (bins-refused s rows merged r behind n st st' x e) ∙ new_is h new

  pub list-end : length its ≤ p → out (Ok n) st ≡ all
  list-end h = sym (bins-none s rows merged n st) ∙ ap (λ (rs : List (List Float)). ran_bins s rows merged rs n st) (sym (ap (firsts_after (before ++ take p its)) (drop_of_length-le its h) ∙ firsts-none (before ++ take p its))) ∙ l.whole

pub list-start : (s : Settings) (rows : ℕ) (merged : List Float → List Pulse) (before its : List (List Float)) (st : Rowed) (added : ℕ) → Listing s rows merged before its (ran_bins s rows merged (firsts_after before its) added st) st added st added 0
list-start s rows merged before its st added =
    record {
      same-i = refl;
      same-q = refl;
      same-scratch = refl;
      upto = omega arith;
      counted = omega arith;
      whole = ap (λ (b : List (List Float)). ran_bins s rows merged (firsts_after b its) added st) (append-nil before);
    }

-- ---- a bin has at most 65,536 pulses
pub merged-few : (t : Tables) (bins work : List (List Float)) (marks : List ℕ) (parts : List Part) (ends : List ℕ) (r : List Float) → length work ≡ 8192 → length marks ≡ 8192 → length parts ≤ 8 → length (merged_in t bins work marks parts ends r) ≤ 65536
merged-few t bins work marks parts ends r a b c =
    let runs = runs_for_from t bins marks r 0 parts ends in
    let long = pulses-length work marks (a ∙ sym b) in
    let most = joined_length (pulses_in work marks) runs (omega (arith, long, a)) in
    let less = runs-few t bins marks r 0 parts ends in
    let all = summed-length (together t.time.0) (joined (map (run_in (pulses_in work marks)) runs)) in
    omega (arith, most, less, all, c)

-- what a bin came to, by the runs that were made for it
pub by_runs : (s : Settings) (t : Tables) (bins work : List (List Float)) (marks : List ℕ) (parts : List Part) (ends : List ℕ) (rows n : ℕ) (row : List Float) (runs : Runs) (o : Out) (st : Rowed)
    → take runs.count runs.runs ≡ runs_for_from t bins marks row 0 parts ends
    → o ≡ ran_pulses s (bin_of row) (numbers_of row) rows (summed_again t.time.0 (joined (runs_in (pulses_in work marks) runs))) n st
    → o ≡ ran_pulses s (bin_of row) (numbers_of row) rows (merged_in t bins work marks parts ends row) n st
by_runs s t bins work marks parts ends rows n row runs o st made e = e ∙ ap (λ (rs : List Run). ran_pulses s (bin_of row) (numbers_of row) rows (summed_again t.time.0 (joined (map (run_in (pulses_in work marks)) rs))) n st) made
