-- A call's rows are the rows before plus its first pulses, one after another, as many as its answer counts; so a refused pulse, and what would
-- come behind it, changes no sample. And an accepted pulse changes no sample outside its range. Assumes nothing.
use Rattle.quant.specs.Refusal.{Answer}
use Rattle.quant.specs.declared.refusal.Refusal.{Refusal}
use Rattle.std.specs.Prelude.{Result, Ok, Err}
use Prim.Native.Nat.{ℕ, suc, ◌+◌, ◌≤◌}
use native.Mathlib.Omega.{arith}
use mathlib.Core.Path.{◌≡◌, refl, sym, ap, ◌∙◌}
use mathlib.Core.List.{List, [], ◌∷◌, ◌++◌}
use lib.Ieee.{Float}
use lib.ListN.{length, take, length-append}
use lib.Seq.{take-append-le, take-append-add, take-length}
use Rattle.quant.specs.declared.settings.Settings.{Settings}
use Rattle.pulse.specs.declared.bin.Bin.{Bin}
use Rattle.pulse.specs.declared.list.Pulse.{Pulse}
use Rattle.pulse.specs.Bin.{bin_of, numbers_of}
use Rattle.placing.specs.declared.Judged.{Judged}
use Rattle.placing.specs.declared.Judged.TheVariants as judgement
use Rattle.placing.specs.Judged.{judged}
use Rattle.mixdown.specs.Sampled.{Rowed, Out, out, added_to, unless_refused, ran_pulses, and_then, ran_bins}
use Rattle.sampler_laws.specs.Added.{Due, due, dues_of, all_dues, with_all, count_in}

module _ (s : Settings) (rows : ℕ) where
  -- what a part of a call has added: the first so many of what was due
  pub record First (ds : List Due) (k : ℕ) (st : Rowed) (o : Out) : Type 0 where
    pub many : ℕ
    pub upto : many ≤ length ds
    pub counted : count_in o.answer ≡ k + many
    pub rows_are : o.left ≡ with_all s rows (take many ds) st
    pub all_if_done : (m : ℕ) → o.answer ≡ Ok m → many ≡ length ds

  with_none : (st : Rowed) → with_all s rows [] st ≡ st
  unfolding with_all
  with_none st = refl

  with_append : (ds es : List Due) (st : Rowed) → with_all s rows (ds ++ es) st ≡ with_all s rows es (with_all s rows ds st)
  unfolding with_all
  with_append [] es st = refl
  with_append (d ∷ ds) es st = with_append ds es (added_to s d.bin d.numbers rows (judged s d.bin d.numbers d.pulse (length st.i)) st)

  -- ---- the pulses of a bin
  pub pulses-first : (b : Bin) (numbers : List Float) (ps : List Pulse) (k : ℕ) (st : Rowed) → First (dues_of b numbers ps) k st (ran_pulses s b numbers rows ps k st)
  unfolding ran_pulses dues_of with_all
  pulses-first b numbers [] k st = record { many = 0; upto = omega arith; counted = omega arith; rows_are = refl; all_if_done = λ m e. refl }
  pulses-first b numbers (p ∷ ps) k st = go (judged s b numbers p (length st.i)) (pulses-first b numbers ps (suc k) (added_to s b numbers rows (judged s b numbers p (length st.i)) st))
    where
      one_more : (o : Out) → First (dues_of b numbers ps) (suc k) (added_to s b numbers rows (judged s b numbers p (length st.i)) st) o → First (due b numbers p ∷ dues_of b numbers ps) k st o
      one_more o f =
          record {
            many = suc f.many;
            upto = let h = f.upto in omega (arith, h);
            counted = let h = f.counted in omega (arith, h);
            rows_are = f.rows_are;
            all_if_done = λ m e. ap suc (f.all_if_done m e);
          }

      go : (d : Result Judged Refusal) → First (dues_of b numbers ps) (suc k) (added_to s b numbers rows (judged s b numbers p (length st.i)) st) (ran_pulses s b numbers rows ps (suc k) (added_to s b numbers rows (judged s b numbers p (length st.i)) st))
          → First (due b numbers p ∷ dues_of b numbers ps) k st (unless_refused d k st (ran_pulses s b numbers rows ps (suc k) (added_to s b numbers rows (judged s b numbers p (length st.i)) st)))
      go (Err r) f = record { many = 0; upto = omega arith; counted = omega arith; rows_are = refl; all_if_done = λ m e. let z : ◌≡◌ {A = ℕ} 0 1 = cc in absurd (omega arith) }
      go (Ok (judgement.Plateau x)) f = one_more _ f
      go (Ok (judgement.Shaped c)) f = one_more _ f

  -- ---- all bins
  pub bins-first : (merged : List Float → List Pulse) (rs : List (List Float)) (k : ℕ) (st : Rowed) → First (all_dues merged rs) k st (ran_bins s rows merged rs k st)
  unfolding ran_bins all_dues
  bins-first merged [] k st = record { many = 0; upto = omega arith; counted = omega arith; rows_are = sym (with_none st); all_if_done = λ m e. refl }
  bins-first merged (r ∷ rs) k st = let o = ran_pulses s (bin_of r) (numbers_of r) rows (merged r) k st in by o.answer o.left (pulses-first (bin_of r) (numbers_of r) (merged r) k st) (bins-first merged rs)
    where
      by : (a : Answer) (l : Rowed) → First (dues_of (bin_of r) (numbers_of r) (merged r)) k st (out a l) → ((m : ℕ) (st' : Rowed) → First (all_dues merged rs) m st' (ran_bins s rows merged rs m st'))
          → First (dues_of (bin_of r) (numbers_of r) (merged r) ++ all_dues merged rs) k st (and_then (out a l) (ran_bins s rows merged rs))
      by (Err x) l f later =
          record {
            many = f.many;
            upto = let h = f.upto in let g = length-append (dues_of (bin_of r) (numbers_of r) (merged r)) (all_dues merged rs) in omega (arith, h, g);
            counted = f.counted;
            rows_are = f.rows_are ∙ ap (λ (ds : List Due). with_all s rows ds st) (sym (take-append-le f.many (dues_of (bin_of r) (numbers_of r) (merged r)) (all_dues merged rs) f.upto));
            all_if_done = λ m e. let z : ◌≡◌ {A = ℕ} 0 1 = cc in absurd (omega arith);
          }
      by (Ok n) l f later =
          let g = later n l in
          let whole = f.all_if_done n refl in
          let size = length-append (dues_of (bin_of r) (numbers_of r) (merged r)) (all_dues merged rs) in
          let here : l ≡ with_all s rows (dues_of (bin_of r) (numbers_of r) (merged r)) st = f.rows_are ∙ ap (λ (ds : List Due). with_all s rows ds st) (ap (λ (i : ℕ). take i (dues_of (bin_of r) (numbers_of r) (merged r))) whole ∙ take-length (dues_of (bin_of r) (numbers_of r) (merged r))) in
          record {
            many = length (dues_of (bin_of r) (numbers_of r) (merged r)) + g.many;
            upto = let h = g.upto in omega (arith, h, size);
            counted = let h = g.counted in let c = f.counted in omega (arith, h, c, whole);
            rows_are =
                g.rows_are
                ∙ ap (with_all s rows (take g.many (all_dues merged rs))) here
                ∙ sym (with_append (dues_of (bin_of r) (numbers_of r) (merged r)) (take g.many (all_dues merged rs)) st)
                ∙ ap (λ (ds : List Due). with_all s rows ds st) (sym (take-append-add (dues_of (bin_of r) (numbers_of r) (merged r)) (all_dues merged rs) g.many));
            all_if_done = λ m e. let h = g.all_if_done m e in omega (arith, h, size);
          }
