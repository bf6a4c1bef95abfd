-- The lists that take part, one after another: what is left after k of them. Assumes nothing.
use Rattle.quant.specs.Refusal.{Answer}
use Rattle.std.specs.Prelude.{Ok, Err}
use Prim.Native.Nat.{ℕ, ◌+◌, ◌*◌, ◌<◌, ◌≤◌}
use native.Mathlib.Omega.{arith}
use native.Mathlib.Numerals.{add-one}
use mathlib.Core.Path.{◌≡◌, refl, sym, ap, ◌∙◌}
use mathlib.Core.List.{List, [], ◌∷◌, ◌++◌}
use lib.Ieee.{Float}
use lib.ListN.{length, take, drop, get_or, drop_of_length-le}
use lib.Seq.{drop-cons, take-suc}
use Rattle.quant.specs.declared.refusal.Refused.{Refused}
use Rattle.quant.specs.declared.settings.Settings.{Settings}
use Rattle.pulse.specs.declared.list.Pulse.{Pulse}
use Rattle.tables.specs.declared.Tables.{Tables}
use Rattle.commands.specs.Play.{rows_of}
use Rattle.merge.specs.Taking.{Part}
use Rattle.mixdown.specs.Bins.{all_rows, firsts_after}
use Rattle.mixdown.specs.Sampled.{Rowed, Out, out, and_then, ran_bins}
use Rattle.mixdown.proofs.Appeared.{rows_append, rows-one}
use Rattle.mixdown.proofs.Listed.{Like, bins-none, bins-append, bins-like, firsts-none, firsts-append, firsts-length}

rows-cons : (t : Tables) (bins : List (List Float)) (p : Part) (ps : List Part) → all_rows t bins (p ∷ ps) ≡ rows_of t bins p.place ++ all_rows t bins ps
unfolding all_rows
rows-cons t bins p ps = refl

rows-nil : (t : Tables) (bins : List (List Float)) → all_rows t bins [] ≡ []
unfolding all_rows
rows-nil t bins = refl

module _ (s : Settings) (rows : ℕ) (merged : List Float → List Pulse) (t : Tables) (bins : List (List Float)) (parts : List Part) (all : Out) (st₀ : Rowed) where
  pub record Listings (st : Rowed) (n k : ℕ) : Type 0 where
    pub same-i : length st.i ≡ length st₀.i
    pub same-q : length st.q ≡ length st₀.q
    pub same-scratch : length st.scratch ≡ length st₀.scratch
    pub counted : n ≤ k * 4194304
    pub whole : ran_bins s rows merged (firsts_after (all_rows t bins (take k parts)) (all_rows t bins (drop k parts))) n st ≡ all

module _ {s : Settings} {rows : ℕ} {merged : List Float → List Pulse} {t : Tables} {bins : List (List Float)} {parts : List Part} {all : Out} {st₀ : Rowed} {st : Rowed} {n k : ℕ} (l : Listings s rows merged t bins parts all st₀ st n k) where
  module _ (p : Part) (cell : p ≡ get_or parts k p) (h : k < length parts) where
    abbrev before : List (List Float)
    before = all_rows t bins (take k parts)

    abbrev its : List (List Float)
    its = rows_of t bins p.place

    abbrev others : List (List Float)
    others = all_rows t bins (drop (k + 1) parts)

    now-left : all_rows t bins (drop k parts) ≡ its ++ others
    now-left = ap (all_rows t bins) (drop-cons parts k p h ∙ rw (← cell, add-one k) refl) ∙ rows-cons t bins p (drop (k + 1) parts)

    now-passed : before ++ its ≡ all_rows t bins (take (k + 1) parts)
    now-passed =
        let one_more : take (k + 1) parts ≡ take k parts ++ (p ∷ []) = rw (add-one k) (take-suc parts k p h ∙ ap (λ (x : Part). take k parts ++ (x ∷ [])) (sym cell)) in
        sym (ap (all_rows t bins) one_more ∙ rows_append t bins [] (take k parts) (p ∷ []) ∙ ap (λ (rs : List (List Float)). before ++ rs) (rows-one t bins [] p))

    in_two : and_then (ran_bins s rows merged (firsts_after before its) n st) (ran_bins s rows merged (firsts_after (all_rows t bins (take (k + 1) parts)) others)) ≡ all
    in_two =
        ap (λ (b : List (List Float)). and_then (ran_bins s rows merged (firsts_after before its) n st) (ran_bins s rows merged (firsts_after b others))) (sym now-passed)
        ∙ sym (bins-append s rows merged (firsts_after before its) (firsts_after (before ++ its) others) n st)
        ∙ ap (λ (rs : List (List Float)). ran_bins s rows merged rs n st) (sym (ap (firsts_after before) now-left ∙ firsts-append before its others))
        ∙ l.whole

    -- how list k's bins came out
    module _ (short : length st₀.i ≤ length st₀.scratch) (few : (r : List Float) → length (merged r) ≤ 65536) (most : length its ≤ 64) (a : Answer) (st' : Rowed) (e : out a st' ≡ ran_bins s rows merged (firsts_after before its) n st) where
      pub like-it : Like st n (length (firsts_after before its) * 65536) (out a st')
      like-it = rw e (bins-like s rows merged few (firsts_after before its) n st (omega (arith, short, l.same-i, l.same-scratch)))

      pub next-list : (m : ℕ) → a ≡ Ok m → Listings s rows merged t bins parts all st₀ st' m (k + 1)
      next-list m done =
          let less = like-it.count m done in
          let some = firsts-length before its in
          record {
            same-i = like-it.i-same ∙ l.same-i;
            same-q = like-it.q-same ∙ l.same-q;
            same-scratch = like-it.scratch-same ∙ l.same-scratch;
            counted = omega (arith, less, some, most, l.counted);
            whole = ap (λ (o : Out). and_then o (ran_bins s rows merged (firsts_after (all_rows t bins (take (k + 1) parts)) others))) (ap (λ (x : Answer). out x st') (sym done) ∙ e) ∙ in_two;
          }

      pub list-refused : (r : Refused) → a ≡ Err r → out (Err r) st' ≡ all
      list-refused r no_more = ap (λ (o : Out). and_then o (ran_bins s rows merged (firsts_after (all_rows t bins (take (k + 1) parts)) others))) (ap (λ (x : Answer). out x st') (sym no_more) ∙ e) ∙ in_two

  pub all_done : length parts ≤ k → out (Ok n) st ≡ all
  all_done h =
      sym (bins-none s rows merged n st)
      ∙ ap (λ (rs : List (List Float)). ran_bins s rows merged rs n st) (sym (ap (firsts_after (all_rows t bins (take k parts))) (ap (all_rows t bins) (drop_of_length-le parts h) ∙ rows-nil t bins) ∙ firsts-none (all_rows t bins (take k parts))))
      ∙ l.whole

pub all_start : (s : Settings) (rows : ℕ) (merged : List Float → List Pulse) (t : Tables) (bins : List (List Float)) (parts : List Part) (st : Rowed)
    → Listings s rows merged t bins parts (ran_bins s rows merged (firsts_after [] (all_rows t bins parts)) 0 st) st st 0 0
all_start s rows merged t bins parts st =
    record {
      same-i = refl;
      same-q = refl;
      same-scratch = refl;
      counted = omega arith;
      whole = ap (λ (b : List (List Float)). ran_bins s rows merged (firsts_after b (all_rows t bins parts)) 0 st) (rows-nil t bins);
    }
