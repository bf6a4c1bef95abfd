-- Laws of the command call: two calls one after the other are one call; what a refused call leaves is what its accepted commands leave
-- alone; no call changes a size. By the commands in turn. Assumes nothing.
use Rattle.quant.specs.Refusal.{Answer, refuse}
use Rattle.quant.proofs.Refusals.{same-why, same-place}
use Rattle.std.specs.Prelude.{Ok, Err}
use Prim.Native.Nat.{ℕ, zero, suc, ◌+◌, ◌≤◌}
use native.Mathlib.Omega.{arith}
use native.Mathlib.Nat.{add-suc, add-zero}
use mathlib.Core.Path.{◌≡◌, refl, sym, ap, ◌∙◌}
use mathlib.Core.Bool.{Bool, true, false, cond}
use mathlib.Core.List.{List, [], ◌∷◌, ◌++◌}
use borrow.Author.Tests.{le-leb, eq-eqb}
use lib.Ieee.{Float}
use lib.ListN.{length, take, set, length-append, length-set, length-take}
use Rattle.quant.specs.declared.refusal.Refusal.{Refusal}
use Rattle.pulse.specs.declared.list.Pulse.{Pulse}
use Rattle.pulse.specs.List.{stored}
use Rattle.pulse.proofs.Stored.{stored-length}
use Rattle.tables.specs.declared.Tables.{Tables}
use Rattle.commands.specs.declared.command.Arranged.{Arranged}
use Rattle.commands.specs.declared.step.Step.{Step}
use Rattle.commands.specs.Step.{numbers_at, bins_after, pulses_after}
use Rattle.commands.specs.Run.{Ran, ran_to, done_at, refused_at, step_of, ran, executed}
use Rattle.commands_laws.specs.Words.{further, counted_from, second_call}

-- ---- sizes

pub bins-size : (s : Step) (splines bins : List (List Float)) → length (bins_after s splines bins) ≡ length bins
bins-size s splines bins = go s.opens
  where
    go : (b : Bool) → length (cond b (set bins s.at (s.head ++ numbers_at splines s.spline)) bins) ≡ length bins
    go true = length-set bins s.at (s.head ++ numbers_at splines s.spline)
    go false = refl

pub pulses-size : (s : Step) (pulses : List Pulse) → length (pulses_after s pulses) ≡ length pulses
pulses-size s pulses = go s.put
  where
    go : (b : Bool) → length (cond b (stored s.from s.count s.pulse pulses) pulses) ≡ length pulses
    go true = stored-length s.from s.count s.pulse pulses
    go false = refl

pub record Sizes (r : Ran) (bins : List (List Float)) (pulses : List Pulse) : Type 0 where
  pub rows : length r.bins ≡ length bins
  pub records : length r.pulses ≡ length pulses

pub ran-sizes : (k : ℕ) (t : Tables) (splines : List (List Float)) (commands : List Arranged) (bins : List (List Float)) (pulses : List Pulse)
    → Sizes (ran k t splines commands bins pulses) bins pulses
unfolding ran
ran-sizes k t splines [] bins pulses = record { rows = refl; records = refl }
ran-sizes k t splines (a ∷ more) bins pulses = go s.stop (ran-sizes (suc k) s.tables splines more (bins_after s splines bins) (pulses_after s pulses))
  where
    s : Step
    s = step_of t splines bins a

    go : (b : Bool) → Sizes (ran (suc k) s.tables splines more (bins_after s splines bins) (pulses_after s pulses)) (bins_after s splines bins) (pulses_after s pulses)
        → Sizes (cond b (ran_to (refused_at t s.why k) bins pulses) (ran (suc k) s.tables splines more (bins_after s splines bins) (pulses_after s pulses))) bins pulses
    go true h = record { rows = refl; records = refl }
    go false h = record { rows = h.rows ∙ bins-size s splines bins; records = h.records ∙ pulses-size s pulses }

-- ---- the count

pub ran-counted : (n k : ℕ) (t : Tables) (splines : List (List Float)) (commands : List Arranged) (bins : List (List Float)) (pulses : List Pulse)
    → ran (n + k) t splines commands bins pulses ≡ counted_from n (ran k t splines commands bins pulses)
unfolding ran
ran-counted n k t splines [] bins pulses = refl
ran-counted n k t splines (a ∷ more) bins pulses =
    go s.stop (ran-counted n (suc k) s.tables splines more (bins_after s splines bins) (pulses_after s pulses))
  where
    s : Step
    s = step_of t splines bins a

    later : ℕ → Ran
    later j = ran j s.tables splines more (bins_after s splines bins) (pulses_after s pulses)

    go : (b : Bool) → later (n + suc k) ≡ counted_from n (later (suc k))
        → cond b (ran_to (refused_at t s.why (n + k)) bins pulses) (later (suc (n + k)))
        ≡ counted_from n (cond b (ran_to (refused_at t s.why k) bins pulses) (later (suc k)))
    go true h = refl
    go false h = ap later (sym (add-suc n k)) ∙ h

-- ---- two calls

-- the commands of a second list, from where the first run ended
abbrev on : Answer → Ran → List (List Float) → List Arranged → Ran
on (Err e) first splines commands = first
on (Ok n) first splines commands = ran n first.result.tables splines commands first.bins first.pulses

ran_on : (k : ℕ) (t : Tables) (splines : List (List Float)) (xs ys : List Arranged) (bins : List (List Float)) (pulses : List Pulse)
    → let first = ran k t splines xs bins pulses in ran k t splines (xs ++ ys) bins pulses ≡ on first.result.answer first splines ys
unfolding ran
ran_on k t splines [] ys bins pulses = refl
ran_on k t splines (a ∷ xs) ys bins pulses = go s.stop (ran_on (suc k) s.tables splines xs ys (bins_after s splines bins) (pulses_after s pulses))
  where
    s : Step
    s = step_of t splines bins a

    later : List Arranged → Ran
    later l = ran (suc k) s.tables splines l (bins_after s splines bins) (pulses_after s pulses)

    ended : Ran
    ended = ran_to (refused_at t s.why k) bins pulses

    go : (b : Bool) → later (xs ++ ys) ≡ on (later xs).result.answer (later xs) splines ys
        → cond b ended (later (xs ++ ys)) ≡ on (cond b ended (later xs)).result.answer (cond b ended (later xs)) splines ys
    go true h = refl
    go false h = h

-- a call whose sizes fit
pub fits : (splines : List (List Float)) (commands : List Arranged) (bins : List (List Float)) (pulses : List Pulse) (t : Tables)
    → length commands ≤ 1024 → length splines ≡ 8 → length bins ≡ 512 → length pulses ≡ 8192
    → executed t splines commands bins pulses ≡ ran 0 t splines commands bins pulses
fits splines commands bins pulses t few shapes rows records = rw (le-leb (length commands) 1024 few, eq-eqb (length splines) 8 shapes, eq-eqb (length bins) 512 rows, eq-eqb (length pulses) 8192 records)

module _ (t : Tables) (splines : List (List Float)) (xs ys : List Arranged) (bins : List (List Float)) (pulses : List Pulse) (few : length (xs ++ ys) ≤ 1024) (shapes : length splines ≡ 8) (rows : length bins ≡ 512) (records : length pulses ≡ 8192) where
  -- running a list in two calls, at any cut, is running it in one
  pub in_two-calls : let first = executed t splines xs bins pulses in executed t splines (xs ++ ys) bins pulses ≡ second_call first.result.answer first splines ys
  unfolding second_call
  in_two-calls =
      let first = ran 0 t splines xs bins pulses in
      let long = length-append xs ys in
      rw (fits splines (xs ++ ys) bins pulses t few shapes rows records, fits splines xs bins pulses t (omega arith) shapes rows records) (ran_on 0 t splines xs ys bins pulses ∙ go first.result.answer first (ran-sizes 0 t splines xs bins pulses))
    where
      go : (a : Answer) (first : Ran) → Sizes first bins pulses → on a first splines ys ≡ second_call a first splines ys
      go (Err e) first h = refl
      go (Ok n) first h =
          let long = length-append xs ys in
          let u = first.result.tables in
          rw (fits splines ys first.bins first.pulses u (omega arith) shapes (h.rows ∙ rows) (h.records ∙ records))
          (ap (λ (k : ℕ). ran k u splines ys first.bins first.pulses) (sym (add-zero n)) ∙ ran-counted n 0 u splines ys first.bins first.pulses)

-- ---- a refused call

-- what is left where a run was refused after m commands, as the end of a run that was done
abbrev pub as_done : ℕ → Ran → Ran
as_done m r = ran_to (done_at r.result.tables m) r.bins r.pulses

done-not : {k n : ℕ} {r : Refusal} → Ok k ≡ refuse r n → ⊥
done-not e = let z : ◌≡◌ {A = ℕ} 0 1 = cc in omega arith

-- an answer counted one further
data Earlier (r : Refusal) (m : ℕ) (a : Answer) : Type 0 where
  earlier : (j : ℕ) → m ≡ suc j → a ≡ refuse r j → Earlier r m a

one_earlier : (a : Answer) (r : Refusal) (m : ℕ) → further 1 a ≡ refuse r m → Earlier r m a
one_earlier (Ok k) r m e = absurd (done-not e)
one_earlier (Err w) r m e = let place : 1 + w.place ≡ m = same-place _ _ _ _ e in let why : w.why ≡ r = same-why _ _ _ _ e in earlier w.place (omega arith) (ap (λ (x : Refusal). refuse x w.place) why)

ran-refused : (t : Tables) (splines : List (List Float)) (commands : List Arranged) (bins : List (List Float)) (pulses : List Pulse) (r : Refusal) (m : ℕ)
    → (ran 0 t splines commands bins pulses).result.answer ≡ refuse r m
    → ran 0 t splines (take m commands) bins pulses ≡ as_done m (ran 0 t splines commands bins pulses)
unfolding ran
ran-refused t splines [] bins pulses r m e = absurd (done-not e)
ran-refused t splines (a ∷ more) bins pulses r m e = go s.stop refl m e (ran-refused s.tables splines more (bins_after s splines bins) (pulses_after s pulses) r)
  where
    s : Step
    s = step_of t splines bins a

    later : ℕ → List Arranged → Ran
    later k l = ran k s.tables splines l (bins_after s splines bins) (pulses_after s pulses)

    ended : Ran
    ended = ran_to (refused_at t s.why 0) bins pulses

    one_more : (l : List Arranged) → later 1 l ≡ counted_from 1 (later 0 l)
    one_more l = ran-counted 1 0 s.tables splines l (bins_after s splines bins) (pulses_after s pulses)

    step : (n : ℕ) → s.stop ≡ false → Earlier r n (later 0 more).result.answer
        → ((j : ℕ) → (later 0 more).result.answer ≡ refuse r j → later 0 (take j more) ≡ as_done j (later 0 more))
        → ran 0 t splines (take n (a ∷ more)) bins pulses ≡ as_done n (later 1 more)
    step n goes_on (earlier j is e') before =
        let next : 1 + j ≡ suc j = omega arith in
        rw (is, goes_on)
        (one_more (take j more)
        ∙ ap (counted_from 1) (before j e')
        ∙ ap (λ (k : ℕ). as_done k (later 0 more)) next
        ∙ sym (ap (as_done (suc j)) (one_more more)))

    go : (b : Bool) → s.stop ≡ b → (n : ℕ) → (cond b ended (later 1 more)).result.answer ≡ refuse r n
        → ((j : ℕ) → (later 0 more).result.answer ≡ refuse r j → later 0 (take j more) ≡ as_done j (later 0 more))
        → ran 0 t splines (take n (a ∷ more)) bins pulses ≡ as_done n (cond b ended (later 1 more))
    go true stops zero f before = refl
    go true stops (suc n) f before = let place : ◌≡◌ {A = ℕ} 0 (suc n) = same-place _ _ _ _ f in absurd (omega arith)
    go false goes_on n f before =
        let counted = ap (λ (x : Ran). x.result.answer) (sym (one_more more)) in
        step n goes_on (one_earlier (later 0 more).result.answer r n (counted ∙ f)) before

-- what a refused call leaves is what its commands before the refused one leave by themselves: they are as many as its place says
pub refused-call : (t : Tables) (splines : List (List Float)) (commands : List Arranged) (bins : List (List Float)) (pulses : List Pulse) (r : Refusal) (m : ℕ)
    → length commands ≤ 1024 → length splines ≡ 8 → length bins ≡ 512 → length pulses ≡ 8192 → (executed t splines commands bins pulses).result.answer ≡ refuse r m
    → executed t splines (take m commands) bins pulses ≡ as_done m (executed t splines commands bins pulses)
refused-call t splines commands bins pulses r m few shapes rows records e =
    let short : length (take m commands) ≤ 1024 = rw length-take (omega arith) in
    let whole = fits splines commands bins pulses t few shapes rows records in
    rw (fits splines (take m commands) bins pulses t short shapes rows records, whole) (ran-refused t splines commands bins pulses r m (rw whole at e))
