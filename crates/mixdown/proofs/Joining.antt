-- The pulse that is picked is the first of the lists joined, and the runs moved on behind it join to the rest. By the lists in turn: `joined`
-- takes its first list's pulse unless one of those behind is earlier, and so does the picking. Assumes nothing.
use Rattle.std.specs.Prelude.{Option, Some, None}
use Prim.Native.Nat.{ℕ, suc, ◌-◌, ◌≤◌, ◌<◌}
use native.Mathlib.Omega.{arith}
use mathlib.Core.Path.{◌≡◌, refl, sym, ap, subst, ◌∙◌}
use mathlib.Core.Bool.{Bool, true, false, cond}
use mathlib.Core.List.{List, [], ◌∷◌, map}
use lib.Dec.{ltb, eqb}
use lib.Ieee.{Float, lt}
use lib.ListN.{length, take, get_or, set, length-take, get_or-eq_default}
use lib.Seq.{take-set-lt, get_or-take, get_or-set_same, get_or-set_other, set_out}
use borrow.Author.Tests.{ltb-true, ltb-false, eqb-true, eqb-false}
use Rattle.pulse.specs.declared.list.Pulse.{Pulse}
use Rattle.merge.specs.Sum.{scaled_p}
use Rattle.merge.specs.Join.{joined_two, joined}
use Rattle.merge.proofs.Next.{joined-none}
use Rattle.mixdown.specs.declared.runs.Run.{Run}
use Rattle.mixdown.specs.declared.runs.Runs.{Runs}
use Rattle.mixdown.specs.declared.runs.Picked.{Picked}
use Rattle.mixdown.specs.Runs.{pulse_at, pulses_in, run_in, runs_in, time_at, picked, no_run, advanced_by, better, picked_from, picked_in, behind, moved_on, Within}
use Rattle.mixdown.proofs.Marked.{run-next, run_none}

-- ---- joining

nil-two : (ys : List Pulse) → joined_two [] ys ≡ ys
unfolding joined_two
nil-two ys = refl

two-cons : (x y : Pulse) (xs ys : List Pulse) → joined_two (x ∷ xs) (y ∷ ys) ≡ cond (lt y.time.0 x.time.0) (y ∷ joined_two (x ∷ xs) ys) (x ∷ joined_two xs (y ∷ ys))
unfolding joined_two
two-cons x y xs ys = refl

module _ (work : List (List Float)) (marks : List ℕ) (same : length work ≡ length marks) (full : length marks ≡ 8192) where
  abbrev all : List Pulse
  all = pulses_in work marks

  abbrev lists : List Run → List (List Pulse)
  lists rs = map (run_in all) rs

  abbrev pulse : List Run → ℕ → ℕ → Pulse
  pulse rs i at = scaled_p (get_or rs i no_run).factor (pulse_at work marks at)

  abbrev later : List Run → ℕ → ℕ → List Run
  later rs i at = set rs i (behind marks at (get_or rs i no_run))

  -- q is picked from runs whose first is list k
  pub record One (k : ℕ) (rs : List Run) (q : Picked) : Type 0 where
    pub is : joined (lists rs) ≡ pulse rs (q.list - k) q.at ∷ joined (lists (later rs (q.list - k) q.at))
    pub from : k ≤ q.list
    pub under : q.list - k < length rs
    pub row : q.at < 8192

  -- so is p, or nothing is left
  abbrev pub First : ℕ → List Run → Option Picked → Type 0
  First k rs (Some q) = One k rs q
  First k rs None = joined (lists rs) ≡ []

  -- ---- one list before others
  module _ (k : ℕ) (r : Run) (rs : List Run) (within : r.end ≤ length marks) where
    -- none is left of it
    passed_over : (p : Option Picked) → r.end ≤ advanced_by marks r → First (suc k) rs p → First k (r ∷ rs) p
    unfolding joined
    passed_over None h rest = rw (run_none work marks same r within h) (nil-two _ ∙ rest)
    passed_over (Some q) h rest =
        let i : q.list - k ≡ suc (q.list - suc k) = omega (arith, rest.from) in
        record {
          is = rw (i, run_none work marks same r within h) (nil-two _ ∙ rest.is ∙ ap (λ (ps : List Pulse). pulse rs (q.list - suc k) q.at ∷ ps) (sym (nil-two _)));
          from = omega (arith, rest.from);
          under = omega (arith, rest.under, i);
          row = rest.row;
        }

    abbrev j : ℕ
    j = advanced_by marks r

    abbrev x : Pulse
    x = scaled_p r.factor (pulse_at work marks j)

    module _ (h : j < r.end) where
      mine : k - k ≡ 0
      mine = omega arith

      next : run_in all r ≡ x ∷ run_in all (behind marks j r)
      next = run-next work marks same r within h

      -- it is picked: nothing is left of the others, or their best is not earlier
      taken : joined (lists (r ∷ rs)) ≡ x ∷ joined_two (run_in all (behind marks j r)) (joined (lists rs)) → One k (r ∷ rs) (record { list = k; at = j })
      unfolding joined
      taken e = record { is = rw mine e; from = omega arith; under = omega (arith, mine); row = omega (arith, h, within, full) }

      alone : joined (lists rs) ≡ [] → One k (r ∷ rs) (record { list = k; at = j })
      unfolding joined
      alone rest = taken (rw (next, rest) (joined-none _ ∙ ap (λ (ps : List Pulse). x ∷ ps) (sym (joined-none _))))

      module _ (q : Picked) (rest : One (suc k) rs q) where
        abbrev y : Pulse
        y = pulse rs (q.list - suc k) q.at

        both : joined (lists (r ∷ rs)) ≡ cond (lt (time_at work q.at) (time_at work j)) (y ∷ joined_two (x ∷ run_in all (behind marks j r)) (joined (lists (later rs (q.list - suc k) q.at)))) (x ∷ joined_two (run_in all (behind marks j r)) (joined (lists rs)))
        unfolding joined
        both = rw (next, rest.is) (two-cons x y _ _)

        beaten : lt (time_at work q.at) (time_at work j) ≡ true → One k (r ∷ rs) q
        unfolding joined
        beaten t =
            let i : q.list - k ≡ suc (q.list - suc k) = omega (arith, rest.from) in
            record { is = rw i (both ∙ rw (t, next) refl); from = omega (arith, rest.from); under = omega (arith, rest.under, i); row = rest.row }

        kept : lt (time_at work q.at) (time_at work j) ≡ false → One k (r ∷ rs) (record { list = k; at = j })
        kept t = taken (both ∙ rw t refl)

    of_none : joined (lists rs) ≡ [] → (b : Bool) → ltb j r.end ≡ b → First k (r ∷ rs) (cond b (picked k j) None)
    of_none rest false e = passed_over None (ltb-false j r.end e) rest
    of_none rest true e = alone (ltb-true j r.end e) rest

    of_some : (q : Picked) → One (suc k) rs q → (b : Bool) → ltb j r.end ≡ b → (d : Bool) → lt (time_at work q.at) (time_at work j) ≡ d → First k (r ∷ rs) (cond b (cond d (Some q) (picked k j)) (Some q))
    of_some q rest false e d g = passed_over (Some q) (ltb-false j r.end e) rest
    of_some q rest true e true g = beaten (ltb-true j r.end e) q rest g
    of_some q rest true e false g = kept (ltb-true j r.end e) q rest g

    first_of : (p : Option Picked) → First (suc k) rs p → First k (r ∷ rs) (better work k j r.end p)
    first_of None rest = of_none rest (ltb j r.end) refl
    first_of (Some q) rest = of_some q rest (ltb j r.end) refl (lt (time_at work q.at) (time_at work j)) refl

  joined-nil : joined (lists []) ≡ []
  unfolding joined
  joined-nil = refl

  pub first : (k : ℕ) (rs : List Run) → ((i : ℕ) → (get_or rs i no_run).end ≤ 8192) → First k rs (picked_from work marks k rs)
  unfolding picked_from
  first k [] w = joined-nil
  first k (r ∷ rs) w = first_of k r rs (omega (arith, w 0, full)) _ (first (suc k) rs (λ i. w (suc i)))

-- ---- runs by value

pub within-take : (n : ℕ) (rs : List Run) → Within rs → (i : ℕ) → (get_or (take n rs) i no_run).end ≤ 8192
within-take n rs w i = go (ltb i n) refl
  where
    go : (b : Bool) → ltb i n ≡ b → (get_or (take n rs) i no_run).end ≤ 8192
    go true e = rw (get_or-take n rs i no_run (ltb-true i n e)) (w.each i)
    go false e =
        let over = ltb-false i n e in
        rw (get_or-eq_default (take n rs) no_run {n = i} (rw length-take (omega arith))) (omega arith)

pub within-set : (rs : List Run) (k : ℕ) (r : Run) → r.end ≤ 8192 → Within rs → Within (set rs k r)
within-set rs k r h w = record { each = λ i. by i (eqb i k) refl (ltb k (length rs)) refl }
  where
    by : (i : ℕ) (b : Bool) → eqb i k ≡ b → (d : Bool) → ltb k (length rs) ≡ d → (get_or (set rs k r) i no_run).end ≤ 8192
    by i false e d t = rw (get_or-set_other rs k i r no_run (eqb-false i k e)) (w.each i)
    by i true e true t = rw (eqb-true i k e, get_or-set_same rs k r no_run (ltb-true k (length rs) t)) h
    by i true e false t = rw (set_out rs k r (ltb-false k (length rs) t)) (w.each i)

module _ (work : List (List Float)) (marks : List ℕ) (same : length work ≡ length marks) (full : length marks ≡ 8192) (r : Runs) (most : r.count ≤ length r.runs) (w : Within r.runs) where
  abbrev p : Option Picked
  p = picked_in work marks r

  abbrev run : Picked → Run
  run q = get_or r.runs q.list no_run

  found : First work marks same full 0 (take r.count r.runs) p
  found = first work marks same full 0 (take r.count r.runs) (within-take r.count r.runs w)

  pub none_left : p ≡ None → joined (runs_in (pulses_in work marks) r) ≡ []
  none_left e = subst (First work marks same full 0 (take r.count r.runs)) e found

  module _ (q : Picked) (e : p ≡ Some q) where
    one : One work marks same full 0 (take r.count r.runs) q
    one = subst (First work marks same full 0 (take r.count r.runs)) e found

    pub in_lists : q.list < r.count
    in_lists = let under = one.under in let long = length-take r.count r.runs in omega (arith, under, long)

    pub in_rows : q.at < 8192
    in_rows = one.row

    -- the pulse picked, and the rest
    pub next-left : joined (runs_in (pulses_in work marks) r) ≡ scaled_p (run q).factor (pulse_at work marks q.at) ∷ joined (runs_in (pulses_in work marks) (moved_on marks r q))
    next-left =
        let cell = get_or-take r.count r.runs q.list no_run in_lists in
        let whole = take-set-lt r.count r.runs q.list (behind marks q.at (run q)) in_lists in
        let off : q.list - 0 ≡ q.list = omega arith in
        one.is ∙ ap (λ (i : ℕ). pulse work marks same full (take r.count r.runs) i q.at ∷ joined (lists work marks same full (later work marks same full (take r.count r.runs) i q.at))) off ∙ ap (λ (x : Run). scaled_p x.factor (pulse_at work marks q.at) ∷ joined (lists work marks same full (set (take r.count r.runs) q.list (behind marks q.at x)))) cell ∙ ap (λ (rs : List Run). scaled_p (run q).factor (pulse_at work marks q.at) ∷ joined (lists work marks same full rs)) (sym whole)

  pub within-moved : (q : Picked) → Within (moved_on marks r q).runs
  within-moved q = within-set r.runs q.list (behind marks q.at (run q)) (w.each q.list) w
