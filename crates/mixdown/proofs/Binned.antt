-- The pulses of one bin, run one after another while they are joined and summed: what is still to do equals what was to do. Assumes nothing.
use Rattle.quant.specs.Refusal.{refuse}
use Rattle.std.specs.Prelude.{Option, Some, None, Result, Ok, Err}
use Prim.Native.Nat.{ℕ, suc, ◌+◌, ◌*◌, ◌-◌, ◌^◌, ◌<◌, ◌≤◌}
use native.Mathlib.Omega.{arith}
use native.Mathlib.Numerals.{add-one}
use mathlib.Core.Path.{◌≡◌, refl, sym, ap, ◌∙◌}
use mathlib.Core.Bool.{Bool, true, false, cond, true≢false}
use mathlib.Core.List.{List, [], ◌∷◌, map}
use lib.Dec.{eqb}
use lib.Ieee.{Float, lt}
use lib.ListN.{length, take, drop, length-take, length-drop, length-map}
use Rattle.quant.specs.declared.refusal.Refusal.{Refusal}
use Rattle.quant.specs.declared.settings.Settings.{Settings}
use Rattle.pulse.specs.declared.bin.Bin.{Bin}
use Rattle.pulse.specs.declared.list.Pulse.{Pulse}
use Rattle.merge.specs.Sum.{plus_p, scaled_p, together, kept_from, summed_by}
use Rattle.merge.specs.Join.{joined_two, joined}
use Rattle.placing.specs.declared.Judged.{Judged}
use Rattle.placing.specs.declared.Judged.TheVariants as judgement
use Rattle.placing.specs.Judged.{judged}
use Rattle.mixdown.specs.declared.runs.Run.{Run}
use Rattle.mixdown.specs.declared.runs.Runs.{Runs}
use Rattle.mixdown.specs.declared.runs.Picked.{Picked}
use Rattle.mixdown.specs.Runs.{picked_in, of_mark, run_in, runs_in, moved_on}
use Rattle.mixdown.specs.Sampled.{Rowed, Out, out, added_to, unless_refused, ran_pulses}
use Rattle.mixdown.specs.Holding.{Holds, accepted}
use Rattle.mixdown.proofs.Picks.{left, pulse_of, Ready, picked_next, picked_none}
use Rattle.mixdown.proofs.Lengths.{i-length, q-length, scratch-length}

-- ---- summing

module _ (falls : Pulse → Pulse → Bool) (k x : Pulse) (ps : List Pulse) where
  pub kept_near : falls k x ≡ true → kept_from falls k (x ∷ ps) ≡ kept_from falls (plus_p k x) ps
  unfolding kept_from
  kept_near e = rw e refl

  pub kept-apart : falls k x ≡ false → kept_from falls k (x ∷ ps) ≡ k ∷ kept_from falls x ps
  unfolding kept_from
  kept-apart e = rw e refl

  pub summed-first : summed_by falls (x ∷ ps) ≡ kept_from falls x ps
  unfolding summed_by
  summed-first = refl

pub kept-last : (falls : Pulse → Pulse → Bool) (k : Pulse) → kept_from falls k [] ≡ k ∷ []
unfolding kept_from
kept-last falls k = refl

pub summed-none : (falls : Pulse → Pulse → Bool) → summed_by falls [] ≡ []
unfolding summed_by
summed-none falls = refl

-- ---- running
module _ (s : Settings) (b : Bin) (numbers : List Float) (rows : ℕ) where
  pub ran-none : (n : ℕ) (st : Rowed) → ran_pulses s b numbers rows [] n st ≡ out (Ok n) st
  unfolding ran_pulses
  ran-none n st = refl

  module _ (p : Pulse) (ps : List Pulse) (n : ℕ) (st : Rowed) where
    abbrev j : Result Judged Refusal
    j = judged s b numbers p (length st.i)

    pub ran_on : accepted j ≡ true → ran_pulses s b numbers rows (p ∷ ps) n st ≡ ran_pulses s b numbers rows ps (n + 1) (added_to s b numbers rows j st)
    unfolding ran_pulses
    ran_on e = go j e ∙ ap (λ (k : ℕ). ran_pulses s b numbers rows ps k (added_to s b numbers rows j st)) (sym (add-one n))
      where
        go : (d : Result Judged Refusal) → accepted d ≡ true → unless_refused d n st (ran_pulses s b numbers rows ps (suc n) (added_to s b numbers rows j st)) ≡ ran_pulses s b numbers rows ps (suc n) (added_to s b numbers rows j st)
        go (Ok (judgement.Plateau f)) t = refl
        go (Ok (judgement.Shaped c)) t = refl
        go (Err r) t = absurd (true≢false (sym t))

    pub ran-refused : (r : Refusal) → j ≡ Err r → ran_pulses s b numbers rows (p ∷ ps) n st ≡ out (refuse r n) st
    unfolding ran_pulses
    ran-refused r e = ap (λ (d : Result Judged Refusal). unless_refused d n st (ran_pulses s b numbers rows ps (suc n) (added_to s b numbers rows j st))) e

-- ---- how many there are

of-mark-length : (mark : ℕ) (ps : List Pulse) → length (of_mark mark ps) ≤ length ps
unfolding of_mark
of-mark-length mark [] = omega arith
of-mark-length mark (p ∷ ps) = go (eqb p.bin mark) (of-mark-length mark ps)
  where
    go : (d : Bool) → length (of_mark mark ps) ≤ length ps → length (cond d (p ∷ of_mark mark ps) (of_mark mark ps)) ≤ suc (length ps)
    go true h = omega arith
    go false h = omega arith

two-length : (xs ys : List Pulse) → length (joined_two xs ys) ≡ length xs + length ys
unfolding joined_two
two-length [] ys = omega arith
two-length (x ∷ xs) [] = omega arith
two-length (x ∷ xs) (y ∷ ys) = go (lt y.time.0 x.time.0) (two-length (x ∷ xs) ys) (two-length xs (y ∷ ys))
  where
    go : (d : Bool) → length (joined_two (x ∷ xs) ys) ≡ suc (length xs) + length ys → length (joined_two xs (y ∷ ys)) ≡ length xs + suc (length ys) → length (cond d (y ∷ joined_two (x ∷ xs) ys) (x ∷ joined_two xs (y ∷ ys))) ≡ suc (length xs) + suc (length ys)
    go true e f = omega (arith, e)
    go false e f = omega (arith, f)

run_length : (all : List Pulse) (r : Run) → length (run_in all r) ≤ length all
run_length all r =
    let a = length-map (of_mark r.mark (take (r.end - r.at) (drop r.at all))) (scaled_p r.factor) in
    let b = of-mark-length r.mark (take (r.end - r.at) (drop r.at all)) in
    let c = length-take (r.end - r.at) (drop r.at all) in
    let d = length-drop r.at all in
    omega (arith, a, b, c, d)

pub joined_length : (all : List Pulse) (rs : List Run) → length all ≤ 8192 → length (joined (map (run_in all) rs)) ≤ length rs * 8192
unfolding joined
joined_length all [] h = omega arith
joined_length all (r ∷ rs) h =
    let a = two-length (run_in all r) (joined (map (run_in all) rs)) in
    let b = run_length all r in
    let c = joined_length all rs h in
    omega (arith, a, b, c, h)

pub few : (all : List Pulse) (r : Runs) → length all ≤ 8192 → r.count ≤ 8 → length (joined (runs_in all r)) ≤ 65536
few all r h k =
    let a = joined_length all (take r.count r.runs) h in
    let b = length-take r.count r.runs in
    omega (arith, a, b, k)

-- ---- the loop: kept is not yet added, what r has left is not yet looked at

abbrev pub todo : Settings → Bin → List Float → Float → List (List Float) → List ℕ → ℕ → Pulse → Runs → ℕ → Rowed → Out
todo s b numbers tolerance work marks rows kept r n st = ran_pulses s b numbers rows (kept_from (together tolerance) kept (left work marks r)) n st

module _ (s : Settings) (b : Bin) (numbers : List Float) (tolerance : Float) (work : List (List Float)) (marks : List ℕ) (rows : ℕ) where
  pub record Going (all : Out) (st₀ st : Rowed) (r : Runs) (kept : Pulse) (held : Option Float) (n : ℕ) : Type 0 where
    pub same-i : length st.i ≡ length st₀.i
    pub same-q : length st.q ≡ length st₀.q
    pub same-scratch : length st.scratch ≡ length st₀.scratch
    pub ready : Ready work marks r
    pub holds : Holds s b numbers held st.scratch
    pub few-added : n + length (left work marks r) ≤ 2 ^ 61
    pub whole : todo s b numbers tolerance work marks rows kept r n st ≡ all

-- one turn, from what holds before it
module _ {s : Settings} {b : Bin} {numbers : List Float} {tolerance : Float} {work : List (List Float)} {marks : List ℕ} {rows : ℕ} {all : Out} {st₀ st : Rowed} {r : Runs} {kept : Pulse} {held : Option Float} {n : ℕ} (g : Going s b numbers tolerance work marks rows all st₀ st r kept held n) where
  abbrev x : Picked → Pulse
  x p = pulse_of work marks r p

  abbrev verdict : Result Judged Refusal
  verdict = judged s b numbers kept (length st.i)

  pub less : (p : Picked) → picked_in work marks r ≡ Some p → (r' : Runs) → r' ≡ moved_on marks r p → length (left work marks r') < length (left work marks r)
  less p e r' is = rw is (let k = ap length (picked_next g.ready p e) in omega (arith, k))

  todo_next : (p : Picked) → picked_in work marks r ≡ Some p → (r' : Runs) → r' ≡ moved_on marks r p → ran_pulses s b numbers rows (kept_from (together tolerance) kept ((x p) ∷ left work marks r')) n st ≡ all
  todo_next p e r' is = rw is (ap (λ (ps : List Pulse). ran_pulses s b numbers rows (kept_from (together tolerance) kept ps) n st) (sym (picked_next g.ready p e)) ∙ g.whole)

  -- the next falls together with the kept one
  pub near-turn : (p : Picked) → picked_in work marks r ≡ Some p → (r' : Runs) → r' ≡ moved_on marks r p → Ready work marks r' → together tolerance kept (x p) ≡ true → Going s b numbers tolerance work marks rows all st₀ st r' (plus_p kept (x p)) held n
  near-turn p e r' is next near =
      record {
        same-i = g.same-i;
        same-q = g.same-q;
        same-scratch = g.same-scratch;
        ready = next;
        holds = g.holds;
        few-added = let k = less p e r' is in omega (arith, k, g.few-added);
        whole = ap (λ (ps : List Pulse). ran_pulses s b numbers rows ps n st) (sym (kept_near (together tolerance) kept (x p) (left work marks r') near)) ∙ todo_next p e r' is;
      }

  -- it does not: the kept one is added
  apart-is : (p : Picked) → picked_in work marks r ≡ Some p → (r' : Runs) → r' ≡ moved_on marks r p → together tolerance kept (x p) ≡ false → ran_pulses s b numbers rows (kept ∷ kept_from (together tolerance) (x p) (left work marks r')) n st ≡ all
  apart-is p e r' is apart = ap (λ (ps : List Pulse). ran_pulses s b numbers rows ps n st) (sym (kept-apart (together tolerance) kept (x p) (left work marks r') apart)) ∙ todo_next p e r' is

  last-is : picked_in work marks r ≡ None → ran_pulses s b numbers rows (kept ∷ []) n st ≡ all
  last-is e = ap (λ (ps : List Pulse). ran_pulses s b numbers rows ps n st) (sym (kept-last (together tolerance) kept) ∙ ap (kept_from (together tolerance) kept) (sym (picked_none g.ready e))) ∙ g.whole

  module _ {st' : Rowed} (after : st' ≡ added_to s b numbers rows verdict st) where
    pub i-same : length st'.i ≡ length st₀.i
    i-same = ap (λ (o : Rowed). length o.i) after ∙ i-length s b numbers rows st verdict ∙ g.same-i

    pub q-same : length st'.q ≡ length st₀.q
    q-same = ap (λ (o : Rowed). length o.q) after ∙ q-length s b numbers rows st verdict ∙ g.same-q

    pub scratch-same : length st₀.i ≤ length st₀.scratch → length st'.scratch ≡ length st₀.scratch
    scratch-same h = ap (λ (o : Rowed). length o.scratch) after ∙ scratch-length s b numbers rows st (omega (arith, h, g.same-i, g.same-scratch)) verdict ∙ g.same-scratch

    pub on-turn : length st₀.i ≤ length st₀.scratch → (p : Picked) → picked_in work marks r ≡ Some p → (r' : Runs) → r' ≡ moved_on marks r p → Ready work marks r' → together tolerance kept (x p) ≡ false
        → accepted verdict ≡ true → (h : Option Float) → Holds s b numbers h st'.scratch → Going s b numbers tolerance work marks rows all st₀ st' r' (x p) h (n + 1)
    on-turn short p e r' is next apart taken h holds =
        record {
          same-i = i-same;
          same-q = q-same;
          same-scratch = scratch-same short;
          ready = next;
          holds = holds;
          few-added = let k = less p e r' is in omega (arith, k, g.few-added);
          whole = ap (ran_pulses s b numbers rows (kept_from (together tolerance) (x p) (left work marks r')) (n + 1)) after ∙ sym (ran_on s b numbers rows kept (kept_from (together tolerance) (x p) (left work marks r')) n st taken) ∙ apart-is p e r' is apart;
        }

    stays : (why : Refusal) → verdict ≡ Err why → st' ≡ st
    stays why e = after ∙ ap (λ (d : Result Judged Refusal). added_to s b numbers rows d st) e

    pub refused-turn : (p : Picked) → picked_in work marks r ≡ Some p → together tolerance kept (x p) ≡ false → (why : Refusal) → verdict ≡ Err why → out (refuse why n) st' ≡ all
    refused-turn p e apart why not-ok = ap (out (refuse why n)) (stays why not-ok) ∙ sym (ran-refused s b numbers rows kept (kept_from (together tolerance) (x p) (left work marks (moved_on marks r p))) n st why not-ok) ∙ apart-is p e (moved_on marks r p) refl apart

    pub on-last : picked_in work marks r ≡ None → accepted verdict ≡ true → out (Ok (n + 1)) st' ≡ all
    on-last e taken = ap (out (Ok (n + 1))) after ∙ sym (ran-none s b numbers rows (n + 1) (added_to s b numbers rows verdict st)) ∙ sym (ran_on s b numbers rows kept [] n st taken) ∙ last-is e

    pub refused-last : picked_in work marks r ≡ None → (why : Refusal) → verdict ≡ Err why → out (refuse why n) st' ≡ all
    refused-last e why not-ok = ap (out (refuse why n)) (stays why not-ok) ∙ sym (ran-refused s b numbers rows kept [] n st why not-ok) ∙ last-is e
