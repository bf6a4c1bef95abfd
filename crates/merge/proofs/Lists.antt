-- The loop of `sum_lists`: what is left after k lists is laid over the rows from `at` on, and over the ends from k on, so that a turn is one
-- list of it. Assumes nothing.
use Prim.Native.Nat.{ℕ, zero, suc, ◌+◌, ◌-◌, ◌*◌, ◌<◌, ◌≤◌, zero-le}
use native.Mathlib.Numerals.{add-one, add-one-le}
use native.Mathlib.Omega.{arith}
use mathlib.Core.Path.{◌≡◌, refl, sym, ap, ◌∙◌}
use Prim.{⊥}
use mathlib.Core.Bool.{Bool, true, false, cond, ◌&&◌, true≢false}
use mathlib.Core.List.{List, [], ◌∷◌, ◌++◌, map}
use borrow.Author.Tests.{eqb-true, ltb-true, ltb-false}
use lib.Dec.{ltb, eqb}
use lib.Ieee.{Float}
use lib.ListN.{length, get_or, set, take, drop, replicate, length-set, length-map, drop_of_length-le, get_or-map}
use lib.Seq.{drop-cons, take_all, length-take-le, get_or-take}
use Rattle.pulse.specs.declared.list.Pulse.{Pulse}
use Rattle.tables.specs.declared.Tables.{Tables}
use Rattle.merge.specs.declared.taking.Taking.{Taking}
use Rattle.merge.specs.declared.work.Ends.{Ends}
use Rattle.merge.specs.Sum.{together_in_bin, summed}
use Rattle.merge.specs.Taking.{Part, records_of, list_of, zipped, parts_in}
use Rattle.merge.specs.Work.{row_of_pulse, mark_of, over, Laid, laid, laid_on, lists_of, in_one, ends_from, no_ends, sizes_fit, Gathered, gathered, gathered_of}
use Rattle.merge.specs.Keep.{lists_in, span_of, with_end}
use Rattle.merge.proofs.Kept.{summed-length}
use Rattle.merge.proofs.Over.{Rows, over-nil, over-cons, over-append}
use Rattle.merge.proofs.Spans.{spans}

-- ---- the lists that take part are those of the first places

zipped-places : {A : Type 0} (g : ℕ → A) (is : List ℕ) (fs : List Float) → length is ≤ length fs → map (λ (p : Part). g p.place) (zipped is fs) ≡ map g is
unfolding zipped
zipped-places g [] fs h = refl
zipped-places g (i ∷ is) [] h = let never : ⊥ = omega arith in absurd never
zipped-places g (i ∷ is) (f ∷ fs) h = ap (λ (l : List _). g i ∷ l) (zipped-places g is fs (omega arith))

length_taken : {A : Type 0} (n : ℕ) (l : List A) → length l ≡ 8 → length (take n l) ≡ cond (ltb n 8) n 8
length_taken n l e = either (ltb n 8) refl where
  either : (b : Bool) → ltb n 8 ≡ b → length (take n l) ≡ cond b n 8
  either true h = let less : n < 8 = ltb-true n 8 h in length-take-le n l (omega arith)
  either false h = let least : 8 ≤ n = ltb-false n 8 h in rw (take_all n l (omega arith)) e

-- ---- rows, marks and ends in two runs

rows_append : (xs ys : List Pulse) → map row_of_pulse (xs ++ ys) ≡ map row_of_pulse xs ++ map row_of_pulse ys
rows_append [] ys = refl
rows_append (x ∷ xs) ys = ap (λ (l : Rows). row_of_pulse x ∷ l) (rows_append xs ys)

marks-append : (xs ys : List Pulse) → map mark_of (xs ++ ys) ≡ map mark_of xs ++ map mark_of ys
marks-append [] ys = refl
marks-append (x ∷ xs) ys = ap (λ (l : List ℕ). mark_of x ∷ l) (marks-append xs ys)

length-ends : (at : ℕ) (ls : List (List Pulse)) → length (ends_from at ls) ≡ length ls
unfolding ends_from
length-ends at [] = refl
length-ends at (l ∷ ls) = ap suc (length-ends (at + length l) ls)

drop-replicate : (n m x : ℕ) → drop n (replicate m x) ≡ replicate (m - n) x
drop-replicate zero m x = let e : m - 0 ≡ m = omega arith in rw e
drop-replicate (suc n) zero x = let e : 0 - suc n ≡ 0 = omega arith in rw e
drop-replicate (suc n) (suc m) x = let e : suc m - suc n ≡ m - n = omega arith in rw e (drop-replicate n m x)

-- ---- what is left from list k on

module _ (ls : List (List Pulse)) (k at : ℕ) (rows : Rows) (marks ends : List ℕ) where
  abbrev pub still : Gathered
  still = gathered (over at (map row_of_pulse (in_one (drop k ls))) rows) (over at (map mark_of (in_one (drop k ls))) marks) (record { ends = over k (ends_from at (drop k ls)) ends })

  pub ended : length ls ≤ k → gathered rows marks (record { ends = ends }) ≡ still
  unfolding in_one ends_from
  ended h = rw (drop_of_length-le ls h, over-nil at rows, over-nil at marks, over-nil k ends)

  module _ (l : List Pulse) (rest : drop k ls ≡ l ∷ drop (k + 1) ls) (r : ℕ) (zs : Rows) (us : List ℕ) (lays : laid zs us r ≡ laid_on l at rows marks)
      (fits-w : at + length l ≤ length rows) (fits-m : at + length l ≤ length marks) (fits-e : k < length ends) where
    is-r : r ≡ at + length l
    is-r = ap (λ (w : Laid). w.at) lays

    is-zs : zs ≡ over at (map row_of_pulse l) rows
    is-zs = ap (λ (w : Laid). w.rows) lays

    is_us : us ≡ over at (map mark_of l) marks
    is_us = ap (λ (w : Laid). w.marks) lays

    long-w : at + length (map row_of_pulse l) ≡ at + length l
    long-w = rw (length-map l row_of_pulse)

    long-m : at + length (map mark_of l) ≡ at + length l
    long-m = rw (length-map l mark_of)

    rows_on : over at (map row_of_pulse (l ++ in_one (drop (k + 1) ls))) rows ≡ over (at + length l) (map row_of_pulse (in_one (drop (k + 1) ls))) (over at (map row_of_pulse l) rows)
    rows_on = rw (rows_append l (in_one (drop (k + 1) ls)), over-append at (map row_of_pulse l) (map row_of_pulse (in_one (drop (k + 1) ls))) rows (rw long-w fits-w), long-w)

    marks-on : over at (map mark_of (l ++ in_one (drop (k + 1) ls))) marks ≡ over (at + length l) (map mark_of (in_one (drop (k + 1) ls))) (over at (map mark_of l) marks)
    marks-on = rw (marks-append l (in_one (drop (k + 1) ls)), over-append at (map mark_of l) (map mark_of (in_one (drop (k + 1) ls))) marks (rw long-m fits-m), long-m)

    pub turned : gathered (over r (map row_of_pulse (in_one (drop (k + 1) ls))) zs) (over r (map mark_of (in_one (drop (k + 1) ls))) us)
        (record { ends = over (k + 1) (ends_from r (drop (k + 1) ls)) (set ends k r) }) ≡ still
    unfolding in_one ends_from
    turned = rw (rest, rows_on, marks-on, over-cons k (at + length l) (ends_from (at + length l) (drop (k + 1) ls)) ends fits-e, is-r, is-zs, is_us)

-- at the start nothing is noted
pub from-none : (ls : List (List Pulse)) → over 0 (ends_from 0 ls) (replicate 8 0) ≡ ends_from 0 ls ++ replicate (8 - length ls) 0
unfolding over
from-none ls = let e : 0 + length ls ≡ length ls = omega arith in rw (length-ends 0 ls, e, drop-replicate (length ls) 8 0)

pub record Sizes (i j k : ℕ) : Type 0 where
  pub pulses : i ≡ 8192
  pub rows : j ≡ 8192
  pub marks : k ≡ 8192

pub sizes : (i j k : ℕ) → sizes_fit i j k ≡ true → Sizes i j k
sizes i j k e = go (eqb i 8192) (eqb j 8192) (eqb k 8192) refl refl refl e where
  go : (a b c : Bool) → eqb i 8192 ≡ a → eqb j 8192 ≡ b → eqb k 8192 ≡ c → (a && b && c) ≡ true → Sizes i j k
  go true true true x y z h = record { pulses = eqb-true i 8192 x; rows = eqb-true j 8192 y; marks = eqb-true k 8192 z }
  go true true false x y z h = absurd (true≢false (sym h))
  go true false c x y z h = absurd (true≢false (sym h))
  go false b c x y z h = absurd (true≢false (sym h))

-- ---- where the loop stands

module _ (t : Tables) (taking : Taking) (ps : List Pulse) where
  abbrev pub lists : List (List Pulse)
  lists = lists_of t ps (parts_in taking)

  -- the place of list k's channel
  abbrev pub place_at : ℕ → ℕ
  place_at k = get_or taking.places k 0

  module _ (lp : length taking.places ≡ 8) (lf : length taking.factors ≡ 8) where
    lists-are : lists ≡ map (list_of t ps) (take taking.count taking.places)
    lists-are = zipped-places (list_of t ps) (take taking.count taking.places) (take taking.count taking.factors)
        (omega (arith, length_taken taking.count taking.places lp, length_taken taking.count taking.factors lf))

    pub lists-long : length lists ≡ lists_in taking
    lists-long = rw lists-are (length-map (take taking.count taking.places) (list_of t ps) ∙ length_taken taking.count taking.places lp)

    pub list_at : (k : ℕ) → k < lists_in taking → drop k lists ≡ list_of t ps (place_at k) ∷ drop (k + 1) lists
    list_at k h =
        let some : k < length lists = rw lists-long h in
        let less : k < taking.count = within k h in
        rw (drop-cons lists k (list_of t ps 0) some, add-one k, lists-are, get_or-map (list_of t ps) (take taking.count taking.places) k 0, get_or-take taking.count taking.places k 0 less)
      where
        within : (k : ℕ) → k < cond (ltb taking.count 8) taking.count 8 → k < taking.count
        within k h = either (ltb taking.count 8) refl h where
          either : (b : Bool) → ltb taking.count 8 ≡ b → k < cond b taking.count 8 → k < taking.count
          either true e x = x
          either false e x = let least : 8 ≤ taking.count = ltb-false taking.count 8 e in omega arith

pub at-most_8 : (t : Taking) → lists_in t ≤ 8
at-most_8 t = either (ltb t.count 8) refl where
  either : (b : Bool) → ltb t.count 8 ≡ b → cond b t.count 8 ≤ 8
  either true e = let less : t.count < 8 = ltb-true t.count 8 e in omega arith
  either false e = omega arith

pub record Upto (t : Tables) (taking : Taking) (ps : List Pulse) (rows : Rows) (marks : List ℕ) : Type 0 where
  pub k : ℕ
  pub at : ℕ
  pub ys : Rows
  pub ms : List ℕ
  pub es : Ends
  pub within : k ≤ lists_in taking
  pub near : at ≤ 1024 * k
  pub long-w : length ys ≡ length rows
  pub long-m : length ms ≡ length marks
  pub long-e : length es.ends ≡ 8
  pub left : still (lists t taking ps) k at ys ms es.ends ≡ gathered_of t (parts_in taking) ps rows marks

unfoldable pub begun : (t : Tables) (taking : Taking) (ps : List Pulse) (rows : Rows) (marks : List ℕ) (es : Ends) → es ≡ no_ends → sizes_fit (length ps) (length rows)
    (length marks) ≡ true → Upto t taking ps rows marks
begun t taking ps rows marks es e fit =
    record {
      k = 0;
      at = 0;
      ys = rows;
      ms = marks;
      es = es;
      within = zero-le;
      near = omega arith;
      long-w = refl;
      long-m = refl;
      long-e = rw e refl;
      left = rw (e, fit, from-none (lists t taking ps));
    }

module _ (t : Tables) (taking : Taking) (ps : List Pulse) (rows : Rows) (marks : List ℕ) (lp : length taking.places ≡ 8) (lf : length taking.factors ≡ 8)
    (long : Sizes (length ps) (length rows) (length marks)) (u : Upto t taking ps rows marks) where
  abbrev pub place : ℕ
  place = place_at t taking ps u.k

  pub over-all : lists_in taking ≤ u.k → gathered u.ys u.ms u.es ≡ gathered_of t (parts_in taking) ps rows marks
  over-all h = ended (lists t taking ps) u.k u.at u.ys u.ms u.es.ends (rw (lists-long t taking ps lp lf) h) ∙ u.left

  module _ (less : u.k < lists_in taking) where
    pub eighth : u.k < 8
    eighth = omega (arith, at-most_8 taking)

    -- what `sum_list` asks
    pub record Asked : Type 0 where
      pub in_pulses : (span_of t place).from + (span_of t place).count ≤ length ps
      pub in_rows : u.at + (span_of t place).count ≤ length u.ys
      pub in_marks : u.at + (span_of t place).count ≤ length u.ms

    pub asked : Asked
    asked =
        let s = spans t ps long.pulses place in
        record {
          in_pulses = omega (arith, s.within, long.pulses);
          in_rows = omega (arith, s.most, u.near, u.long-w, long.rows, eighth);
          in_marks = omega (arith, s.most, u.near, u.long-m, long.marks, eighth);
        }

    unfoldable pub next : (r : ℕ) (zs : Rows) (us : List ℕ) (es : Ends) → laid zs us r ≡ laid_on (summed t.time.0 (take (span_of t place).count (drop (span_of t place).from ps))) u.at u.ys
        u.ms → length zs ≡ length u.ys → length us ≡ length u.ms
        → es ≡ with_end u.es u.k r → Upto t taking ps rows marks
    next r zs us es lays lz lu ee =
        let s = spans t ps long.pulses place in
        let lays-l : laid zs us r ≡ laid_on (list_of t ps place) u.at u.ys u.ms = rw s.same at lays in
        let short : length (list_of t ps place) ≤ length (records_of t ps place) = summed-length (together_in_bin t.time.0) (records_of t ps place) in
        let few : length (list_of t ps place) ≤ 1024 = omega (arith, s.fits, s.most) in
        let is-r : r ≡ u.at + length (list_of t ps place) = ap (λ (w : Laid). w.at) lays-l in
        let fits-w : u.at + length (list_of t ps place) ≤ length u.ys = omega (arith, u.near, u.long-w, long.rows, eighth) in
        let fits-m : u.at + length (list_of t ps place) ≤ length u.ms = omega (arith, u.near, u.long-m, long.marks, eighth) in
        record {
          k = u.k + 1;
          at = r;
          ys = zs;
          ms = us;
          es = es;
          within = add-one-le less;
          near = omega (arith, u.near);
          long-w = lz ∙ u.long-w;
          long-m = lu ∙ u.long-m;
          long-e = rw ee (length-set u.es.ends u.k r ∙ u.long-e);
          left = rw ee (turned (lists t taking ps) u.k u.at u.ys u.ms u.es.ends (list_of t ps place) (list_at t taking ps lp lf u.k less) r zs us lays-l fits-w fits-m
              (omega (arith, u.long-e, eighth)) ∙ u.left);
        }
