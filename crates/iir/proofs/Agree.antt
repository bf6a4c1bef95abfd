-- With finite sections the pipeline and the cascade give rows that are equal but for the signs of zeros. The turns before the first sample
-- take only zeros through sections at rest, and leave states that are zeros too; from there a section keeps alike what is alike.
-- Assumes nothing.
use Prim.Native.Nat.{ℕ, zero, suc, ◌/◌}
use mathlib.Core.Path.{◌≡◌, refl, ◌∙◌}
use mathlib.Core.Bool.{Bool, true, false, ◌&&◌}
use mathlib.Core.List.{List, [], ◌∷◌}
use lib.Dec.{T}
use lib.ListN.{length}
use lib.Ieee.{Float, binary64, add, sub, mul, of_bits}
use lib.Ieee.Fits.{and_l, and_r}
use lib.Ieee.Scale.{finite}
use Rattle.exact.specs.Doubles.{nought}
use Rattle.iir.specs.declared.biquad.Biquad.{Biquad}
use Rattle.iir.specs.Section.{section_at, sections_from, sections_of, finite_section, finite_sections, ran}
use Rattle.iir.specs.Filter.{cascade, pipeline}
use Rattle.iir.specs.Flight.{through}
use Rattle.iir.specs.Alike.{Alike, same, AlikeRows, ended, next}
use Rattle.iir.proofs.Cascade.{passed, in_turn}
use Rattle.iir.proofs.Pipeline.{ran_all, warmed, pipeline-cascade}
use Rattle.iir.proofs.Zeros.{alike-via, add-alike, sub_alike, zero-times, mul-alike}

-- ---- two sections with the same finite numbers, and states that are alike

record Coefficient (x y : Float) : Type 0 where
  equal : x ≡ y
  fine : T (finite x)

record Kin (b c : Biquad) : Type 0 where
  b0 : Coefficient b.b0 c.b0
  b1 : Coefficient b.b1 c.b1
  b2 : Coefficient b.b2 c.b2
  a1 : Coefficient b.a1 c.a1
  a2 : Coefficient b.a2 c.a2
  s1 : Alike b.s1 c.s1
  s2 : Alike b.s2 c.s2
  y : Alike b.y c.y

times : {c d x y : Float} → Coefficient c d → Alike x y → Alike (mul binary64 c x) (mul binary64 d y)
times {c} h k = rw (← h.equal) (mul-alike c h.fine k)

ran-kin : {b c : Biquad} {x x' : Float} → Kin b c → Alike x x' → Kin (ran b x) (ran c x')
unfolding ran
ran-kin h k =
    let y = add-alike (times h.b0 k) h.s1 in
    record {
      b0 = h.b0;
      b1 = h.b1;
      b2 = h.b2;
      a1 = h.a1;
      a2 = h.a2;
      s1 = add-alike (sub_alike (times h.b1 k) (times h.a1 y)) h.s2;
      s2 = sub_alike (times h.b2 k) (times h.a2 y);
      y = y;
    }

via : {x y z : Float} → Coefficient x y → Coefficient y z → Coefficient x z
via h k = record { equal = h.equal ∙ k.equal; fine = h.fine }

kin-via : {b c d : Biquad} → Kin b c → Kin c d → Kin b d
kin-via h k =
    record {
      b0 = via h.b0 k.b0;
      b1 = via h.b1 k.b1;
      b2 = via h.b2 k.b2;
      a1 = via h.a1 k.a1;
      a2 = via h.a2 k.a2;
      s1 = alike-via h.s1 k.s1;
      s2 = alike-via h.s2 k.s2;
      y = alike-via h.y k.y;
    }

data AllKin : List Biquad → List Biquad → Type 0 where
  no_more : AllKin [] []
  one_more : {b c : Biquad} {bs cs : List Biquad} → Kin b c → AllKin bs cs → AllKin (b ∷ bs) (c ∷ cs)

through-kin : {b c : Biquad} {xs ys : List Float} → Kin b c → AlikeRows xs ys → AlikeRows (through b xs) (through c ys)
unfolding through
through-kin h ended = ended
through-kin {b = b} {c = c} h (next {x = x} {y = y} {xs = xs} {ys = ys} k ks) = let g = ran-kin h k in next g.y (through-kin {b = ran b x} {c = ran c y} g ks)

passed-kin : {bs cs : List Biquad} {xs ys : List Float} → AllKin bs cs → AlikeRows xs ys → AlikeRows (passed bs xs) (passed cs ys)
passed-kin no_more k = k
passed-kin (one_more h hs) k = passed-kin hs (through-kin h k)

-- ---- zeros through a section at rest

-- a row of zeros
data Quiet : List Float → Type 0 where
  all_quiet : Quiet []
  quiet-first : {x : Float} {xs : List Float} → Alike x nought → Quiet xs → Quiet (x ∷ xs)

quiet-mul : (c : Float) {x : Float} → T (finite c) → Alike x nought → Alike (mul binary64 c x) nought
unfolding of_bits
quiet-mul c h k = alike-via (mul-alike c h k) (zero-times c h false false)

quiet-add : {x y : Float} → Alike x nought → Alike y nought → Alike (add binary64 x y) nought
unfolding of_bits add
quiet-add h k = alike-via (add-alike h k) same

quiet-sub : {x y : Float} → Alike x nought → Alike y nought → Alike (sub binary64 x y) nought
unfolding of_bits sub
quiet-sub h k = alike-via (sub_alike h k) same

each : (p q r s t : Bool) → T (p && q && r && s && t) → T p × T q × T r × T s × T t
each true true true true true h = (tt, tt, tt, tt, tt)
each true true true true false h = absurd h
each true true true false t h = absurd h
each true true false s t h = absurd h
each true false r s t h = absurd h
each false q r s t h = absurd h

-- a section at rest takes zeros
module _ (l : List Float) (k : ℕ) (h : T (finite_section (section_at l k))) where
  abbrev b : Biquad
  b = section_at l k

  rest-kin : Kin b b
  rest-kin =
      let fine = each (finite b.b0) (finite b.b1) (finite b.b2) (finite b.a1) (finite b.a2) h in
      record {
        b0 = record { equal = refl; fine = fine.0 };
        b1 = record { equal = refl; fine = fine.1 };
        b2 = record { equal = refl; fine = fine.2 };
        a1 = record { equal = refl; fine = fine.3 };
        a2 = record { equal = refl; fine = fine.4 };
        s1 = same;
        s2 = same;
        y = same;
      }

  rest-runs : Kin (ran b nought) b
  unfolding ran
  rest-runs =
      let y = quiet-add (quiet-mul b.b0 rest-kin.b0.fine same) same in
      record {
        b0 = rest-kin.b0;
        b1 = rest-kin.b1;
        b2 = rest-kin.b2;
        a1 = rest-kin.a1;
        a2 = rest-kin.a2;
        s1 = quiet-add (quiet-sub (quiet-mul b.b1 rest-kin.b1.fine same) (quiet-mul b.a1 rest-kin.a1.fine y)) same;
        s2 = quiet-sub (quiet-mul b.b2 rest-kin.b2.fine same) (quiet-mul b.a2 rest-kin.a2.fine y);
        y = y;
      }

  -- any number of zeros, from a state that is alike
  rest-after : (c : Biquad) (xs : List Float) → Kin c b → Quiet xs → Kin (ran_all c xs) b × Quiet (through c xs)
  unfolding through
  rest-after c [] g q = (g, all_quiet)
  rest-after c (x ∷ xs) g (quiet-first z q) =
      let g' = kin-via (ran-kin g z) rest-runs in
      let rest = rest-after (ran c x) xs g' q in
      (rest.0, quiet-first g'.y rest.1)

-- ---- the pipeline's start

warmed_kin : (l : List Float) (n k : ℕ) (xs : List Float) → T (finite_sections (sections_from l n k)) → Quiet xs → AllKin (warmed xs (sections_from l n k)) (sections_from l n k)
unfolding sections_from finite_sections
warmed_kin l zero k xs h q = no_more
warmed_kin l (suc n) k xs h q =
    let b = section_at l k in
    let fine = and_l (finite_section b) (finite_sections (sections_from l n (suc k))) h in
    let others = and_r (finite_section b) (finite_sections (sections_from l n (suc k))) h in
    let g = rest-after l k fine b xs (rest-kin l k fine) q in
    one_more g.0 (warmed_kin l n (suc k) (nought ∷ through b xs) others (quiet-first same g.1))

pub same_rows : (xs : List Float) → AlikeRows xs xs
same_rows [] = ended
same_rows (x ∷ xs) = next same (same_rows xs)

-- document 01: "with finite sections both are proved equal but for zero signs and NaN payloads"
pub pipeline-alike : (l xs : List Float) → T (finite_sections (sections_of l)) → AlikeRows (pipeline (sections_of l) xs) (cascade (sections_of l) xs)
pipeline-alike l xs h =
    let bs = sections_of l in
    rw (pipeline-cascade bs xs, in_turn (warmed [] bs) xs, in_turn bs xs)
    (passed-kin (warmed_kin l (length l / 6) 0 [] h all_quiet) (same_rows xs))
