-- The ends of the lists, one by one. Assumes nothing.
use Prim.Native.Nat.{ℕ, zero, suc, ◌+◌, ◌<◌, ◌≤◌}
use native.Mathlib.Omega.{arith}
use native.Mathlib.Numerals.{add-one}
use mathlib.Core.Path.{◌≡◌, refl}
use mathlib.Core.Bool.{true, false, ◌&&◌}
use mathlib.Core.List.{List, [], ◌∷◌}
use lib.Dec.{leb, eqb}
use lib.ListN.{length, drop, get_or, drop_of_length-le}
use lib.Seq.{drop-cons}
use borrow.Author.Tests.{leb-true, le-leb, lt-leb, eqb-true, eq-eqb}
use Rattle.exact.proofs.Truth.{both}
use Rattle.rows.specs.Rows.{rows_fit}
use Rattle.merge.specs.declared.taking.Taking.{Taking}
use Rattle.merge.specs.declared.work.Ends.{Ends}
use Rattle.mixdown.specs.Starts.{Ended}
use Rattle.mixdown.specs.Sampled.{ends_fit, mix_fits}

module _ (es : List ℕ) (k : ℕ) where
  pub end-over : k < length es → 8192 < get_or es k 0 → ends_fit (drop k es) ≡ false
  unfolding ends_fit
  end-over h g = rw (drop-cons es k 0 h, lt-leb (get_or es k 0) 8192 g) refl

  pub end-within : k < length es → get_or es k 0 ≤ 8192 → ends_fit (drop (k + 1) es) ≡ ends_fit (drop k es)
  unfolding ends_fit
  end-within h g = rw (add-one k, drop-cons es k 0 h, le-leb (get_or es k 0) 8192 g) refl

  pub ends-passed : length es ≤ k → ends_fit (drop k es) ≡ true
  unfolding ends_fit
  ends-passed h = rw (drop_of_length-le es h) refl

each_within : (es : List ℕ) → ends_fit es ≡ true → (k : ℕ) → get_or es k 0 ≤ 8192
unfolding ends_fit
each_within [] e k = omega arith
each_within (x ∷ es) e zero = leb-true x 8192 (both (leb x 8192) (ends_fit es) e).0
each_within (x ∷ es) e (suc k) = each_within es (both (leb x 8192) (ends_fit es) e).1 k

pub ended : (es : List ℕ) → ends_fit es ≡ true → Ended es
ended es e = record { each = each_within es e }

fits-within : (es : List ℕ) → ((k : ℕ) → get_or es k 0 ≤ 8192) → ends_fit es ≡ true
unfolding ends_fit
fits-within [] h = refl
fits-within (x ∷ es) h = rw (le-leb x 8192 (h 0), fits-within es (λ k. h (suc k))) refl

pub ended-fits : (es : List ℕ) → Ended es → ends_fit es ≡ true
ended-fits es e = fits-within es e.each

-- ---- what fitting sizes are, one by one

pub record Fits (taking : Taking) (ends : Ends) (bins work marks rows i q scratch : ℕ) : Type 0 where
  pub its-bins : bins ≡ 512
  pub its-work : work ≡ 8192
  pub its-marks : marks ≡ 8192
  pub few-lists : taking.count ≤ 8
  pub its-ends : Ended ends.ends
  pub its-rows : rows_fit rows i q ≡ true
  pub long : i ≤ scratch

pub fits : (taking : Taking) (ends : Ends) (bins work marks rows i q scratch : ℕ) → mix_fits taking ends bins work marks rows i q scratch ≡ true → Fits taking ends bins work marks rows i q scratch
fits taking ends bins work marks rows i q scratch e =
    let a = both (eqb bins 512 && eqb work 8192 && eqb marks 8192 && (leb taking.count 8 && ends_fit ends.ends)) (rows_fit rows i q && leb i scratch) e in
    let b = both (eqb bins 512 && eqb work 8192 && eqb marks 8192) (leb taking.count 8 && ends_fit ends.ends) a.0 in
    let c = both (eqb bins 512 && eqb work 8192) (eqb marks 8192) b.0 in
    let d = both (eqb bins 512) (eqb work 8192) c.0 in
    let l = both (leb taking.count 8) (ends_fit ends.ends) b.1 in
    let r = both (rows_fit rows i q) (leb i scratch) a.1 in
    record {
      its-bins = eqb-true bins 512 d.0;
      its-work = eqb-true work 8192 d.1;
      its-marks = eqb-true marks 8192 c.1;
      few-lists = leb-true taking.count 8 l.0;
      its-ends = ended ends.ends l.1;
      its-rows = r.0;
      long = leb-true i scratch r.1;
    }

pub fit : (taking : Taking) (ends : Ends) (bins work marks rows i q scratch : ℕ) → Fits taking ends bins work marks rows i q scratch → mix_fits taking ends bins work marks rows i q scratch ≡ true
fit taking ends bins work marks rows i q scratch f =
    rw (eq-eqb bins 512 f.its-bins, eq-eqb work 8192 f.its-work, eq-eqb marks 8192 f.its-marks, le-leb taking.count 8 f.few-lists, ended-fits ends.ends f.its-ends, f.its-rows, le-leb i scratch f.long) refl
