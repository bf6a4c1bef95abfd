-- What the call's definition says: how many points there are, what stays of the scratch, and that a refused call leaves it as it came. Assumes nothing.
use Rattle.std.specs.Prelude.{Result, Ok, Err}
use Rattle.std.proofs.Common.{◌≡◌, ℕ, zero, suc, ◌+◌, ◌-◌, ◌<◌, ◌≤◌, Bool, true, false, cond, ltb, ◌⊎◌, List, ◌++◌, length, get_or, take, drop, replicate, refl, ap, ◌∙◌, inl, inr, le_of_suc-le-suc, not-suc-le-zero, arith, length-append, length-drop, take_at, drop_at}
use lib.ListN.{length-replicate}
use lib.Ieee.{Float, nan, lt, eq}
use Rattle.exact.specs.Doubles.{nought, one}
use Rattle.quant.specs.declared.refusal.Refusal.{Refusal}
use Rattle.quant.specs.declared.refusal.Refusal.TheVariants.{ShapeTooShort, EndPastRow, NotFinite}
use Rattle.pulse.specs.declared.envelope.Shape.{Shape}
use Rattle.shape.specs.declared.parts.Parts.{Parts}
use Rattle.points.specs.Points.{point_at}
use Rattle.shape.specs.Segment.{envelope_at, values}
use Rattle.shape.specs.Parts.{index_at, t1, t3, unbroken, broken, in_order, parted_of}
use Rattle.shape.specs.Envelope.{shape_of, fine_points, filled_of, enveloped_of, scratch_after, Fitting}
use Rattle.shape.proofs.Filling.{values_length, within-fits}

module _ (shape : Shape) (numbers : List Float) where
  -- the value at point k of a segment
  pub values-at : (n i : ℕ) (x dx : Float) (k : ℕ) → k < n → get_or (values shape numbers n i x dx) k nan ≡ envelope_at shape numbers (point_at x dx (i + k))
  unfolding values
  values-at zero i x dx k h = absurd (not-suc-le-zero h)
  values-at (suc n) i x dx zero h = ap (λ (j : ℕ). envelope_at shape numbers (point_at x dx j)) (omega arith)
  values-at (suc n) i x dx (suc k) h = values-at n (suc i) x dx k (le_of_suc-le-suc h) ∙ ap (λ (j : ℕ). envelope_at shape numbers (point_at x dx j)) (omega arith)

  -- parts in order have as many points as they say
  pub shape-length : (p : Parts) (n : ℕ) → Fitting p n → length (shape_of shape numbers p) ≡ p.length
  unfolding shape_of
  shape-length p n fit =
      let head = values_length shape numbers p.start 0 p.x0 p.dx in
      let tail = values_length shape numbers (p.length - p.end) 0 p.x2 p.dx in
      let ones = length-replicate (p.end - p.start) one in
      rw (length-append (values shape numbers p.start 0 p.x0 p.dx) (replicate (p.end - p.start) one ++ values shape numbers (p.length - p.end) 0 p.x2 p.dx), length-append (replicate (p.end - p.start) one) (values shape numbers (p.length - p.end) 0 p.x2 p.dx), head, ones, tail)
      (omega (arith, fit.head, fit.tail))

  -- the scratch begins with the envelope, and has as many samples as before
  pub points-stand : (p : Parts) (old : List Float) → Fitting p (length old) → take p.length (shape_of shape numbers p ++ drop p.length old) ≡ shape_of shape numbers p
  points-stand p old fit = take_at (shape_of shape numbers p) (drop p.length old) p.length (shape-length p (length old) fit)

  pub scratch-length : (p : Parts) (old : List Float) → Fitting p (length old) → length (shape_of shape numbers p ++ drop p.length old) ≡ length old
  scratch-length p old fit =
      length-append (shape_of shape numbers p) (drop p.length old)
      ∙ (rw (shape-length p (length old) fit, length-drop p.length old) (omega (arith, fit.room)))

  -- past the envelope the scratch stays
  pub rest-stays : (p : Parts) (old : List Float) → Fitting p (length old) → drop p.length (shape_of shape numbers p ++ drop p.length old) ≡ drop p.length old
  rest-stays p old fit = drop_at (shape_of shape numbers p) (drop p.length old) p.length (shape-length p (length old) fit)

  -- a refused call leaves it as it came
  pub refused-stays : (q : Result Parts Refusal) (old : List Float) (r : Refusal) → enveloped_of shape numbers q ≡ Err r → scratch_after shape numbers q old ≡ old
  refused-stays (Ok p) old r e = by (fine_points shape numbers p) e
    where
      by : (b : Bool) → cond b (Ok p.length) (Err NotFinite) ≡ Err r → cond b (shape_of shape numbers p ++ drop p.length old) old ≡ old
      by true e = let z : ◌≡◌ {A = ℕ} 0 1 = cc in absurd (omega arith)
      by false e = refl
  refused-stays (Err s) old r e = refl

  -- accepted, the envelope has no more points than there is room for
  pub points-fit : (w p o rate dt : Float) (room n : ℕ) → enveloped_of shape numbers (parted_of w p o rate dt room) ≡ Ok n → n ≤ room
  points-fit w p o rate dt room n e = by (parted_of w p o rate dt room) refl e
    where
      within : (q : Parts) (b : Bool) → Fitting q room → cond b (Ok q.length) (Err NotFinite) ≡ Ok n → n ≤ room
      within q true fit e = let z : q.length ≡ n = cc in omega (arith, z, fit.room)
      within q false fit e = let z : ◌≡◌ {A = ℕ} 0 1 = cc in absurd (omega arith)

      by : (q : Result Parts Refusal) → parted_of w p o rate dt room ≡ q → enveloped_of shape numbers q ≡ Ok n → n ≤ room
      by (Ok q) f e = within q (fine_points shape numbers q) (within-fits room q w p o rate dt f) e
      by (Err r) f e = let z : ◌≡◌ {A = ℕ} 0 1 = cc in absurd (omega arith)

  -- ---- 11 is given exactly where t1 < 0 (that it is given there is `too_short` of proofs/Laying.antt)
  not_eleven : (p : Parts) → filled_of shape numbers p ≡ Err ShapeTooShort → ⊥
  not_eleven p e = by (fine_points shape numbers p) e
    where
      by : (b : Bool) → cond b (Ok p.length) (Err NotFinite) ≡ Err ShapeTooShort → ⊥
      by true e = let z : ◌≡◌ {A = ℕ} 0 1 = cc in omega arith
      by false e = let z : ◌≡◌ {A = ℕ} 0 1 = cc in omega arith

  pub eleven : (w p o rate dt : Float) (room : ℕ) → enveloped_of shape numbers (parted_of w p o rate dt room) ≡ Err ShapeTooShort → lt (t1 w p o rate dt) nought ≡ true
  unfolding parted_of
  eleven w p o rate dt room e =
      let n = index_at (t3 w p o rate dt) rate in
      let v = broken w p o rate dt n in
      by (unbroken w p o rate dt n) v (lt (t1 w p o rate dt) nought) (ltb room n) (eq p nought) (in_order v.start v.end n) e
    where
      by : (u v : Parts) (a b c d : Bool)
          → enveloped_of shape numbers (cond a (Err ShapeTooShort) (cond b (Err EndPastRow) (cond c (Ok u) (cond d (Ok v) (Err EndPastRow))))) ≡ Err ShapeTooShort
          → a ≡ true
      by u v true b c d e = refl
      by u v false true c d e = let z : ◌≡◌ {A = ℕ} 0 1 = cc in absurd (omega arith)
      by u v false false true d e = absurd (not_eleven u e)
      by u v false false false true e = absurd (not_eleven v e)
      by u v false false false false e = let z : ◌≡◌ {A = ℕ} 0 1 = cc in absurd (omega arith)

  -- ---- no other number than 11, 12 and 8 is given
  filled-refused : (p : Parts) (r : Refusal) → filled_of shape numbers p ≡ Err r → (r ≡ ShapeTooShort) ⊎ ((r ≡ EndPastRow) ⊎ (r ≡ NotFinite))
  filled-refused p r e = by (fine_points shape numbers p) e
    where
      by : (b : Bool) → cond b (Ok p.length) (Err NotFinite) ≡ Err r → (r ≡ ShapeTooShort) ⊎ ((r ≡ EndPastRow) ⊎ (r ≡ NotFinite))
      by true e = let z : ◌≡◌ {A = ℕ} 0 1 = cc in absurd (omega arith)
      by false e = inr (inr (cc))

  pub refused-by : (w p o rate dt : Float) (room : ℕ) (r : Refusal) → enveloped_of shape numbers (parted_of w p o rate dt room) ≡ Err r → (r ≡ ShapeTooShort) ⊎ ((r ≡ EndPastRow) ⊎ (r ≡ NotFinite))
  unfolding parted_of
  refused-by w p o rate dt room r e =
      let n = index_at (t3 w p o rate dt) rate in
      let v = broken w p o rate dt n in
      by (unbroken w p o rate dt n) v (lt (t1 w p o rate dt) nought) (ltb room n) (eq p nought) (in_order v.start v.end n) e
    where
      by : (u v : Parts) (a b c d : Bool)
          → enveloped_of shape numbers (cond a (Err ShapeTooShort) (cond b (Err EndPastRow) (cond c (Ok u) (cond d (Ok v) (Err EndPastRow))))) ≡ Err r
          → (r ≡ ShapeTooShort) ⊎ ((r ≡ EndPastRow) ⊎ (r ≡ NotFinite))
      by u v true b c d e = inl (cc)
      by u v false true c d e = inr (inl (cc))
      by u v false false true d e = filled-refused u r e
      by u v false false false true e = filled-refused v r e
      by u v false false false false e = inr (inl (cc))
