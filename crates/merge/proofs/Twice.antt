-- Summing twice is summing once: what is kept never falls onto what was kept before it, for what falls is told by bin and time, which
-- adding leaves. Assumes nothing.
use mathlib.Core.Path.{◌≡◌, refl, ◌∙◌}
use mathlib.Core.Bool.{Bool, true, false, cond}
use mathlib.Core.List.{List, [], ◌∷◌}
use lib.Ieee.{Float}
use Rattle.pulse.specs.declared.list.Pulse.{Pulse}
use Rattle.merge.specs.Sum.{plus_p, together, together_in_bin, kept_from, summed_by, summed, summed_again}

module _ (falls : Pulse → Pulse → Bool) (steady : (k p q : Pulse) → falls k (plus_p p q) ≡ falls k p) where
  apart : (k p : Pulse) (ps : List Pulse) → falls k p ≡ false → kept_from falls k (kept_from falls p ps) ≡ k ∷ kept_from falls p ps
  unfolding kept_from
  apart k p [] e = rw e
  apart k p (q ∷ qs) e = either (falls p q) (apart k (plus_p p q) qs (steady k p q ∙ e)) (λ h. apart p q qs h) refl where
    either : (b : Bool) → kept_from falls k (kept_from falls (plus_p p q) qs) ≡ k ∷ kept_from falls (plus_p p q) qs → (falls p q ≡ false → kept_from falls p (kept_from falls q qs) ≡ p
        ∷ kept_from falls q qs) → falls p q ≡ b
        → kept_from falls k (cond b (kept_from falls (plus_p p q) qs) (p ∷ kept_from falls q qs)) ≡ k ∷ cond b (kept_from falls (plus_p p q) qs) (p ∷ kept_from falls q qs)
    either true x y h = x
    either false x y h = rw (e, y h)

  kept-twice : (k : Pulse) (ps : List Pulse) → summed_by falls (kept_from falls k ps) ≡ kept_from falls k ps
  unfolding kept_from summed_by
  kept-twice k [] = refl
  kept-twice k (p ∷ ps) = either (falls k p) (kept-twice (plus_p k p) ps) refl where
    either : (b : Bool) → summed_by falls (kept_from falls (plus_p k p) ps) ≡ kept_from falls (plus_p k p) ps → falls k p ≡ b
        → summed_by falls (cond b (kept_from falls (plus_p k p) ps) (k ∷ kept_from falls p ps)) ≡ cond b (kept_from falls (plus_p k p) ps) (k ∷ kept_from falls p ps)
    either true x h = x
    either false x h = apart k p ps h

  pub summed-twice : (ps : List Pulse) → summed_by falls (summed_by falls ps) ≡ summed_by falls ps
  unfolding summed_by
  summed-twice [] = refl
  summed-twice (p ∷ ps) = kept-twice p ps

-- a channel's list, and the pulses of one bin
pub list-twice : (t : Float) (ps : List Pulse) → summed t (summed t ps) ≡ summed t ps
list-twice t ps = summed-twice (together_in_bin t) (λ k p q. refl) ps

pub bin-twice : (t : Float) (ps : List Pulse) → summed_again t (summed_again t ps) ≡ summed_again t ps
bin-twice t ps = summed-twice (together t) (λ k p q. refl) ps
