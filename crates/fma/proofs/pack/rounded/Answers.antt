-- `fma::pack::rounded` meets its contract: below e = 1187 to the nearest multiple of the smallest double, from there on to 53 digits. Assumes nothing.
use Rattle.std.proofs.Common.{◌≡◌, ℕ, ◌+◌, ◌-◌, ◌^◌, ◌≤◌, sym, ap, ◌∙◌, subst, sub-add_cancel, arith, pow_pos}
use lib.Ieee.{binary64, units}
use lib.Ieee.Nearest.{closest}
use Rattle.fma.specs.Pack.{Kept, Nearest}
use Rattle.fma.proofs.StickyBit.{sticky-self}
use Rattle.fma.proofs.Rounds.{round-low, round-high, closest-ge}
use Rattle.fma.proofs.pack.rounded.Goals as goal

-- eleven bits off a word with its top bit set leave 53 digits
kept_top : (n q k : ℕ) → 2 ^ 63 ≤ n → Nearest q n 11 → Kept q k
kept_top n q k h r =
    record { small = r.small; full = λ p. subst (λ (x : ℕ). 2 ^ 52 ≤ x) (sym (r.is 0 n (sticky-self n))) (closest-ge n (2 ^ 11) (2 ^ 52) (pow_pos 11) h) }

pub pack-requires-else-e-lt1187 : goal.pack-requires-else-e-lt1187
pack-requires-else-e-lt1187 c =
    kept_top c.args.n c.nearest-q-else-e-lt1187.result (c.args.e - 1187) c.requires.0 c.nearest-q-else-e-lt1187.ensures

pub returns-then-e-lt1187 : goal.returns-then-e-lt1187
returns-then-e-lt1187 c =
    let a = c.args in
    let l = c.if-e-lt1187.true in
    λ t v.
    c.pack.ensures
    ∙ ap (λ (x : ℕ). units binary64 a.negative x 0) (c.nearest-q.ensures.is a.e t v ∙ ap (λ (x : ℕ). closest t (2 ^ x)) (sub-add_cancel {n = 1198} {m = a.e} (omega (arith, l))))
    ∙ sym (round-low a.negative a.n t a.e c.requires.0 c.ranges.n.fits v l)

pub returns-else-e-lt1187 : goal.returns-else-e-lt1187
returns-else-e-lt1187 c =
    let a = c.args in
    let l = c.if-e-lt1187.false in
    λ t v.
    c.pack-else-e-lt1187.ensures
    ∙ ap (λ (x : ℕ). units binary64 a.negative x (a.e - 1187)) (c.nearest-q-else-e-lt1187.ensures.is a.e t v ∙ ap (λ (x : ℕ). closest t (2 ^ x)) (sum a.e l))
    ∙ sym (round-high a.negative a.n t a.e c.requires.0 c.ranges.n.fits v l)
  where
    sum : (e : ℕ) → 1187 ≤ e → 11 + e ≡ 1198 + (e - 1187)
    sum e h = omega arith
