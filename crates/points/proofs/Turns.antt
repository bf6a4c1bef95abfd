-- One turn of a loop that stores points, said of the count that is left; and a first point put in place of another. Assumes nothing.
use Rattle.std.proofs.Common.{◌≡◌, ℕ, zero, suc, ◌+◌, ◌-◌, ◌<◌, ◌≤◌, List, [], ◌∷◌, ◌++◌, length, get_or, take, set, sym, refl, ap, ◌∙◌, append-nil, le_of_suc-le-suc, not-suc-le-zero, add-zero, add-one, arith, length-set, take_all, take-suc-set}
use lib.Seq.{append_snoc}
use lib.Ieee.{Float, nan}
use Rattle.points.specs.Points.{point_at, points}
use Rattle.points.specs.Grid.{headed}

points-turn : (i n : ℕ) → i < n → (x dx : Float) → points (n - i) i x dx ≡ point_at x dx i ∷ points (n - (i + 1)) (i + 1) x dx
unfolding points
points-turn i n h x dx = rw (left i n h, add-one)
  where
    left : (i n : ℕ) → i < n → n - i ≡ suc (n - (i + 1))
    left i n h = omega arith

-- a point is stored before the rest
stored : (part : List Float) (i : ℕ) (y : Float) (rest : List Float) → i < length part → take (i + 1) (set part i y) ++ rest ≡ take i part ++ (y ∷ rest)
stored part i y rest h = rw (add-one i, take-suc-set part i y h) (append_snoc (take i part) y rest)

pub turn : (part₀ part all : List Float) (i : ℕ) (x dx y : Float) → y ≡ point_at x dx i → i < length part → length part ≡ length part₀
    → take i part ++ points (length part₀ - i) i x dx ≡ all
    → (i + 1 ≤ length (set part i y)) × (length (set part i y) ≡ length part₀) × (take (i + 1) (set part i y) ++ points (length part₀ - (i + 1)) (i + 1) x dx ≡ all)
turn part₀ part all i x dx y e h same done =
    let under : i < length part₀ = omega arith in (
      omega (arith, length-set part i y),
      length-set part i y ∙ same,
      rw e (stored part i (point_at x dx i) (points (length part₀ - (i + 1)) (i + 1) x dx) h
          ∙ ap (λ (l : List Float). take i part ++ l) (sym (points-turn i (length part₀) under x dx))
          ∙ done),
    )

-- nothing is left
pub all_laid : (part all : List Float) (i n : ℕ) (x dx : Float) → length part ≤ i → n ≤ i → take i part ++ points (n - i) i x dx ≡ all → part ≡ all
unfolding points
all_laid part all i n x dx h g e = rw (none, take_all i part h, append-nil) at e
  where
    none : n - i ≡ 0
    none = omega arith

-- ---- another first element
pub put : (part : List Float) (y : Float) → 0 < length part → set part 0 y ≡ headed y part
unfolding headed
put [] y h = absurd (not-suc-le-zero h)
put (z ∷ part) y h = refl

pub none-put : (part : List Float) (y : Float) → length part ≤ 0 → part ≡ headed y part
unfolding headed
none-put [] y h = refl
none-put (z ∷ part) y h = absurd (not-suc-le-zero h)

-- ---- the points, one by one
pub points-length : (n i : ℕ) (x dx : Float) → length (points n i x dx) ≡ n
unfolding points
points-length zero i x dx = refl
points-length (suc n) i x dx = ap suc (points-length n (suc i) x dx)

pub points-at : (n i : ℕ) (x dx : Float) (k : ℕ) → k < n → get_or (points n i x dx) k nan ≡ point_at x dx (i + k)
unfolding points
points-at zero i x dx k h = absurd (not-suc-le-zero h)
points-at (suc n) i x dx zero h = ap (point_at x dx) (sym (add-zero i))
points-at (suc n) i x dx (suc k) h = points-at n (suc i) x dx k (le_of_suc-le-suc h) ∙ ap (point_at x dx) (omega arith)
