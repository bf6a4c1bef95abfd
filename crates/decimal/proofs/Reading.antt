-- What each definition of a number says where its parts are known; and how large the parts can get. Assumes nothing.
use Rattle.std.specs.Prelude.{Option, Some, None}
use Prim.Native.Nat.{ℕ, suc, ◌+◌, ◌*◌, ◌^◌, ◌≤◌, ◌<◌}
use mathlib.Core.Path.{◌≡◌, refl, ap}
use mathlib.Core.Bool.{Bool, true, false, ◌&&◌, cond}
use mathlib.Core.List.{List, [], ◌∷◌, ◌++◌}
use native.Mathlib.Omega.{arith}
use native.Mathlib.Nat.{le_trans, one-mul, pow-le-pow_right}
use borrow.Author.Tests.{le-leb, lt-leb, leb-true}
use lib.Dec.{eqb, leb, lit<}
use lib.ListN.{length, take, drop, length-append}
use Rattle.decimal.specs.declared.number.Power.TheVariants as power
use Rattle.decimal.specs.declared.significand.Significand.{Significand}
use Rattle.decimal.specs.Digits.{digits_from, digits_of, place_of}
use Rattle.decimal.specs.Number.{counted, parted, significand_of, few_of, power_of, power_at, up_of, down_of, with_fraction}
use Rattle.decimal.proofs.Figures.{digits-most}

pub few-fit : (base n most w : ℕ) → 1 ≤ base → n ≤ most → base ^ most ≤ w → 1 * base ^ n ≤ w
few-fit base n most w b h l = rw (one-mul (base ^ n)) (le_trans (pow-le-pow_right b {j = most} h) l)

-- ---- a whole number of 1 to 15 figures
module _ (text : List ℕ) where
  pub digits-none : length text < 1 → digits_of text ≡ None
  unfolding digits_of
  digits-none h = simp (lt-leb 1 (length text) h)

  pub digits_are : 1 ≤ length text → length text ≤ 15 → digits_of text ≡ digits_from 10 0 text
  unfolding digits_of
  digits_are l u = simp (le-leb 1 (length text) l, le-leb (length text) 15 u)

digits-small : (base most m : ℕ) (text : List ℕ) → 1 ≤ base → length text ≤ most → digits_from base 0 text ≡ Some m → m < base ^ most
digits-small base most m text b h e =
    let top : base ^ length text ≤ base ^ most = pow-le-pow_right b {j = most} h in
    omega (arith, digits-most base 0 m text e)

pub whole-small : (text : List ℕ) (m : ℕ) → digits_of text ≡ Some m → m < 10 ^ 15
unfolding digits_of
whole-small text m e = by (leb 1 (length text)) (leb (length text) 15) refl e
  where
    by : (s t : Bool) → leb (length text) 15 ≡ t → cond (s && t) (digits_from 10 0 text) None ≡ Some m → m < 10 ^ 15
    by true true h e = digits-small 10 15 m text (lit< tt) (leb-true (length text) 15 h) e
    by true false h e = let z : ◌≡◌ {A = ℕ} 0 1 = cc in omega arith
    by false t h e = let z : ◌≡◌ {A = ℕ} 0 1 = cc in omega arith

-- ---- digits with a point, the one or none at p
module _ (base : ℕ) (text : List ℕ) where
  abbrev before-point : List ℕ
  before-point = take (place_of 46 text) text

  abbrev behind-point : List ℕ
  behind-point = drop (suc (place_of 46 text)) text

  pub significand-none : length before-point + length behind-point < 1 → significand_of base text ≡ None
  unfolding significand_of parted
  significand-none h = simp (lt-leb 1 (length before-point + length behind-point) h)

  pub significand-are : 1 ≤ length before-point + length behind-point → significand_of base text ≡ counted (digits_from base 0 (before-point ++ behind-point)) (length behind-point)
  unfolding significand_of parted
  significand-are h = simp (le-leb 1 (length before-point + length behind-point) h)

  module _ (most : ℕ) where
    pub few-many : most < length before-point + length behind-point → few_of base most text ≡ None
    unfolding few_of
    few-many h = simp (lt-leb (length before-point + length behind-point) most h)

    pub few-are : length before-point + length behind-point ≤ most → few_of base most text ≡ significand_of base text
    unfolding few_of
    few-are h = simp (le-leb (length before-point + length behind-point) most h)

    module _ (m k : ℕ) where
      pub few-whole : few_of base most text ≡ with_fraction m k → significand_of base text ≡ with_fraction m k
      unfolding few_of
      few-whole e = by (leb (length before-point + length behind-point) most) e
        where
          by : (t : Bool) → cond t (significand_of base text) None ≡ with_fraction m k → significand_of base text ≡ with_fraction m k
          by true e = e
          by false e = cc

      pub few-small : 1 ≤ base → few_of base most text ≡ with_fraction m k → (m < base ^ most) × (k ≤ most)
      unfolding few_of significand_of parted
      few-small b e = by (leb (length before-point + length behind-point) most) refl (leb 1 (length before-point + length behind-point)) e
        where
          at : (d : Option ℕ) → digits_from base 0 (before-point ++ behind-point) ≡ d → length before-point + length behind-point ≤ most → counted d (length behind-point) ≡ with_fraction m k
              → (m < base ^ most) × (k ≤ most)
          at (Some n) f h e =
              let one : ◌≡◌ {A = Significand} (record { digits = n; fraction = length behind-point }) (record { digits = m; fraction = k }) = cc in
              let same : n ≡ m = ap (λ (x : Significand). x.digits) one in
              let long : length behind-point ≡ k = ap (λ (x : Significand). x.fraction) one in
              let all : length (before-point ++ behind-point) ≤ most = simp length-append h in
              (omega (arith, digits-small base most n (before-point ++ behind-point) b all f), omega arith)
          at None f h e = let z : ◌≡◌ {A = ℕ} 0 1 = cc in (absurd (omega (arith, z)), absurd (omega (arith, z)))

          by : (s : Bool) → leb (length before-point + length behind-point) most ≡ s → (t : Bool)
              → cond s (cond t (counted (digits_from base 0 (before-point ++ behind-point)) (length behind-point)) None) None ≡ with_fraction m k → (m < base ^ most) × (k ≤ most)
          by true h true e = at (digits_from base 0 (before-point ++ behind-point)) refl (leb-true (length before-point + length behind-point) most h) e
          by true h false e = let z : ◌≡◌ {A = ℕ} 0 1 = cc in (absurd (omega (arith, z)), absurd (omega (arith, z)))
          by false h t e = let z : ◌≡◌ {A = ℕ} 0 1 = cc in (absurd (omega (arith, z)), absurd (omega (arith, z)))

-- ---- behind the mark
-- a power is small
small : (d : Option ℕ) (up : Bool) (m : ℕ) → (d ≡ Some m → m < 10 ^ 15) → cond up (up_of d) (down_of d) ≡ cond up (Some (power.Up m)) (Some (power.Down m)) → m < 10 ^ 15
small (Some n) true m h e = h (cc)
small (Some n) false m h e = h (cc)
small None true m h e = let z : ◌≡◌ {A = ℕ} 0 1 = cc in omega arith
small None false m h e = let z : ◌≡◌ {A = ℕ} 0 1 = cc in omega arith

never-down : (d : Option ℕ) (m : ℕ) → up_of d ≡ Some (power.Down m) → m < 10 ^ 15
never-down (Some n) m e = let z : ◌≡◌ {A = ℕ} 0 1 = cc in omega arith
never-down None m e = let z : ◌≡◌ {A = ℕ} 0 1 = cc in omega arith

never-up : (d : Option ℕ) (m : ℕ) → down_of d ≡ Some (power.Up m) → m < 10 ^ 15
never-up (Some n) m e = let z : ◌≡◌ {A = ℕ} 0 1 = cc in omega arith
never-up None m e = let z : ◌≡◌ {A = ℕ} 0 1 = cc in omega arith

down-small : (text : List ℕ) (m : ℕ) → power_of text ≡ Some (power.Down m) → m < 10 ^ 15
unfolding power_of
down-small [] m e = let z : ◌≡◌ {A = ℕ} 0 1 = cc in omega arith
down-small (b ∷ bs) m e = by (eqb b 45) e
  where
    by : (t : Bool) → cond t (down_of (digits_of bs)) (up_of (cond (eqb b 43) (digits_of bs) (digits_of (b ∷ bs)))) ≡ Some (power.Down m) → m < 10 ^ 15
    by true e = small (digits_of bs) false m (whole-small bs m) e
    by false e = never-down (cond (eqb b 43) (digits_of bs) (digits_of (b ∷ bs))) m e

up_small : (text : List ℕ) (m : ℕ) → power_of text ≡ Some (power.Up m) → m < 10 ^ 15
unfolding power_of
up_small [] m e = let z : ◌≡◌ {A = ℕ} 0 1 = cc in omega arith
up_small (b ∷ bs) m e = by (eqb b 45) (eqb b 43) e
  where
    by : (s t : Bool) → cond s (down_of (digits_of bs)) (up_of (cond t (digits_of bs) (digits_of (b ∷ bs)))) ≡ Some (power.Up m) → m < 10 ^ 15
    by true t e = never-up (digits_of bs) m e
    by false true e = small (digits_of bs) true m (whole-small bs m) e
    by false false e = small (digits_of (b ∷ bs)) true m (whole-small (b ∷ bs) m) e

-- ---- behind the mark at p
module _ (p : ℕ) (text : List ℕ) where
  pub power-none-at : length text ≤ p → power_at p text ≡ Some (power.Up 0)
  unfolding power_at
  power-none-at h = simp (le-leb (length text) p h)

  pub power-some-at : p < length text → power_at p text ≡ power_of (drop (suc p) text)
  unfolding power_at
  power-some-at h = simp (lt-leb (length text) p h)

  pub power-up-small : (m : ℕ) → power_at p text ≡ Some (power.Up m) → m < 10 ^ 15
  unfolding power_at
  power-up-small m e = by (leb (length text) p) e
    where
      by : (t : Bool) → cond t (Some (power.Up 0)) (power_of (drop (suc p) text)) ≡ Some (power.Up m) → m < 10 ^ 15
      by true e = let z : 0 ≡ m = cc in omega arith
      by false e = up_small (drop (suc p) text) m e

  pub power-down-small : (m : ℕ) → power_at p text ≡ Some (power.Down m) → m < 10 ^ 15
  unfolding power_at
  power-down-small m e = by (leb (length text) p) e
    where
      by : (t : Bool) → cond t (Some (power.Up 0)) (power_of (drop (suc p) text)) ≡ Some (power.Down m) → m < 10 ^ 15
      by true e = let z : ◌≡◌ {A = ℕ} 0 1 = cc in omega arith
      by false e = down-small (drop (suc p) text) m e

-- ---- the sign
