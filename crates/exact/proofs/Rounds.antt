-- A signed number rounded to a double: no double is nearer, a double is not changed, the order is kept, and the error is a part in 2 ^ 53 at most. Assumes nothing.
use mathlib.Core.Path.{◌≡◌, refl, sym, ap, ◌∙◌, subst}
use mathlib.Core.Bool.{Bool, true, false}
use Prim.Native.Nat.{ℕ, ◌+◌, ◌^◌, ◌≤◌}
use native.Mathlib.Omega.{arith}
use Rattle.exact.specs.Near.{Part}
use Rattle.exact.specs.Signed.{Signed, Same, Apart, signed, times, mag}
use Rattle.exact.specs.Rounds.{rnd, Rounds}
use Rattle.exact.proofs.Few.{Few}
use Rattle.exact.proofs.Sizes.{mag_same, mag-signed, signed_is}
use Rattle.exact.proofs.Nearest.{few-none, nearest, rnd-exact, rnd-few, rnd-part, rnd-mono}

-- ---- the value of a double, of whatever size
abbrev pub Double : Signed → Type 0
Double x = Few (mag x)

pub double-signed : (s : Bool) (n : ℕ) → Few n → Double (signed s n)
double-signed s n f = subst Few (sym (mag-signed s n)) f

rnd-none : (n : ℕ) → n ≡ 0 → rnd n ≡ 0
rnd-none n e = ap rnd e ∙ rnd-exact 0 few-none

-- ---- only the number counts, and not the pair
pub rounds-same : (x y u v : Signed) → Same x u → Same y v → Rounds x y → Rounds u v
rounds-same x y u v h k r = record { sign = r.sign; size = r.size; from = one (signed r.sign r.size) r.from; to = two (signed r.sign (rnd r.size)) r.to }
  where
    one : (z : Signed) → Same x z → Same u z
    one z e = omega arith

    two : (z : Signed) → Same y z → Same v z
    two z e = omega arith

-- the result for a number that is given with a sign
pub rounds-at : (x y : Signed) (s : Bool) (n : ℕ) → Rounds x y → Same x (signed s n) → Same y (signed s (rnd n))
rounds-at x y s n r h = by s r.sign r.size r.from r.to h
  where
    like : (m : ℕ) → m ≡ n → rnd m ≡ rnd n
    like m e = ap rnd e

    by : (s t : Bool) (m : ℕ) → Same x (signed t m) → Same y (signed t (rnd m)) → Same x (signed s n) → Same y (signed s (rnd n))
    by true true m f g h = let e = like m (omega arith) in omega arith
    by false false m f g h = let e = like m (omega arith) in omega arith
    by true false m f g h = let e = rnd-none m (omega arith) in let i = rnd-none n (omega arith) in omega arith
    by false true m f g h = let e = rnd-none m (omega arith) in let i = rnd-none n (omega arith) in omega arith

-- its size
pub rounds-mag : (x y : Signed) → Rounds x y → mag y ≡ rnd (mag x)
rounds-mag x y r =
    mag_same y (signed r.sign (rnd r.size)) r.to
    ∙ mag-signed r.sign (rnd r.size)
    ∙ ap rnd (sym (mag_same x (signed r.sign r.size) r.from ∙ mag-signed r.sign r.size))

-- only 0 rounds to 0
pub rounds-none : (x y : Signed) → Rounds x y → mag y ≡ 0 → mag x ≡ 0
rounds-none x y r z = by (mag x) (rnd (mag x)) (sym (rounds-mag x y r) ∙ z) (rnd-part (mag x))
  where
    by : (n v : ℕ) → v ≡ 0 → Part v n → n ≡ 0
    by n v e p = omega (arith, p.under)

-- every number has one
pub rounds-of : (x : Signed) → (y : Signed) × Rounds x y
rounds-of x = let s = signed_is x in (signed s.0 (rnd (mag x)), record { sign = s.0; size = mag x; from = s.1; to = refl })

-- ---- a double is not changed, and the result is one
pub rounds-exact : (x y : Signed) → Rounds x y → Double x → Same y x
rounds-exact x y r f =
    let s = signed_is x in
    by s.0 (mag x) (rnd (mag x)) s.1 (rounds-at x y s.0 (mag x) r s.1) (rnd-exact (mag x) f)
  where
    by : (s : Bool) (m p : ℕ) → Same x (signed s m) → Same y (signed s p) → p ≡ m → Same y x
    by true m p h k e = omega arith
    by false m p h k e = omega arith

-- so a result whose exact value is the double z is z
pub rounds-to : (x y z : Signed) → Rounds x y → Same x z → Double z → Same y z
rounds-to x y z r e f = rounds-exact z y (rounds-same x y z y e refl r) f

pub rounds-double : (x y : Signed) → Rounds x y → Double y
rounds-double x y r = subst Few (sym (rounds-mag x y r)) (rnd-few (mag x))

-- ---- no double is nearer
pub rounds-near : (x y z : Signed) (e : ℕ) → Rounds x y → Double z → Apart z x e → Apart y x e
rounds-near x y z e r f a =
    let t = signed_is z in
    by r.sign t.0 r.size (rnd r.size) (mag z) r.from r.to t.1 a.over a.under
    (λ h k. nearest r.size (mag z) e f h k) (λ h k. nearest r.size 0 e few-none h k)
  where
    by : (s t : Bool) (m p q : ℕ) → Same x (signed s m) → Same y (signed s p) → Same z (signed t q)
        → z.plus + x.less ≤ x.plus + z.less + e → x.plus + z.less ≤ z.plus + x.less + e
        → (q ≤ m + e → m ≤ q + e → (p ≤ m + e) × (m ≤ p + e)) → (0 ≤ m + e → m ≤ 0 + e → (p ≤ m + e) × (m ≤ p + e)) → Apart y x e
    by true true m p q f g h a b near none = let l = near (omega arith) (omega arith) in record { over = omega arith; under = omega arith }
    by false false m p q f g h a b near none = let l = near (omega arith) (omega arith) in record { over = omega arith; under = omega arith }
    by true false m p q f g h a b near none = let l = none (omega arith) (omega arith) in record { over = omega arith; under = omega arith }
    by false true m p q f g h a b near none = let l = none (omega arith) (omega arith) in record { over = omega arith; under = omega arith }

-- ---- the error
pub rounds-error : (x y : Signed) → Rounds x y → Apart (times (2 ^ 53) y) (times (2 ^ 53) x) (mag x)
rounds-error x y r = by r.sign r.size (rnd r.size) (mag x) r.from r.to (rnd-part r.size) (sym (mag-signed r.sign r.size) ∙ sym (mag_same x (signed r.sign r.size) r.from))
  where
    by : (s : Bool) (m p e : ℕ) → Same x (signed s m) → Same y (signed s p) → Part p m → m ≡ e → Apart (times (2 ^ 53) y) (times (2 ^ 53) x) e
    by true m p e h k a i = record { over = omega (arith, a.over, a.under); under = omega (arith, a.over, a.under) }
    by false m p e h k a i = record { over = omega (arith, a.over, a.under); under = omega (arith, a.over, a.under) }

-- ---- the order: x is at most y
abbrev pub NotAbove : Signed → Signed → Type 0
NotAbove x y = x.plus + y.less ≤ y.plus + x.less

pub rounds-mono : (x y u v : Signed) → Rounds x y → Rounds u v → NotAbove x u → NotAbove y v
rounds-mono x y u v r q h =
    by r.sign q.sign r.size q.size (rnd r.size) (rnd q.size) r.from r.to q.from q.to (rnd-mono r.size q.size) (rnd-mono q.size r.size) (rnd-none r.size) (rnd-none q.size)
  where
    by : (s t : Bool) (m n k l : ℕ) → Same x (signed s m) → Same y (signed s k) → Same u (signed t n) → Same v (signed t l)
        → (m ≤ n → k ≤ l) → (n ≤ m → l ≤ k) → (m ≡ 0 → k ≡ 0) → (n ≡ 0 → l ≡ 0) → NotAbove y v
    by false false m n k l a b c d f g i j = let o = f (omega arith) in omega arith
    by true true m n k l a b c d f g i j = let o = g (omega arith) in omega arith
    by true false m n k l a b c d f g i j = omega arith
    by false true m n k l a b c d f g i j = let o = i (omega arith) in let p = j (omega arith) in omega arith

-- what lies between two numbers that round to r rounds to r
pub rounds-between : (l x h r q : Signed) → Rounds l q → Rounds h r → Same r q → NotAbove l x → NotAbove x h → Rounds x r
rounds-between l x h r q a b e f g =
    let y = rounds-of x in
    rounds-same x y.0 x r refl (both y.0 (rounds-mono l q x y.0 a y.1 f) (rounds-mono x y.0 h r y.1 b g)) y.1
  where
    both : (y : Signed) → NotAbove q y → NotAbove y r → Same y r
    both y h k = omega arith
