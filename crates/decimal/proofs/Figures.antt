-- Digits read one by one, and how large the whole number can get. Assumes nothing.
use Rattle.std.specs.Prelude.{Some, None}
use Prim.Native.Nat.{ℕ, suc, ◌+◌, ◌*◌, ◌^◌, ◌≤◌, ◌<◌}
use mathlib.Core.Path.{◌≡◌, refl}
use mathlib.Core.Bool.{Bool, true, false, cond}
use mathlib.Core.List.{List, [], ◌∷◌, ◌++◌}
use native.Mathlib.Omega.{arith}
use native.Mathlib.Nat.{le_refl, le_trans, mul-le-mul_left, mul-le-mul_right, one-le-pow, pow-zero, pow-succ'}
use borrow.Author.Tests.{lt-ltb, le-ltb, ltb-true}
use lib.Dec.{ltb}
use lib.ListN.{length, get_or, drop, drop_of_length-le}
use lib.Seq.{drop-cons}
use Rattle.decimal.specs.Digits.{digit_of, digits_from}

module _ (base n : ℕ) (text : List ℕ) (i : ℕ) where
  pub one_more : i < length text → digit_of (get_or text i 0) < base → digits_from base n (drop i text) ≡ digits_from base (n * base + digit_of (get_or text i 0)) (drop (suc i) text)
  unfolding digits_from
  one_more h l = rw (drop-cons text i 0 h) (simp (lt-ltb _ _ l))

  pub no_digit : i < length text → base ≤ digit_of (get_or text i 0) → digits_from base n (drop i text) ≡ None
  unfolding digits_from
  no_digit h l = rw (drop-cons text i 0 h) (simp (le-ltb _ _ l))

  pub no_more : length text ≤ i → digits_from base n (drop i text) ≡ Some n
  unfolding digits_from
  no_more h = rw (drop_of_length-le text h)

-- ---- n has room for k digits more
pub room-now : (base n k w : ℕ) → 1 ≤ base → (n + 1) * base ^ k ≤ w → n < w
room-now base n k w b h =
    let one : 1 ≤ base ^ k = one-le-pow k base b in
    let all : (n + 1) * 1 ≤ (n + 1) * base ^ k = mul-le-mul_left (n + 1) one in
    omega arith

pub room_next : (base n k d w : ℕ) → d < base → (n + 1) * base ^ suc k ≤ w → (n * base + d + 1) * base ^ k ≤ w
room_next base n k d w h r =
    let split : base ^ suc k ≡ base * base ^ k = pow-succ' base k in
    let more : n * base + d + 1 ≤ (n + 1) * base = omega arith in
    let all : (n * base + d + 1) * base ^ k ≤ (n + 1) * base * base ^ k = mul-le-mul_right (base ^ k) more in
    let same : (n + 1) * base * base ^ k ≡ (n + 1) * base ^ suc k = rw split (regroup (n + 1) base (base ^ k)) in
    le_trans all (rw same r)
  where
    regroup : (a b c : ℕ) → a * b * c ≡ a * (b * c)
    regroup a b c = omega arith

-- ---- digits behind digits
pub digits-after : (base n m : ℕ) (a b : List ℕ) → digits_from base n a ≡ Some m → digits_from base n (a ++ b) ≡ digits_from base m b
unfolding digits_from
digits-after base n m [] b e = let same : n ≡ m = cc in rw same
digits-after base n m (x ∷ a) b e = by (ltb (digit_of x) base) e (digits-after base (n * base + digit_of x) m a b)
  where
    by : (t : Bool) → cond t (digits_from base (n * base + digit_of x) a) None ≡ Some m
        → (digits_from base (n * base + digit_of x) a ≡ Some m → digits_from base (n * base + digit_of x) (a ++ b) ≡ digits_from base m b)
        → cond t (digits_from base (n * base + digit_of x) (a ++ b)) None ≡ digits_from base m b
    by true e rest = rest e
    by false e rest = cc

pub digits-broken : (base n : ℕ) (a b : List ℕ) → digits_from base n a ≡ None → digits_from base n (a ++ b) ≡ None
unfolding digits_from
digits-broken base n [] b e = cc
digits-broken base n (x ∷ a) b e = by (ltb (digit_of x) base) e (digits-broken base (n * base + digit_of x) a b)
  where
    by : (t : Bool) → cond t (digits_from base (n * base + digit_of x) a) None ≡ None
        → (digits_from base (n * base + digit_of x) a ≡ None → digits_from base (n * base + digit_of x) (a ++ b) ≡ None)
        → cond t (digits_from base (n * base + digit_of x) (a ++ b)) None ≡ None
    by true e rest = rest e
    by false e rest = refl

-- k digits stand for less than base ^ k
pub digits-most : (base n m : ℕ) (a : List ℕ) → digits_from base n a ≡ Some m → m + 1 ≤ (n + 1) * base ^ length a
unfolding digits_from
digits-most base n m [] e = let same : n ≡ m = cc in rw (pow-zero base) (omega arith)
digits-most base n m (x ∷ a) e = by (ltb (digit_of x) base) refl e (digits-most base (n * base + digit_of x) m a)
  where
    by : (t : Bool) → ltb (digit_of x) base ≡ t → cond t (digits_from base (n * base + digit_of x) a) None ≡ Some m
        → (digits_from base (n * base + digit_of x) a ≡ Some m → m + 1 ≤ (n * base + digit_of x + 1) * base ^ length a) → m + 1 ≤ (n + 1) * base ^ suc (length a)
    by true f e below = le_trans (below e) (room_next base n (length a) (digit_of x) ((n + 1) * base ^ suc (length a)) (ltb-true (digit_of x) base f) (le_refl ((n + 1) * base ^ suc (length a))))
    by false f e below = let z : ◌≡◌ {A = ℕ} 0 1 = cc in omega arith
