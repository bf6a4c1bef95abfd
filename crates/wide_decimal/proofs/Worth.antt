-- Figures as a whole number: put one behind the other, and cut at a place. Assumes nothing.
use Prim.Native.Nat.{ℕ, suc, ◌+◌, ◌-◌, ◌*◌, ◌^◌, ◌≤◌, ◌<◌}
use mathlib.Core.Path.{◌≡◌, refl, sym, ap, ◌∙◌}
use mathlib.Core.Bool.{Bool, true, false, ◌&&◌, cond}
use mathlib.Core.List.{List, [], ◌∷◌, ◌++◌}
use native.Mathlib.Nat.{mul-le-mul_right, pow-suc}
use native.Mathlib.Omega.{arith}
use borrow.Author.Tests.{leb-true}
use lib.Dec.{leb}
use lib.ListN.{length, get_or, take, drop, take-append-drop, length-drop}
use lib.Seq.{take-suc, take-append-add, drop-drop, length-take-le}
use Rattle.wide_decimal.specs.Figures.{figure_of, worth_from, worth}

pub figure_most : (b : ℕ) → figure_of b ≤ 9
unfolding figure_of
figure_most b = by (leb 48 b) (leb b 57) (leb-true b 57)
  where
    by : (s t : Bool) → (t ≡ true → b ≤ 57) → cond (s && t) (b - 48) 0 ≤ 9
    by true true h = omega (arith, h refl)
    by true false h = omega arith
    by false t h = omega arith

worth-append : (n : ℕ) (a b : List ℕ) → worth_from n (a ++ b) ≡ worth_from (worth_from n a) b
unfolding worth_from
worth-append n [] b = refl
worth-append n (x ∷ a) b = worth-append (n * 10 + figure_of x) a b

worth-behind : (n : ℕ) (a : List ℕ) → worth_from n a ≡ n * 10 ^ length a + worth a
unfolding worth_from
worth-behind n [] = omega arith
worth-behind n (x ∷ a) =
    worth-behind (n * 10 + figure_of x) a
    ∙ one n (figure_of x) (10 ^ length a) (worth a)
    ∙ ap (λ (z : ℕ). n * z + ((0 * 10 + figure_of x) * 10 ^ length a + worth a)) (sym (pow-suc 10 (length a)))
    ∙ ap (λ (z : ℕ). n * 10 ^ suc (length a) + z) (sym (worth-behind (0 * 10 + figure_of x) a))
  where
    one : (n f p w : ℕ) → (n * 10 + f) * p + w ≡ n * (p * 10) + ((0 * 10 + f) * p + w)
    one n f p w = omega arith

pub worth-both : (a b : List ℕ) → worth (a ++ b) ≡ worth a * 10 ^ length b + worth b
worth-both a b = worth-append 0 a b ∙ worth-behind (worth a) b

pub worth-most : (a : List ℕ) → worth a < 10 ^ length a
unfolding worth_from
worth-most [] = omega arith
worth-most (x ∷ a) = rw (pow-suc 10 (length a), worth-behind (0 * 10 + figure_of x) a) (by (figure_of x) (10 ^ length a) (worth a) (figure_most x) (worth-most a))
  where
    by : (f p w : ℕ) → f ≤ 9 → w < p → (0 * 10 + f) * p + w < p * 10
    by f p w h k = let most : f * p ≤ 9 * p = mul-le-mul_right p h in omega arith

pub worth-next : (a : List ℕ) (i : ℕ) → i < length a → worth (take (suc i) a) ≡ worth (take i a) * 10 + figure_of (get_or a i 0)
unfolding worth_from
worth-next a i h = ap worth (take-suc a i 0 h) ∙ worth-append 0 (take i a) (get_or a i 0 ∷ [])

-- ---- the n figures from the i-th on
module _ (a : List ℕ) (i n : ℕ) (fit : i + n ≤ length a) where
  group-long : length (take n (drop i a)) ≡ n
  group-long = length-take-le n (drop i a) (rw (length-drop i a) (omega arith))

  pub group-most : worth (take n (drop i a)) < 10 ^ n
  group-most = rw group-long at (worth-most (take n (drop i a)))

  -- behind the figures before them
  pub worth-upto : worth (take (i + n) a) ≡ worth (take i a) * 10 ^ n + worth (take n (drop i a))
  worth-upto =
      let long : length (take i a) ≡ i = length-take-le i a (omega arith) in
      let cut : take (i + n) a ≡ take i a ++ take n (drop i a) =
      ap (λ (x : List ℕ). take (i + n) x) (sym (take-append-drop i a)) ∙ ap (λ (x : ℕ). take (x + n) (take i a ++ drop i a)) (sym long) ∙ take-append-add (take i a) (drop i a) n in
      ap worth cut ∙ worth-both (take i a) (take n (drop i a)) ∙ ap (λ (x : ℕ). worth (take i a) * 10 ^ x + worth (take n (drop i a))) group-long

  -- before the figures behind them
  pub worth-from : worth (drop i a) ≡ worth (take n (drop i a)) * 10 ^ (length a - (i + n)) + worth (drop (i + n) a)
  worth-from =
      ap worth (sym (take-append-drop n (drop i a)))
      ∙ worth-both (take n (drop i a)) (drop n (drop i a))
      ∙ rw (drop-drop n i a, length-drop (i + n) a)
