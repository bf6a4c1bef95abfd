-- Where every word is a number, there are as many numbers as words. Assumes nothing.
use Rattle.std.specs.Prelude.{Option, Some, None, Float}
use Prim.Native.Nat.{ℕ, suc}
use mathlib.Core.Bool.{true, ◌&&◌}
use mathlib.Core.List.{List, [], ◌∷◌}
use mathlib.Core.Path.{◌≡◌, refl, ap}
use lib.ListN.{length}
use Rattle.decimal.specs.Number.{number_of}
use Rattle.job.specs.List.{all_numbers, is_number}
use Rattle.numbers.specs.Numbers.{numbers_of, onto}

pub as_many : (words : List (List ℕ)) → all_numbers words ≡ true → length (numbers_of words) ≡ length words
unfolding all_numbers numbers_of
as_many [] e = refl
as_many (w ∷ ws) e = by (number_of w) e (as_many ws)
  where
    by : (x : Option Float) → is_number x && all_numbers ws ≡ true → (all_numbers ws ≡ true → length (numbers_of ws) ≡ length ws) → length (onto x (numbers_of ws)) ≡ suc (length ws)
    by (Some x) e rest = ap suc (rest e)
    by None e rest = cc
