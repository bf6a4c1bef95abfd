-- Sections in flight. One turn of all of them takes a sample from those still to come and lays one into the row; once none is left, the
-- first section's last output is what the others have yet to take. Assumes nothing.
use Prim.Native.Nat.{ℕ, suc, ◌+◌, ◌-◌, ◌≤◌, ◌<◌}
use native.Mathlib.Omega.{arith}
use native.Mathlib.Numerals.{add-one}
use mathlib.Core.Path.{◌≡◌, refl, sym, ◌∙◌}
use mathlib.Core.List.{List, [], ◌∷◌, ◌++◌, append-nil}
use lib.ListN.{length, get_or, take, drop, set, length-set, length-drop, drop_of_length-le}
use lib.Seq.{drop-cons, drop-drop, drop-set-lt, take_all, take-set-le, take-suc-set, append_snoc, get_or-set_same}
use lib.Ieee.{Float, nan}
use borrow.Rule.Slice.PartMut.{mid_of, post_of, put_mid}
use Rattle.iir.specs.declared.biquad.Biquad.{Biquad}
use Rattle.iir.specs.Section.{ran}
use Rattle.iir.specs.Filter.{given, pipelined, cascade}
use Rattle.iir.specs.Flight.{through, onward}
use Rattle.iir.proofs.Cascade.{in_turn}

onward-turn : (b : Biquad) (bs : List Biquad) (x : Float) (xs : List Float) → onward b bs (x ∷ xs) ≡ given x (pipelined (b ∷ bs) x) ∷ onward (ran b x) (pipelined bs b.y) xs
unfolding through onward given pipelined
onward-turn b [] x xs = refl
onward-turn b (c ∷ cs) x xs = onward-turn c cs b.y (through b (x ∷ xs))

-- a row of no samples
pub none-through : (bs : List Biquad) (row : List Float) → length row < 1 → row ≡ cascade bs row
unfolding cascade
none-through bs [] h = refl
none-through bs (x ∷ xs) h = absurd (omega arith)

-- ---- the first samples, until every section but the last has one on its way

pub two_launched : (a b : Biquad) (row : List Float) → 1 ≤ length row → onward (ran a (get_or row 0 nan)) (b ∷ []) (drop 1 row) ≡ cascade (a ∷ b ∷ []) row
unfolding through onward
two_launched a b [] h = absurd (omega arith)
two_launched a b (x ∷ xs) h = sym (in_turn (a ∷ b ∷ []) (x ∷ xs))

pub three_launched : (a b c : Biquad) (row : List Float) → 2 ≤ length row
    → let p = ran a (get_or row 0 nan) in onward (ran p (get_or row 1 nan)) (ran b p.y ∷ c ∷ []) (drop 2 row) ≡ cascade (a ∷ b ∷ c ∷ []) row
unfolding through onward
three_launched a b c [] h = absurd (omega arith)
three_launched a b c (x ∷ []) h = absurd (omega arith)
three_launched a b c (x ∷ y ∷ ys) h = sym (in_turn (a ∷ b ∷ c ∷ []) (x ∷ y ∷ ys))

pub four_launched : (a b c d : Biquad) (row : List Float) → 3 ≤ length row
    → let p = ran a (get_or row 0 nan) in
    let q = ran b p.y in
    let p' = ran p (get_or row 1 nan) in
    onward (ran p' (get_or row 2 nan)) (ran q p'.y ∷ ran c q.y ∷ d ∷ []) (drop 3 row) ≡ cascade (a ∷ b ∷ c ∷ d ∷ []) row
unfolding through onward
four_launched a b c d [] h = absurd (omega arith)
four_launched a b c d (x ∷ []) h = absurd (omega arith)
four_launched a b c d (x ∷ y ∷ []) h = absurd (omega arith)
four_launched a b c d (x ∷ y ∷ z ∷ zs) h = sym (in_turn (a ∷ b ∷ c ∷ d ∷ []) (x ∷ y ∷ z ∷ zs))

-- ---- the turns

-- k samples of the row are laid, the sections have taken those before `at`, and what is laid and what is to come make up `all`
pub record Laid (row₀ all row : List Float) (k at : ℕ) (b : Biquad) (bs : List Biquad) : Type 0 where
  pub within : at ≤ length row
  pub same : length row ≡ length row₀
  pub whole : take k row ++ onward b bs (drop at row) ≡ all

module _ (row₀ all row : List Float) (k at : ℕ) (b : Biquad) (bs : List Biquad) (laid : Laid row₀ all row k at b bs) (behind : k ≤ at) where
  -- the turn that takes the sample x at `at`
  pub turned : at < length row → (next : ℕ) → next ≡ at + 1
      → let x = get_or row at nan in Laid row₀ all (set row k (given x (pipelined (b ∷ bs) x))) (k + 1) next (ran b x) (pipelined bs b.y)
  turned h next e =
      let x = get_or row at nan in
      let y = given x (pipelined (b ∷ bs) x) in
      let room : k < length row = omega arith in
      let under : k < suc at = omega arith in
      record {
        within = simp length-set (omega arith);
        same = simp length-set laid.same;
        whole =
            rw (add-one k, e, add-one at, take-suc-set row k y room, drop-set-lt (suc at) row k y under)
            (append_snoc (take k row) y (onward (ran b x) (pipelined bs b.y) (drop (suc at) row))
            ∙ (rw (drop-cons row at nan h, onward-turn b bs x (drop (suc at) row)) at laid.whole));
      }

-- the part of a row that is lent from k on, and the row once ys are back in its place
abbrev lent : List Float → ℕ → List Float
lent row k = mid_of k (length row - k) row

abbrev back : List Float → ℕ → List Float → List Float
back row k ys = put_mid k (length row - k) row ys

-- No sample is left. The first section's last output is laid at the end of the row, w places after k, and the others take it from there:
-- they are lent the row from k on, and give ys for it.
module _ (row₀ all row : List Float) (k at next w : ℕ) (b c : Biquad) (cs : List Biquad) (laid : Laid row₀ all row k next b (c ∷ cs)) (places : at ≡ k + w) (step : next ≡ at + 1) (end : next ≡ length row) where
  abbrev row' : List Float
  row' = set row at b.y

  lent_is : lent row' k ≡ drop k row'
  lent_is = take_all (length row' - k) (drop k row') (rw length-drop (omega arith))

  none_after : post_of k (length row' - k) row' ≡ []
  none_after = let short : length (drop k row') ≤ length row' - k = rw length-drop (omega arith) in drop_of_length-le (drop k row') short

  pub landed : (ys : List Float) → ys ≡ onward c cs (drop w (lent row' k)) → back row' k ys ≡ all
  unfolding through onward
  landed ys e =
      let v = b.y in
      let behind : k ≤ at = omega arith in
      let room : at < length row = omega arith in
      let room' : at < length row' = simp length-set (omega arith) in
      let none : length row ≤ suc at = omega arith in
      let under : at < suc at = omega arith in
      rw (none_after, append-nil, e, lent_is, drop-drop w k row', ← places, take-set-le k row at v behind, drop-cons row' at nan room', get_or-set_same row at v nan room, drop-set-lt (suc at) row at v under, drop_of_length-le row none)
      (rw (step, add-one at, drop_of_length-le row none) at laid.whole)
