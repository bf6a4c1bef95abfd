-- The scratch as its three parts are put into it one after the other, and what the call leaves. Assumes nothing.
use Rattle.std.specs.Prelude.{Ok, Err}
use Rattle.std.proofs.Common.{◌≡◌, ℕ, min, zero, suc, ◌+◌, ◌-◌, ◌<◌, ◌≤◌, Bool, true, false, cond, ltb, leb, List, ◌++◌, length, drop, replicate, sym, refl, ap, ◌∙◌, subst, append_assoc, le_trans, le_refl, le_of_lt, arith, length-append, length-drop, length-take-le, take, drop-drop, take_at, drop_at, ltb-false, le-leb, leb-false, leb-true}
use lib.ListN.{length-replicate}
use lib.Ieee.{Float, lt, eq}
use borrow.Rule.Slice.PartMut.{mid_of, put_mid, Post-is, mid_len}
use Rattle.exact.specs.Doubles.{nought, one}
use Rattle.exact.proofs.Truth.{both}
use Rattle.quant.specs.declared.refusal.Refusal.TheVariants.{ShapeTooShort, EndPastRow, NotFinite}
use Rattle.pulse.specs.declared.envelope.Shape.{Shape}
use Rattle.shape.specs.declared.parts.Parts.{Parts}
use Rattle.shape.specs.Segment.{values}
use Rattle.shape.specs.Parts.{index_at, t1, t3, unbroken, broken, in_order, parted_of}
use Rattle.shape.specs.Envelope.{least, limit_of, shape_of, fine_points, filled_of, scratch_filled, Fitting}

-- ys are put into the place from a to e of a scratch that holds `front` and then what it held from a on
pub laid : (old xs front ys : List Float) (a e : ℕ) → xs ≡ front ++ drop a old → length front ≡ a → a ≤ e → put_mid a (e - a) xs ys ≡ (front ++ ys) ++ drop e old
laid old xs front ys a e is size h =
    let at : a + (e - a) ≡ e = omega arith in
    let past : drop e xs ≡ drop e old =
    ap (λ (n : ℕ). drop n xs) (sym at)
    ∙ sym (drop-drop (e - a) a xs)
    ∙ ap (drop (e - a)) (ap (drop a) is ∙ drop_at front (drop a old) a size)
    ∙ drop-drop (e - a) a old
    ∙ ap (λ (n : ℕ). drop n old) at in
    rw (Post-is a e xs h, past, is, take_at front (drop a old) a size) (sym (append_assoc front ys (drop e old)))

pub values_length : (shape : Shape) (numbers : List Float) (n i : ℕ) (x dx : Float) → length (values shape numbers n i x dx) ≡ n
unfolding values
values_length shape numbers zero i x dx = refl
values_length shape numbers (suc n) i x dx = ap suc (values_length shape numbers n (suc i) x dx)

-- a scratch in which nothing but the first a samples changed has as many as before
sized : (old xs front : List Float) (a : ℕ) → xs ≡ front ++ drop a old → length front ≡ a → a ≤ length old → length xs ≡ length old
sized old xs front a is size h =
    let lengths : length (front ++ drop a old) ≡ length front + (length old - a) = length-append front (drop a old) ∙ ap (λ (n : ℕ). length front + n) (length-drop a old) in
    ap length is ∙ lengths ∙ (omega (arith, size))

-- ---- head, plateau and tail, in this order
module _ (shape : Shape) (numbers : List Float) (p : Parts) (old : List Float) (fit : Fitting p (length old)) (head ones tail : List Float) where
  abbrev after-head : List Float
  after-head = head ++ drop p.start old

  abbrev after-ones : List Float
  after-ones = put_mid p.start (p.end - p.start) after-head ones

  module _ (a : head ≡ values shape numbers (length (take p.start old)) 0 p.x0 p.dx) (b : ones ≡ replicate (length (mid_of p.start (p.end - p.start) after-head)) one) (c : tail ≡ values shape numbers (length (mid_of p.end (p.length - p.end) after-ones)) 0 p.x2 p.dx) where
    start-within : p.start ≤ length old
    start-within = omega (arith, fit.head, fit.tail, fit.room)

    end-within : p.end ≤ length old
    end-within = omega (arith, fit.tail, fit.room)

    head-is : head ≡ values shape numbers p.start 0 p.x0 p.dx
    head-is = a ∙ ap (λ (n : ℕ). values shape numbers n 0 p.x0 p.dx) (length-take-le p.start old start-within)

    head-length : length head ≡ p.start
    head-length = ap length head-is ∙ values_length shape numbers p.start 0 p.x0 p.dx

    head-laid : after-head ≡ head ++ drop p.start old
    head-laid = refl

    head-sized : length after-head ≡ length old
    head-sized = sized old after-head head p.start head-laid head-length start-within

    ones_is : ones ≡ replicate (p.end - p.start) one
    ones_is = b ∙ ap (λ (n : ℕ). replicate n one) (mid_len p.start p.end after-head (omega (arith, head-sized, end-within)))

    both-length : length (head ++ ones) ≡ p.end
    both-length =
        let ones-length : length ones ≡ p.end - p.start = ap length ones_is ∙ length-replicate (p.end - p.start) one in
        length-append head ones ∙ (omega (arith, head-length, ones-length, fit.head))

    ones-laid : after-ones ≡ (head ++ ones) ++ drop p.end old
    ones-laid = laid old after-head head ones p.start p.end head-laid head-length fit.head

    ones-sized : length after-ones ≡ length old
    ones-sized = sized old after-ones (head ++ ones) p.end ones-laid both-length end-within

    tail-is : tail ≡ values shape numbers (p.length - p.end) 0 p.x2 p.dx
    tail-is = c ∙ ap (λ (n : ℕ). values shape numbers n 0 p.x2 p.dx) (mid_len p.end p.length after-ones (omega (arith, ones-sized, fit.room)))

    pub all_laid : put_mid p.end (p.length - p.end) after-ones tail ≡ shape_of shape numbers p ++ drop p.length old
    unfolding shape_of
    all_laid =
        laid old after-ones (head ++ ones) tail p.end p.length ones-laid both-length fit.tail
        ∙ ap (λ (l : List Float). l ++ drop p.length old) (append_assoc head ones tail)
        ∙ (rw (head-is, ones_is, tail-is))

-- ---- what the call answers and leaves
module _ (shape : Shape) (numbers : List Float) (p : Parts) (old : List Float) where
  pub refused : fine_points shape numbers p ≡ false → (Err NotFinite ≡ filled_of shape numbers p) × (old ≡ scratch_filled shape numbers p old)
  refused e = (rw e, rw e)

  pub filled : fine_points shape numbers p ≡ true → (xs : List Float) → xs ≡ shape_of shape numbers p ++ drop p.length old → (Ok p.length ≡ filled_of shape numbers p) × (xs ≡ scratch_filled shape numbers p old)
  filled e xs is = (rw e, rw (e, is))

-- ---- parts that are within a room
module _ (room : ℕ) (q : Parts) where
  settled : (u v : Parts) (a b c d : Bool) → (b ≡ false → Fitting u room) → (b ≡ false → d ≡ true → Fitting v room)
      → cond a (Err ShapeTooShort) (cond b (Err EndPastRow) (cond c (Ok u) (cond d (Ok v) (Err EndPastRow)))) ≡ Ok q
      → Fitting q room
  settled u v true b c d f g e = let z : ◌≡◌ {A = ℕ} 0 1 = cc in absurd (omega arith)
  settled u v false true c d f g e = let z : ◌≡◌ {A = ℕ} 0 1 = cc in absurd (omega arith)
  settled u v false false true d f g e = let z : u ≡ q = cc in subst (λ (r : Parts). Fitting r room) z (f refl)
  settled u v false false false true f g e = let z : v ≡ q = cc in subst (λ (r : Parts). Fitting r room) z (g refl refl)
  settled u v false false false false f g e = let z : ◌≡◌ {A = ℕ} 0 1 = cc in absurd (omega arith)

  pub within-fits : (w p o rate dt : Float) → parted_of w p o rate dt room ≡ Ok q → Fitting q room
  unfolding parted_of
  within-fits w p o rate dt e =
      let n = index_at (t3 w p o rate dt) rate in
      let u = unbroken w p o rate dt n in
      let v = broken w p o rate dt n in
      settled u v (lt (t1 w p o rate dt) nought) (ltb room n) (eq p nought) (in_order v.start v.end n)
      (λ h. record { head = le_refl n; tail = le_refl n; room = ltb-false room n h })
      (λ h k. let k' = both (leb v.start v.end) (leb v.end n) k in record { head = leb-true v.start v.end k'.0; tail = leb-true v.end n k'.1; room = ltb-false room n h })
      e

-- parts within a room are within a larger one, as a scratch is that is at least as long
pub fits_more : (q : Parts) (n m : ℕ) → n ≤ m → Fitting q n → Fitting q m
fits_more q n m h fit = record { head = fit.head; tail = fit.tail; room = omega (arith, fit.room) }

pub least-is : (a b : ℕ) → min a b ≡ least a b
least-is a b = by (leb a b) (leb-true a b) (leb-false a b)
  where
    by : (c : Bool) → (c ≡ true → a ≤ b) → (c ≡ false → b < a) → min a b ≡ cond c a b
    by true f g = let h = f refl in omega arith
    by false f g = let h = g refl in omega arith

pub least-left : (a b : ℕ) → least a b ≤ a
least-left a b = by (leb a b) (leb-false a b)
  where
    by : (c : Bool) → (c ≡ false → b < a) → cond c a b ≤ a
    by true f = le_refl a
    by false f = le_of_lt (f refl)

pub least-right : (a b : ℕ) → least a b ≤ b
least-right a b = by (leb a b) (leb-true a b)
  where
    by : (c : Bool) → (c ≡ true → a ≤ b) → cond c a b ≤ b
    by true f = f refl
    by false f = le_refl b

pub limit-scratch : (room n : ℕ) → limit_of room n ≤ n
limit-scratch room n = le_trans (least-left (least room n) 65536) (least-right room n)

pub limit-row : (room n : ℕ) → limit_of room n ≤ 65536
limit-row room n = least-right (least room n) 65536

-- with a scratch no shorter than the room, `envelope` has the room that `measure` has
pub limit-same : (room n : ℕ) → room ≤ n → limit_of room n ≡ least room 65536
limit-same room n h = rw (le-leb room n h)
