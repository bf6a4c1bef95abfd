-- THE PARTS OF AN ENVELOPE ARE IN ORDER for every width above 0 and every plateau above 0: t1 is at most t2 and that at most t3, and every step from a time
-- to its index keeps the order. Numbers are followed as sizes in units of 2^-1074, rounded; none of them is negative. Assumes nothing.
use Rattle.std.proofs.Common.{◌≡◌, ℕ, zero, suc, ◌+◌, ◌-◌, ◌*◌, ◌^◌, ◌<◌, ◌≤◌, Bool, true, false, cond, not, T, sym, refl, ap, ◌∙◌, subst, inl, inr, true≢false, le_refl, lt_irrefl, mul-le-mul_right, mul_assoc, mul_comm, mul-pos, zero-mul, mul_right_comm, le_of_mul-le-mul_right, div-one, arith, lit<, pow_pos, le-ltb, lt-ltb, le-leb}
use Prim.Native.Nat.{compare, Ordering}
use lib.Dec.{eqb-suc-zero}
use lib.Ieee.{Float, nan, inf, fin, binary64, up, down, round, sum, add, sub, mul, div, neg, lt, le, fits, of_bits}
use lib.Ieee.Fits.{round-fits, div-fits, down_pos}
use lib.Ieee.Exact.{HasValue}
use lib.Ieee.Nearest.{div_mono}
use lib.Ieee.Order.{round_mono}
use lib.Ieee.Scale.{finite, grid, round_same}
use Rattle.exact.specs.Doubles.{nought, two}
use Rattle.exact.specs.Value.{Units}
use Rattle.exact.proofs.Order.{compared, Stands}
use Rattle.exact.proofs.Sum.{sum_like, sum_first, sum-second, sum-none}
use Rattle.exact.proofs.Operation.{mul-rounds, add_rounds, sub-rounds}
use Rattle.exact.proofs.Compare.{lt-is}
use Rattle.exact.proofs.Few.{Few, few-of, few-value, value-finite, units-below}
use Rattle.exact.proofs.Rounding.{round-value}
use Rattle.exact.proofs.Value.{unique, units-are}
use Rattle.ieee.specs.Ceiling.{ceiling, whole_above}
use Rattle.ieee.specs.Cut.{cut_of}
use Rattle.ieee.specs.Cut as Cut
use Rattle.ieee.proofs.Ceiling.{value}
use Rattle.ieee.proofs.Comparing.{fractions-of-le}
use Rattle.ieee.proofs.Cutting.{cut-value, index-within, index-above}
use Rattle.shape.specs.Parts.{index_of, index_at, t1, t2, t3, in_order}
use Rattle.exact.proofs.Finite.{smaller-finite, round-either}

abbrev Q : ℕ
Q = 2 ^ 1074

-- x is at most y, and neither is negative: both are sizes over one denominator, rounded
record Rises (x y : Float) : Type 0 where
  a : ℕ
  b : ℕ
  c : ℕ
  positive : 0 < c
  x-is : x ≡ round binary64 false a c
  y-is : y ≡ round binary64 false b c
  order : a ≤ b

-- the same in whole units
record Sizes (x y : Float) : Type 0 where
  m : ℕ
  n : ℕ
  x-size : Units x false m
  y-size : Units y false n
  order : m ≤ n

sizes : (x y : Float) → Rises x y → T (finite y) → Sizes x y
sizes x y r t =
    let last : T (finite (round binary64 false r.b r.c)) = subst (λ (z : Float). T (finite z)) r.y-is t in
    let first : T (finite (round binary64 false r.a r.c)) = smaller-finite false false r.a r.b r.c r.positive r.order last in
    let u = round-value false r.a r.c first in
    let v = round-value false r.b r.c last in
    let below : T (le (round binary64 false r.a r.c) (round binary64 false r.b r.c)) = round_mono binary64 r.a r.c r.b r.c r.positive r.positive (mul-le-mul_right r.c r.order) in
    record {
      m = grid binary64 r.a r.c;
      n = grid binary64 r.b r.c;
      x-size = subst (λ (z : Float). Units z false (grid binary64 r.a r.c)) (sym r.x-is) u;
      y-size = subst (λ (z : Float). Units z false (grid binary64 r.b r.c)) (sym r.y-is) v;
      order = le_of_mul-le-mul_right (fractions-of-le (round binary64 false r.a r.c) (round binary64 false r.b r.c) false false (grid binary64 r.a r.c) Q (grid binary64 r.b r.c) Q (pow_pos 1074) (pow_pos 1074) u v below) (pow_pos 1074);
    }

-- ---- times a rate above 0
times : (x y rate : Float) (k : ℕ) → Units rate false k → Rises x y → T (finite y) → Rises (mul binary64 x rate) (mul binary64 y rate)
times x y rate k u r t =
    let s = sizes x y r t in
    record {
      a = s.m * k;
      b = s.n * k;
      c = Q * Q;
      positive = mul-pos (pow_pos 1074) (pow_pos 1074);
      x-is = mul-rounds binary64 x rate false false s.m Q k Q (pow_pos 1074) (pow_pos 1074) s.x-size u;
      y-is = mul-rounds binary64 y rate false false s.n Q k Q (pow_pos 1074) (pow_pos 1074) s.y-size u;
      order = mul-le-mul_right k s.order;
    }

more : (a b c : ℕ) → a ≤ b → a + c ≤ b + c
more a b c h = omega arith

-- ---- the ceiling's index
abbrev pub last : ℕ
last = 18446744073709551615

abbrev saturated : ℕ → ℕ
saturated w = index_of (Cut.index_of false w)

small : (w : ℕ) → w < 2 ^ 64 → saturated w ≡ w
small w h = ap index_of (index-within w h)

large : (w : ℕ) → 2 ^ 64 ≤ w → saturated w ≡ last
large w h = ap index_of (index-above w h)

at-most-last : (v : ℕ) → saturated v ≤ last
at-most-last v = by (compare v (2 ^ 64)) (compared v (2 ^ 64))
  where
    by : (o : Ordering) → Stands o v (2 ^ 64) → saturated v ≤ last
    by Ordering.lt k = omega (arith, small v k)
    by Ordering.eq k = omega (arith, large v (omega arith))
    by Ordering.gt k = omega (arith, large v (omega arith))

saturated-rises : (v w : ℕ) → v ≤ w → saturated v ≤ saturated w
saturated-rises v w h = by (compare w (2 ^ 64)) (compared w (2 ^ 64))
  where
    by : (o : Ordering) → Stands o w (2 ^ 64) → saturated v ≤ saturated w
    by Ordering.lt k = omega (arith, small v (omega arith), small w k)
    by Ordering.eq k = omega (arith, at-most-last v, large w (omega arith))
    by Ordering.gt k = omega (arith, at-most-last v, large w (omega arith))

-- of a finite number that is not negative
index-of : (x : Float) (m : ℕ) → T (fits binary64 x) → Units x false m → index_of (cut_of (ceiling x)) ≡ saturated (whole_above m Q)
index-of x m f u =
    let up : HasValue (ceiling x) false (whole_above m Q) 1 = value x false m Q (pow_pos 1074) f u in
    ap index_of (cut-value (ceiling x) false (whole_above m Q) 1 (omega arith) up ∙ ap (Cut.index_of false) (div-one (whole_above m Q)))

rises-fit : (x y : Float) → Rises x y → T (fits binary64 x) × T (fits binary64 y)
rises-fit x y r = (subst (λ (z : Float). T (fits binary64 z)) (sym r.x-is) (round-fits binary64 false r.a r.c), subst (λ (z : Float). T (fits binary64 z)) (sym r.y-is) (round-fits binary64 false r.b r.c))

index-rises : (x y : Float) → Rises x y → T (finite y) → index_of (cut_of (ceiling x)) ≤ index_of (cut_of (ceiling y))
index-rises x y r t =
    let s = sizes x y r t in
    let f = rises-fit x y r in
    let above : whole_above s.m Q ≤ whole_above s.n Q = div_mono (s.m + (Q - 1)) Q (s.n + (Q - 1)) Q (pow_pos 1074) (pow_pos 1074) (mul-le-mul_right Q (more s.m s.n (Q - 1) s.order)) in
    rw (index-of x s.m f.0 s.x-size, index-of y s.n f.1 s.y-size) (saturated-rises (whole_above s.m Q) (whole_above s.n Q) above)

-- ---- less an offset: the first difference is not below 0
module _ (x y off : Float) (s : Bool) (o : ℕ) (u : Units off s o) (r : Rises x y) (t : T (finite y)) where
  abbrev z : Sizes x y
  z = sizes x y r t

  first-is : sub binary64 x off ≡ sum binary64 false z.m (not s) o Q
  first-is = sub-rounds binary64 x off false s z.m o Q (pow_pos 1074) z.x-size u

  second_is : sub binary64 y off ≡ sum binary64 false z.n (not s) o Q
  second_is = sub-rounds binary64 y off false s z.n o Q (pow_pos 1074) z.y-size u

  -- k units each, rounded
  from : (k l : ℕ) → k ≤ l → sum binary64 false z.m (not s) o Q ≡ round binary64 false k Q → sum binary64 false z.n (not s) o Q ≡ round binary64 false l Q → Rises (sub binary64 x off) (sub binary64 y off)
  from k l h e f = record { a = k; b = l; c = Q; positive = pow_pos 1074; x-is = first-is ∙ e; y-is = second_is ∙ f; order = h }

fewer : (a b c : ℕ) → a ≤ b → a - c ≤ b - c
fewer a b c h = omega arith

plus_none : (g : ℕ) → 0 < g → 0 < g + 0
plus_none g h = omega arith

least : (g : ℕ) → 0 ≤ g
least g = omega arith

-- ---- signs
pub zero-size : Units nought false 0
unfolding of_bits
zero-size = (refl, refl)

unit_size : Units (round binary64 false 1 Q) false 1
unit_size = few-value false 1 (record { digits = 1; shift = 0; few = lit< {m = 1} {n = 2 ^ 53} tt; is = refl }) (lit< {m = 1} {n = 2 ^ 2098} tt)

-- a whole number of units above 0 does not round to 0
grid-positive : (k : ℕ) → 0 < k → T (finite (round binary64 false k Q)) → 0 < grid binary64 k Q
grid-positive k h t =
    let below : T (le (round binary64 false 1 Q) (round binary64 false k Q)) = round_mono binary64 1 Q k Q (pow_pos 1074) (pow_pos 1074) (mul-le-mul_right Q h) in
    le_of_mul-le-mul_right (fractions-of-le (round binary64 false 1 Q) (round binary64 false k Q) false false 1 Q (grid binary64 k Q) Q (pow_pos 1074) (pow_pos 1074) unit_size (round-value false k Q t) below) (pow_pos 1074)

negative : (k : ℕ) → 0 < k → lt (round binary64 true k Q) nought ≡ true
unfolding lt of_bits
negative k h = elim (round-either true k Q) [ inl t ↦ known t | inr e ↦ ap (λ (z : Float). lt z nought) e ]
  where
    known : T (finite (round binary64 true k Q)) → lt (round binary64 true k Q) nought ≡ true
    known t =
        let g = grid binary64 k Q in
        let some : 0 < g = grid-positive k h (smaller-finite false true k k Q (pow_pos 1074) (le_refl k) t) in
        lt-is (round binary64 true k Q) nought true false g 0 Q (pow_pos 1074) (round-value true k Q t) zero-size ∙ lt-ltb 0 (g + 0) (plus_none g some)

not_negative : (x : Float) (a c : ℕ) → x ≡ round binary64 false a c → lt x nought ≡ false
unfolding lt of_bits
not_negative x a c is = ap (λ (z : Float). lt z nought) is ∙ (elim (round-either false a c) [ inl t ↦ known t | inr e ↦ ap (λ (z : Float). lt z nought) e ])
  where
    known : T (finite (round binary64 false a c)) → lt (round binary64 false a c) nought ≡ false
    known t = lt-is (round binary64 false a c) nought false false (grid binary64 a c) 0 Q (pow_pos 1074) (round-value false a c t) zero-size ∙ le-ltb (grid binary64 a c) 0 (least (grid binary64 a c))

less : (x y off : Float) (s : Bool) (o : ℕ) → Units off s o → Rises x y → T (finite y) → lt (sub binary64 x off) nought ≡ false → Rises (sub binary64 x off) (sub binary64 y off)
less x y off true o u r t h =
    let z = sizes x y r t in
    from x y off true o u r t (z.m + o) (z.n + o) (more z.m z.n o z.order) (sum_like binary64 false false z.m o Q refl) (sum_like binary64 false false z.n o Q refl)
less x y off false o u r t h = by (compare m o) (compared m o) (compare n o) (compared n o)
  where
    m : ℕ
    m = (sizes x y r t).m

    n : ℕ
    n = (sizes x y r t).n

    order : m ≤ n
    order = (sizes x y r t).order

    by : (a : Ordering) → Stands a m o → (b : Ordering) → Stands b n o → Rises (sub binary64 x off) (sub binary64 y off)
    by Ordering.lt k b l =
        absurd (true≢false (sym (ap (λ (z : Float). lt z nought) (first-is x y off false o u r t ∙ sum-second binary64 false true m o Q refl k) ∙ negative (o - m) (omega arith)) ∙ h))
    by Ordering.eq k Ordering.lt l = absurd (omega (arith, order))
    by Ordering.eq k Ordering.eq l = from x y off false o u r t 0 0 (le_refl 0) (sum-none binary64 false true m o Q refl k) (sum-none binary64 false true n o Q refl l)
    by Ordering.eq k Ordering.gt l = from x y off false o u r t 0 (n - o) (least (n - o)) (sum-none binary64 false true m o Q refl k) (sum_first binary64 false true n o Q refl l)
    by Ordering.gt k Ordering.lt l = absurd (omega (arith, order))
    by Ordering.gt k Ordering.eq l = absurd (omega (arith, order))
    by Ordering.gt k Ordering.gt l = from x y off false o u r t (m - o) (n - o) (fewer m n o order) (sum_first binary64 false true m o Q refl k) (sum_first binary64 false true n o Q refl l)

-- ---- an end within a room does not overflow
over : (x : Float) → x ≡ inf false → index_of (cut_of (ceiling x)) ≡ last
unfolding ceiling cut_of
over x e = ap (λ (z : Float). index_of (cut_of (ceiling z))) e

rate-over : (x rate : Float) (k : ℕ) → Units rate false k → 0 < k → x ≡ inf false → mul binary64 x rate ≡ inf false
unfolding mul
rate-over x nan k u h e = absurd u
rate-over x (inf s) k u h e = absurd u
rate-over x (fin true n d) k u h e = absurd (true≢false u.0)
rate-over x (fin false zero d) k u h e = absurd (no_size (up d) Q k (down d) (down_pos d) h u.1)
  where
    no_size : (a q k c : ℕ) → 0 < c → 0 < k → 0 * a * q ≡ k * c → ⊥
    no_size a q k c C K e =
        let some : 0 < k * c = mul-pos K C in
        let none : 0 * a * q ≡ 0 = ap (λ (z : ℕ). z * q) (zero-mul a) ∙ zero-mul q in
        omega arith
rate-over x (fin false (suc n) d) k u h e = ap (λ (z : Float). mul binary64 z (fin false (suc n) d)) e ∙ ap (λ (b : Bool). cond b nan (inf false)) (eqb-suc-zero n)

sub-over : (x off : Float) (s : Bool) (o : ℕ) → Units off s o → x ≡ inf false → sub binary64 x off ≡ inf false
unfolding sub add neg
sub-over x nan s o u e = absurd u
sub-over x (inf t) s o u e = absurd u
sub-over x (fin t n d) s o u e = ap (λ (z : Float). sub binary64 z (fin t n d)) e

-- a double that is not negative is its own size, rounded
itself : (x : Float) (n : ℕ) → T (fits binary64 x) → Units x false n → x ≡ round binary64 false n Q
itself x n f u =
    let t = value-finite x false n u in
    let few : Few n = subst Few (units-are x false n u) (few-of x f t) in
    let small : n < 2 ^ 2098 = subst (λ (m : ℕ). m < 2 ^ 2098) (units-are x false n u) (units-below x f t) in
    unique x (round binary64 false n Q) false n Q (pow_pos 1074) f (round-fits binary64 false n Q) u (few-value false n few small)

-- ---- half of a width
half-rises : (w : Float) (n : ℕ) → T (fits binary64 w) → Units w false n → Rises (div binary64 w two) w
unfolding div of_bits
half-rises nan n f u = absurd u
half-rises (inf s) n f u = absurd u
half-rises (fin true m e) n f u = absurd (true≢false u.0)
half-rises (fin false m e) n f u =
    let a = m * up e in
    let c = down e in
    record {
      a = a * 1;
      b = a * 2;
      c = 1 * 2 * c;
      positive = mul-pos {m = 1 * 2} (omega arith) (down_pos e);
      x-is = refl;
      y-is = itself (fin false m e) n f u ∙ round_same binary64 false n Q (a * 2) (1 * 2 * c) (pow_pos 1074) (mul-pos {m = 1 * 2} (omega arith) (down_pos e)) (turned n a c Q u.1);
      order = twice a;
    }
  where
    turned : (n a c q : ℕ) → a * q ≡ n * c → n * (1 * 2 * c) ≡ a * 2 * q
    turned n a c q h =
        let l : n * (1 * 2 * c) ≡ n * c * 2 = ap (λ (z : ℕ). n * z) (mul_comm 2 c) ∙ sym (mul_assoc n c 2) in
        l ∙ ap (λ (z : ℕ). z * 2) (sym h) ∙ mul_right_comm a q 2

    twice : (a : ℕ) → a * 1 ≤ a * 2
    twice a = omega arith

-- ---- start, end and length. A width and a plateau that are not negative, a rate above 0, a finite offset; 11 is not given, and the length is an index.
module _ (w p o rate dt : Float) (wu pu ru ou : ℕ) (s : Bool) (fit : T (fits binary64 w)) (W : Units w false wu) (P : Units p false pu) (R : Units rate false ru) (some : 0 < ru) (O : Units (mul binary64 o dt) s ou) (reaches : lt (t1 w p o rate dt) nought ≡ false) (within : index_at (t3 w p o rate dt) rate < last) where
  abbrev half : Float
  half = div binary64 w two

  abbrev off : Float
  off = mul binary64 o dt

  halves : Sizes half w
  halves = sizes half w (half-rises w wu fit W) (value-finite w false wu W)

  abbrev hu : ℕ
  hu = halves.m

  abbrev vu : ℕ
  vu = halves.n

  half_is : half ≡ round binary64 false hu Q
  half_is = itself half hu (div-fits binary64 w two) halves.x-size

  second_is' : add binary64 half p ≡ round binary64 false (hu + pu) Q
  second_is' = add_rounds binary64 half p false false hu pu Q (pow_pos 1074) halves.x-size P ∙ sum_like binary64 false false hu pu Q refl

  third-is : add binary64 w p ≡ round binary64 false (vu + pu) Q
  third-is = add_rounds binary64 w p false false vu pu Q (pow_pos 1074) halves.y-size P ∙ sum_like binary64 false false vu pu Q refl

  one-two : Rises half (add binary64 half p)
  one-two = record { a = hu; b = hu + pu; c = Q; positive = pow_pos 1074; x-is = half_is; y-is = second_is'; order = wider hu pu }
    where
      wider : (a b : ℕ) → a ≤ a + b
      wider a b = omega arith

  two-three : Rises (add binary64 half p) (add binary64 w p)
  two-three = record { a = hu + pu; b = vu + pu; c = Q; positive = pow_pos 1074; x-is = second_is'; y-is = third-is; order = more hu vu pu halves.order }

  -- the third time times the rate is no infinity
  no_overflow : mul binary64 (t3 w p o rate dt) rate ≡ inf false → ⊥
  unfolding index_at
  no_overflow e = let l = over (mul binary64 (t3 w p o rate dt) rate) e in lt_irrefl last (subst (λ (n : ℕ). n < last) l within)

  third-finite : T (finite (add binary64 w p))
  third-finite =
      subst (λ (z : Float). T (finite z)) (sym third-is)
      (elim (round-either false (vu + pu) Q) [ inl t ↦ t | inr e ↦ absurd (no_overflow (rate-over _ rate ru R some (sub-over _ off s ou O (third-is ∙ e)))) ])

  lower-finite : (x y : Float) → Rises x y → T (finite y) → T (finite x)
  lower-finite x y r t = let z = sizes x y r t in value-finite x false z.m z.x-size

  first-second : Rises (t1 w p o rate dt) (t2 w p o rate dt)
  first-second = less half (add binary64 half p) off s ou O one-two (lower-finite _ _ two-three third-finite) reaches

  second-third : Rises (t2 w p o rate dt) (t3 w p o rate dt)
  second-third =
      less (add binary64 half p) (add binary64 w p) off s ou O two-three third-finite
      (not_negative (t2 w p o rate dt) first-second.b first-second.c first-second.y-is)

  t3-finite : T (finite (t3 w p o rate dt))
  t3-finite =
      subst (λ (z : Float). T (finite z)) (sym second-third.y-is)
      (elim (round-either false second-third.b second-third.c) [ inl t ↦ t | inr e ↦ absurd (no_overflow (rate-over _ rate ru R some (second-third.y-is ∙ e))) ])

  t2-finite : T (finite (t2 w p o rate dt))
  t2-finite = lower-finite (t2 w p o rate dt) (t3 w p o rate dt) second-third t3-finite

  start-end : Rises (mul binary64 (t1 w p o rate dt) rate) (mul binary64 (t2 w p o rate dt) rate)
  start-end = times (t1 w p o rate dt) (t2 w p o rate dt) rate ru R first-second t2-finite

  end-length : Rises (mul binary64 (t2 w p o rate dt) rate) (mul binary64 (t3 w p o rate dt) rate)
  end-length = times (t2 w p o rate dt) (t3 w p o rate dt) rate ru R second-third t3-finite

  length-finite : T (finite (mul binary64 (t3 w p o rate dt) rate))
  length-finite =
      subst (λ (z : Float). T (finite z)) (sym end-length.y-is)
      (elim (round-either false end-length.b end-length.c) [ inl t ↦ t | inr e ↦ absurd (no_overflow (end-length.y-is ∙ e)) ])

  pub in_order_lem : in_order (index_at (t1 w p o rate dt) rate) (index_at (t2 w p o rate dt) rate) (index_at (t3 w p o rate dt) rate) ≡ true
  unfolding index_at
  in_order_lem =
      let a = index-rises (mul binary64 (t1 w p o rate dt) rate) (mul binary64 (t2 w p o rate dt) rate) start-end (lower-finite _ _ end-length length-finite) in
      let b = index-rises (mul binary64 (t2 w p o rate dt) rate) (mul binary64 (t3 w p o rate dt) rate) end-length length-finite in
      rw (le-leb _ _ a, le-leb _ _ b)
