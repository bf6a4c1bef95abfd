-- Of two numbers, one is at most the other: `le` is total where no NaN stands. So of two records with times, one stays before the other.
-- Assumes nothing.
use Prim.Native.Nat.{ℕ, ◌+◌, ◌*◌, ◌≤◌}
use mathlib.Core.Path.{◌≡◌, refl, sym, ◌∙◌}
use mathlib.Core.Bool.{Bool, true, false, ◌&&◌, ◌||◌, true≢false, and-true}
use native.Mathlib.Omega.{arith}
use borrow.Author.Tests.{ltb-false, eqb-false, eqb-true, lt-ltb, eq-eqb}
use lib.Arith.{lt_of_le-ne}
use lib.Dec.{ltb, eqb}
use lib.Ieee.{Float, nan, inf, fin, up, down, below, level, lt, eq, le, is_nan}
use Rattle.pulse.specs.declared.list.Pulse.{Pulse}
use Rattle.pulse.specs.List.{stays_before}

-- both parts of an `or` that is false
pub none_left : (x y : Bool) → (x || y) ≡ false → x ≡ false
none_left true y e = e
none_left false y e = refl

pub none_right : (x y : Bool) → (x || y) ≡ false → y ≡ false
none_right true y e = absurd (true≢false e)
none_right false y e = e

unlike : (a b : ℕ) → (eqb a b && true) ≡ false → a ≡ b → ⊥
unlike a b h = eqb-false a b (sym (and-true (eqb a b)) ∙ h)

both-nought : (a b : ℕ) → a ≡ 0 → b ≡ 0 → (eqb a b && eqb a 0) ≡ false → ⊥
both-nought a b g h e = true≢false (rw (g, h) at e)

-- whole numbers with a sign
other : (s t : Bool) (a b : ℕ) → (below s a t b || level s a t b) ≡ false → (below t b s a || level t b s a) ≡ true
other false false a b e = rw (lt-ltb b a (lt_of_le-ne (ltb-false a b (none_left (ltb a b) (level false a false b) e)) (λ h. unlike a b (none_right (ltb a b) (level false a false b) e) (sym h))))
other false true a b e = by-sum (eqb (b + a) 0) refl where
  by-sum : (z : Bool) → eqb (b + a) 0 ≡ z → (ltb 0 (b + a) || level true b false a) ≡ true
  by-sum true t = absurd (both-nought a b (omega (arith, eqb-true (b + a) 0 t)) (omega (arith, eqb-true (b + a) 0 t)) e)
  by-sum false t = rw (lt-ltb 0 (b + a) (omega (arith, eqb-false (b + a) 0 t)))
other true false a b e =
    let z : a + b ≤ 0 = ltb-false 0 (a + b) (none_left (ltb 0 (a + b)) (level true a false b) e) in
    absurd (both-nought a b (omega arith) (omega arith) (none_right (ltb 0 (a + b)) (level true a false b) e))
other true true a b e = rw (lt-ltb a b (lt_of_le-ne (ltb-false b a (none_left (ltb b a) (level true a true b) e)) (unlike a b (none_right (ltb b a) (level true a true b) e))))

pub le-other : (x y : Float) → is_nan x ≡ false → is_nan y ≡ false → le x y ≡ false → le y x ≡ true
unfolding le lt eq is_nan
le-other nan y g h e = absurd (true≢false g)
le-other (inf s) nan g h e = absurd (true≢false h)
le-other (fin s m d) nan g h e = absurd (true≢false h)
le-other (inf true) (inf true) g h e = refl
le-other (inf true) (inf false) g h e = absurd (true≢false e)
le-other (inf false) (inf true) g h e = refl
le-other (inf false) (inf false) g h e = refl
le-other (inf true) (fin t n d) g h e = absurd (true≢false e)
le-other (inf false) (fin t n d) g h e = refl
le-other (fin s m d) (inf true) g h e = refl
le-other (fin s m d) (inf false) g h e = absurd (true≢false e)
le-other (fin s m d) (fin t n k) g h e = other s t (m * up d * down k) (n * up k * down d) e

-- of two records whose times are numbers, one stays before the other
pub other-stays : (q p : Pulse) → is_nan q.time.0 ≡ false → is_nan p.time.0 ≡ false → stays_before q p ≡ false → stays_before p q ≡ true
other-stays q p g h e = by-bins (ltb p.bin q.bin) refl where
  by-bins : (b : Bool) → ltb p.bin q.bin ≡ b → stays_before p q ≡ true
  by-bins true t = rw t
  by-bins false t =
      let one-bin : q.bin ≡ p.bin = omega (arith, ltb-false p.bin q.bin t, ltb-false q.bin p.bin (none_left (ltb q.bin p.bin) (eqb q.bin p.bin && le q.time.0 p.time.0) e)) in
      let later : le q.time.0 p.time.0 ≡ false = rw (eq-eqb q.bin p.bin one-bin) at (none_right (ltb q.bin p.bin) (eqb q.bin p.bin && le q.time.0 p.time.0) e) in
      rw (t, eq-eqb p.bin q.bin (sym one-bin), le-other q.time.0 p.time.0 g h later)
