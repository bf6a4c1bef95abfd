-- A bin that a command opens is good: a malformed number and a width below 0 are refused by 2, a plateau below 0 by 6, a total or a plateau that is
-- not finite by 8, before anything is stored. Read off a step, check by check. Assumes nothing.
use Rattle.std.specs.Prelude.{Option, Some, None}
use Rattle.pulse.specs.declared.weight.Weight.{Weight}
use Prim.Native.Nat.{ℕ, ◌+◌, ◌-◌, ◌*◌, ◌^◌, ◌<◌, compare, Ordering}
use native.Mathlib.Omega.{arith}
use native.Mathlib.Nat.{mul-pos, zero-mul, zero-lt-suc}
use mathlib.Core.Path.{◌≡◌, refl, sym, ap, subst, ◌∙◌}
use mathlib.Core.Bool.{Bool, true, false, ◌&&◌, not, cond, true≢false}
use mathlib.Core.List.{List, ◌++◌}
use lib.Dec.{T}
use lib.IntN.{ℤ, pos}
use lib.Pow.{pow_pos}
use lib.Ieee.{Float, nan, inf, fin, binary64, up, down, round, sum, add, lt, eq, of_bits}
use lib.Ieee.Exact.{HasValue}
use lib.Ieee.Fits.{down_pos}
use lib.Ieee.Scale.{finite, grid, round_same}
use borrow.Author.Tests.{ltb-false, le-ltb}
use Rattle.exact.specs.Doubles.{nought}
use Rattle.exact.proofs.Compare.{lt-is}
use Rattle.exact.proofs.Order.{compared, Stands}
use Rattle.exact.proofs.Rounding.{round-value}
use Rattle.exact.proofs.Sum.{sum_like, sum_first, sum-second, sum-none}
use Rattle.exact.proofs.Truth.{both}
use Rattle.naming.specs.Name.{same_name}
use Rattle.naming.specs.declared.Name.{Name}
use Rattle.quant.specs.declared.refusal.Refusal.TheVariants.{Malformed, Full, Oversize, NegativePlateau, NotFinite}
use Rattle.quant.specs.declared.quantity.Frequency.{Frequency}
use Rattle.executor.specs.Osc.{swapped_phases}
use Rattle.pulse.specs.declared.bin.Bin.{Bin}
use Rattle.pulse.specs.declared.envelope.Envelope.{Envelope}
use Rattle.pulse.specs.declared.envelope.Shape.{Shape}
use Rattle.pulse.specs.declared.envelope.Shape.TheVariants.{Plain}
use Rattle.pulse.specs.Bin.{head_of, bin_of, kind_of, place_of, GoodBin}
use Rattle.pulse.specs.Envelope.{parts, is_shaped, envelope_of}
use Rattle.pulse.specs.Weight.{negligible, weighed_of}
use Rattle.pulse.proofs.Rows.{bin-again}
use Rattle.tables.specs.declared.Tables.{Tables}
use Rattle.tables.specs.Tables.{found, shape_found, channel_at}
use Rattle.commands.specs.declared.command.Play.{Play}
use Rattle.commands.specs.declared.command.Command.{Command}
use Rattle.commands.specs.declared.command.Command.TheVariants as C
use Rattle.commands.specs.declared.command.Arranged.{Arranged}
use Rattle.commands.specs.declared.step.Step.{Step}
use Rattle.commands.specs.Command.{good_names, good_numbers, good, well_formed, too_long}
use Rattle.commands.specs.Step.{no_spline, numbers_at, stops, goes_on, with_osc, moved_by, turned_at, swapped_at, swapped_between}
use Rattle.commands.specs.Play.{rows_of, is_new, is_full, stores, stored_with, plateau_of, bin_for, spline_for, played_at, played_as, played_by, played, played_with}
use Rattle.commands.specs.Run.{acted, step_of}

-- ---- a sum of two numbers that are not below 0 is not below 0

zero-value : (c : ℕ) → HasValue nought false 0 c
unfolding of_bits
zero-value c = (refl, zero-mul c)

-- a negative zero is the one negative number that is not below 0
no_size : (m n : ℕ) → m ≡ 0 → m * n ≡ 0
no_size m n e = ap (λ (k : ℕ). k * n) e ∙ zero-mul n

rounded : (u : Bool) (k c : ℕ) → 0 < c → (u ≡ true → k ≡ 0) → finite (round binary64 u k c) ≡ true → lt (round binary64 u k c) nought ≡ false
unfolding round lt of_bits
rounded false k c h none t =
    let g = grid binary64 k c in
    lt-is (round binary64 false k c) nought false false g 0 (2 ^ 1074) (pow_pos 1074) (round-value false k c (subst T (sym t) tt)) (zero-value (2 ^ 1074)) ∙ le-ltb g 0 (omega arith)
rounded true k c h none t =
    let is : round binary64 true k c ≡ fin true 0 (pos 0) = ap (λ (n : ℕ). round binary64 true n c) (none refl) ∙ round_same binary64 true 0 c 0 1 h (zero-lt-suc 0) (zero-mul 1 ∙ sym (zero-mul c)) in
    ap (λ (x : Float). lt x nought) is

module _ (a b c : ℕ) (h : 0 < c) where
  via : (x : Float) (u : Bool) (k : ℕ) → x ≡ round binary64 u k c → (u ≡ true → k ≡ 0) → finite x ≡ true → lt x nought ≡ false
  via x u k is none f = ap (λ (z : Float). lt z nought) is ∙ rounded u k c h none (sym (ap finite is) ∙ f)

  plus : {A : Type 0} → false ≡ true → A
  plus e = absurd (true≢false (sym e))

  summed : (s t : Bool) → (s ≡ true → a ≡ 0) → (t ≡ true → b ≡ 0) → finite (sum binary64 s a t b c) ≡ true → lt (sum binary64 s a t b c) nought ≡ false
  summed false false p q f = via (sum binary64 false a false b c) false (a + b) (sum_like binary64 false false a b c refl) plus f
  summed true true p q f = via (sum binary64 true a true b c) true (a + b) (sum_like binary64 true true a b c refl) (λ e. let x = p refl in let y = q refl in omega (arith, x, y)) f
  summed false true p q f = by (compare a b) (compared a b)
    where
      by : (o : Ordering) → Stands o a b → lt (sum binary64 false a true b c) nought ≡ false
      by Ordering.lt k = let y = q refl in absurd (omega (arith, y, k))
      by Ordering.eq k = via (sum binary64 false a true b c) false 0 (sum-none binary64 false true a b c refl k) plus f
      by Ordering.gt k = via (sum binary64 false a true b c) false (a - b) (sum_first binary64 false true a b c refl k) plus f
  summed true false p q f = by (compare a b) (compared a b)
    where
      by : (o : Ordering) → Stands o a b → lt (sum binary64 true a false b c) nought ≡ false
      by Ordering.lt k = via (sum binary64 true a false b c) false (b - a) (sum-second binary64 true false a b c refl k) plus f
      by Ordering.eq k = via (sum binary64 true a false b c) false 0 (sum-none binary64 true false a b c refl k) plus f
      by Ordering.gt k = let x = p refl in absurd (omega (arith, x, k))

-- of a number with a sign that is not below 0
no-units : (s : Bool) (m : ℕ) (e : ℤ) → lt (fin s m e) nought ≡ false → s ≡ true → m * up e ≡ 0
no-units false m e p z = absurd (true≢false (sym z))
no-units true m e p z =
    let a = m * up e in
    let none = ltb-false 0 (a + 0) (sym (lt-is (fin true m e) nought true false a 0 (down e) (down_pos e) (refl, refl) (zero-value (down e))) ∙ p) in
    omega (arith, none)

added-up : (x y : Float) → lt x nought ≡ false → lt y nought ≡ false → finite (add binary64 x y) ≡ true → lt (add binary64 x y) nought ≡ false
unfolding add
added-up nan y p q f = absurd (true≢false (sym f))
added-up (inf s) nan p q f = absurd (true≢false (sym f))
added-up (inf true) (inf true) p q f = absurd (true≢false (sym f))
added-up (inf true) (inf false) p q f = absurd (true≢false (sym f))
added-up (inf false) (inf true) p q f = absurd (true≢false (sym f))
added-up (inf false) (inf false) p q f = absurd (true≢false (sym f))
added-up (inf s) (fin t n d) p q f = absurd (true≢false (sym f))
added-up (fin s m e) nan p q f = absurd (true≢false (sym f))
added-up (fin s m e) (inf t) p q f = absurd (true≢false (sym f))
added-up (fin s m e) (fin t n d) p q f =
    summed (m * up e * down d) (n * up d * down e) (down e * down d) (mul-pos (down_pos e) (down_pos d)) s t
    (λ z. no_size (m * up e) (down d) (no-units s m e p z))
    (λ z. no_size (n * up d) (down e) (no-units t n d q z))
    f

-- ---- the bin of a play

none : {A : Type 0} → false ≡ true → A
none e = absurd (true≢false (sym e))

module _ (w q : Float) (g l : Frequency) (w-known : finite w ≡ true) (g_known : finite g.0 ≡ true) (l-known : finite l.0 ≡ true) (w-low : lt w nought ≡ false) (q-low : lt q nought ≡ false) where
  abbrev with_envelope : Envelope → Bin
  with_envelope e = record { envelope = e; global = g; local = l }

  -- of a width that is kept
  wide_good : (kind : Shape) → (is_shaped kind ≡ true → eq w nought ≡ false) → finite q ≡ true → GoodBin (with_envelope (parts kind w q))
  wide_good kind nonzero f =
      record {
        finite-width = w-known;
        finite-plateau = f;
        finite-global = g_known;
        finite-local = l-known;
        width = w-low;
        plateau = q-low;
        shaped = nonzero;
      }

  with-good : (kind : Shape) → finite (envelope_of kind w q).plateau.0 ≡ true → GoodBin (with_envelope (envelope_of kind w q))
  unfolding envelope_of lt of_bits
  with-good kind f = by (is_shaped kind) f
    where
      by_width : (b : Bool) → eq w nought ≡ b → finite (cond b (parts Plain w q) (parts kind w q)).plateau.0 ≡ true → GoodBin (with_envelope (cond b (parts Plain w q) (parts kind w q)))
      by_width true e f = wide_good Plain none f
      by_width false e f = wide_good kind (λ _. e) f

      by : (b : Bool) → finite (cond b (cond (eq w nought) (parts Plain w q) (parts kind w q)) (parts Plain nought (add binary64 q w))).plateau.0 ≡ true
          → GoodBin (with_envelope (cond b (cond (eq w nought) (parts Plain w q) (parts kind w q)) (parts Plain nought (add binary64 q w))))
      by true f = by_width (eq w nought) refl f
      by false f =
          record {
            finite-width = refl;
            finite-plateau = f;
            finite-global = g_known;
            finite-local = l-known;
            width = refl;
            plateau = added-up q w q-low w-low f;
            shaped = none;
          }

not-true : (b : Bool) → not b ≡ true → b ≡ false
not-true true e = absurd (true≢false (sym e))
not-true false e = refl

module _ (t : Tables) (i : ℕ) (kind : Shape) (p : Play) (span : Float) (numbers : good_numbers p ≡ true) (low : lt (plateau_of p span) nought ≡ false) where
  -- what 2 has let pass: width and frequency are finite, and the width is not below 0
  abbrev six : Bool
  six = finite p.amplitude.0 && finite p.width.0 && finite p.plateau.0 && finite p.drag && finite p.frequency.0 && finite p.phase.0

  play-good : (finite (bin_for t i kind p span).global.0 && finite (bin_for t i kind p span).envelope.plateau.0) ≡ true → GoodBin (bin_for t i kind p span)
  play-good e =
      let b = bin_for t i kind p span in
      let fine = both (finite b.global.0) (finite b.envelope.plateau.0) e in
      let h = both six (not (lt p.width.0 nought)) numbers in
      let five = both (finite p.amplitude.0 && finite p.width.0 && finite p.plateau.0 && finite p.drag && finite p.frequency.0) (finite p.phase.0) h.0 in
      let four = both (finite p.amplitude.0 && finite p.width.0 && finite p.plateau.0 && finite p.drag) (finite p.frequency.0) five.0 in
      let three = both (finite p.amplitude.0 && finite p.width.0 && finite p.plateau.0) (finite p.drag) four.0 in
      let two = both (finite p.amplitude.0 && finite p.width.0) (finite p.plateau.0) three.0 in
      let one = both (finite p.amplitude.0) (finite p.width.0) two.0 in
      with-good p.width.0 (plateau_of p span) b.global p.frequency one.1 fine.0 four.1 (not-true (lt p.width.0 nought) h.1) low kind fine.1

-- ---- a step, check by check

-- if it opens a bin, a good one, whatever numbers stand behind its head
abbrev pub Opens : Step → Type 0
Opens s = s.opens ≡ true → (numbers : List Float) → GoodBin (bin_of (s.head ++ numbers))

one_of : (b : Bool) (x y : Step) → (b ≡ true → Opens x) → (b ≡ false → Opens y) → Opens (cond b x y)
one_of true x y h k = h refl
one_of false x y h k = k refl

module _ (t : Tables) where
  turned-opens : (f : Option ℕ) (c : Command) (time : Float) → Opens (turned_at t f c time)
  unfolding turned_at
  turned-opens None c time = none
  turned-opens (Some i) c time = let m = moved_by c time (channel_at t i).osc in one_of m.refused (stops t NotFinite) (goes_on (with_osc t i m.osc)) (λ _. none) (λ _. none)

  swapped-at-opens : (f g : Option ℕ) (time : Float) → Opens (swapped_at t f g time)
  unfolding swapped_at
  swapped-at-opens None g time = none
  swapped-at-opens (Some i) None time = none
  swapped-at-opens (Some i) (Some j) time =
      let x = swapped_phases (channel_at t i).osc (channel_at t j).osc time in
      one_of x.refused (stops t NotFinite) (goes_on (with_osc (with_osc t i x.one) j x.two)) (λ _. none) (λ _. none)

  swapped-opens : (n m : Name) (time : Float) → Opens (swapped_between t n m time)
  swapped-opens n m time =
      let x = swapped_at t (found t n) (found t m) time in
      one_of (same_name n m) (goes_on t) x (λ _. none) (λ _. swapped-at-opens (found t n) (found t m) time)

  module _ (splines bins : List (List Float)) where
    stored-opens : (i : ℕ) (start : Float) (w : Option Weight) (b : Bin) (spline : ℕ) → GoodBin b → Opens (stored_with t splines bins i start w (head_of b) spline)
    unfolding stored_with
    stored-opens i start None b spline h = none
    stored-opens i start (Some w) b spline h =
        let place = place_of (head_of b ++ numbers_at splines spline) (rows_of t bins i) in
        one_of (is_full t bins i place) (stops t Full) (stores t i place (is_new t bins i place) start w (head_of b) spline)
        (λ _. none)
        (λ _ _ numbers. subst GoodBin (sym (bin-again b numbers)) h)

    module _ (start span : Float) (p : Play) (numbers : good_numbers p ≡ true) where
      played-at-opens : (kind : Shape) (k : ℕ) → lt (plateau_of p span) nought ≡ false → (f : Option ℕ) → Opens (played_at t splines bins f start span p kind k)
      unfolding played_at
      played-at-opens kind k low None = none
      played-at-opens kind k low (Some i) =
          let b = bin_for t i kind p span in
          let w = weighed_of p.amplitude.0 p.phase.0 p.drag in
          let spline = spline_for b.envelope.shape k in
          let storing = stored_with t splines bins i start w (head_of b) spline in
          let quiet = negligible p.amplitude.0 t.amp.0 in
          one_of (finite b.global.0 && finite b.envelope.plateau.0) (cond quiet (goes_on t) storing) (stops t NotFinite)
          (λ e. one_of quiet (goes_on t) storing (λ _. none) (λ _. stored-opens i start w b spline (play-good t i kind p span numbers low e)))
          (λ _. none)

      played_as_opens : (kind : Shape) (k : ℕ) → Opens (played_as t splines bins start span p kind k)
      played_as_opens kind k =
          let f = found t p.channel in
          one_of (lt (plateau_of p span) nought) (stops t NegativePlateau) (played_at t splines bins f start span p kind k)
          (λ _. none)
          (λ e. played-at-opens kind k e f)

      played-by-opens : (f : Option ℕ) → Opens (played_by t splines bins f start span p)
      unfolding played_by
      played-by-opens None = none
      played-by-opens (Some k) = played_as_opens (kind_of (numbers_at splines k)) k

      played-opens : Opens (played t splines bins start span p)
      played-opens = by p.shape
        where
          by : (n : Option Name) → Opens (played_with t splines bins n start span p)
          by None = played_as_opens Plain no_spline
          by (Some n) = played-by-opens (shape_found t n)

    acted-opens : (start span : Float) (c : Command) → good c ≡ true → Opens (acted t splines bins start span c)
    unfolding acted good
    acted-opens start span (C.Play p) e = played-opens start span p (both (good_names p) (good_numbers p) e).1
    acted-opens start span (C.ShiftPhase n x) e = turned-opens (found t n) (C.ShiftPhase n x) start
    acted-opens start span (C.SetPhase n x) e = turned-opens (found t n) (C.SetPhase n x) start
    acted-opens start span (C.ShiftFreq n x) e = turned-opens (found t n) (C.ShiftFreq n x) start
    acted-opens start span (C.SetFreq n x) e = turned-opens (found t n) (C.SetFreq n x) start
    acted-opens start span (C.SwapPhase n m) e = swapped-opens n m start
    acted-opens start span C.Barrier e = none

    pub step-opens : (a : Arranged) → Opens (step_of t splines bins a)
    step-opens a =
        let x = acted t splines bins a.start.0 a.span.0 a.command in
        one_of (well_formed a) (cond (too_long t a) (stops t Oversize) x) (stops t Malformed)
        (λ e.
        one_of (too_long t a) (stops t Oversize) x (λ _. none)
        (λ _. acted-opens a.start.0 a.span.0 a.command (both (finite a.start.0 && finite a.span.0) (good a.command) e).1))
        (λ _. none)
