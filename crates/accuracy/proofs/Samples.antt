-- THE ERROR OF A PLATEAU PULSE. Mixed alone onto a row of zeros, sample k of the pulse, k up to 65,535, lies within (k + 1) 2 ^ -49 m of the exact
-- product: it is a zero of either sign plus a part of the carrier after k steps. Assumes nothing.
use mathlib.Core.Path.{◌≡◌, sym, subst}
use mathlib.Core.Bool.{true}
use mathlib.Core.List.{List}
use Prim.Native.Nat.{ℕ, zero, suc, ◌+◌, ◌*◌, ◌^◌, ◌≤◌, ◌<◌}
use native.Mathlib.Omega.{arith}
use lib.Dec.{T}
use lib.ListN.{length, get_or}
use lib.Ieee.{Float, nan, binary64, fits, add, mul, eq}
use lib.Ieee.Fits.{add-fits, sub-fits}
use Rattle.exact.specs.Doubles.{nought}
use Rattle.exact.specs.Signed.{Signed, Apart, times}
use Rattle.quant.specs.declared.complex.Complex.{Complex}
use Rattle.quant.specs.Complex.{times_c}
use Rattle.mix.specs.Plateau.{carried, carrier_after, real, imaginary}
use Rattle.mix.specs.Part.{on_part}
use Rattle.mix.proofs.Samples.{plateau-at}
use Rattle.accuracy.specs.Exact.{Tame, Near, carrier_exactly, absolute}
use Rattle.accuracy.specs.Call.{ZeroRow}
use Rattle.accuracy.proofs.Carrier.{carrier-near}
use Rattle.accuracy.proofs.Zero.{zero-plus}

-- ---- a zero plus a part of the carrier
near-plus : (z x : Float) (w : Signed) (k m : ℕ) → eq z nought ≡ true → T (fits binary64 x) → Near x w k m → Near (add binary64 z x) w k m
near-plus z x w k m e f h =
    let u = zero-plus z x e f h.is_finite in
    record {
      is_finite = u.is_finite;
      apart = subst (λ (v : Signed). Apart (times (2 ^ 49 * (2 ^ 1074) ^ suc k) v) (times (2 ^ 49) w) (suc k * m * (2 ^ 1074) ^ suc k)) (sym u.value) h.apart;
    }

re-fits : (k : ℕ) (x y d : Complex) → T (fits binary64 (carrier_after k (times_c x y) d).re)
unfolding carrier_after
re-fits zero x y d = sub-fits binary64 (mul binary64 x.re y.re) (mul binary64 x.im y.im)
re-fits (suc k) x y d = let z = carrier_after k (times_c x y) d in sub-fits binary64 (mul binary64 z.re d.re) (mul binary64 z.im d.im)

im-fits : (k : ℕ) (x y d : Complex) → T (fits binary64 (carrier_after k (times_c x y) d).im)
unfolding carrier_after
im-fits zero x y d = add-fits binary64 (mul binary64 x.re y.im) (mul binary64 x.im y.re)
im-fits (suc k) x y d = let z = carrier_after k (times_c x y) d in add-fits binary64 (mul binary64 z.re d.im) (mul binary64 z.im d.re)

-- ---- the row that a plateau leaves where it was a row of zeros
module _ (amp start rotation : Complex) (t : Tame amp start rotation) (len s n k : ℕ) (inside : s + n ≤ len) (below : k < n) (most : k ≤ 65535) (row : List Float) (z : ZeroRow len row) where
  -- the carrier at the pulse's start
  abbrev carrier : Complex
  carrier = times_c start amp

  room : s + n ≤ length row
  room = rw z.long inside

  zero-there : eq (get_or row (s + k) nan) nought ≡ true
  zero-there = z.each (s + k) (omega arith)

  pub real-near : Near (get_or (on_part s n (carried real carrier rotation) row) (s + k) nan) (carrier_exactly amp start rotation k).re k (absolute amp)
  real-near =
      subst (λ (x : Float). Near x (carrier_exactly amp start rotation k).re k (absolute amp)) (sym (plateau-at real carrier rotation s n row room k below))
      (near-plus (get_or row (s + k) nan) (carrier_after k carrier rotation).re (carrier_exactly amp start rotation k).re k (absolute amp) zero-there (re-fits k start amp rotation) (carrier-near amp start rotation t k most).re)

  pub imaginary-near : Near (get_or (on_part s n (carried imaginary carrier rotation) row) (s + k) nan) (carrier_exactly amp start rotation k).im k (absolute amp)
  imaginary-near =
      subst (λ (x : Float). Near x (carrier_exactly amp start rotation k).im k (absolute amp)) (sym (plateau-at imaginary carrier rotation s n row room k below))
      (near-plus (get_or row (s + k) nan) (carrier_after k carrier rotation).im (carrier_exactly amp start rotation k).im k (absolute amp) zero-there (im-fits k start amp rotation) (carrier-near amp start rotation t k most).im)
