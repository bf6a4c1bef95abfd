-- `fma::pack::nearest_double` meets its contract: nothing is a zero, and all else goes to `finish`, 64 powers of two higher. Assumes nothing.
use Rattle.std.proofs.Common.{◌≡◌, ℕ, ◌+◌, ◌*◌, ◌^◌, sym, ap, ◌∙◌, mul_assoc, zero-mul, arith, lit<, pow_pos, pow-add}
use lib.Ieee.{binary64, round}
use lib.Ieee.Scale.{round_same}
use Rattle.fma.specs.Words.{words}
use Rattle.fma.specs.Sticky.{Whole}
use Rattle.fma.proofs.StickyBit.{sticky-scale}
use Rattle.fma.proofs.pack.nearest_double.Goals as goal

raised : (n x s : ℕ) → Whole n x s → Whole n (x + 64) (s * 2 ^ 64)
raised n x s w =
    record {
      sticky = sticky-scale n x 64 s w.sticky;
      clean = λ h. ap (λ (y : ℕ). n * y) (pow-add 2 x 64) ∙ sym (mul_assoc n (2 ^ x) (2 ^ 64)) ∙ ap (λ (y : ℕ). y * 2 ^ 64) (w.clean h);
    }

pub returns-then-l-eq0 : goal.returns-then-l-eq0
returns-then-l-eq0 c =
    let args = c.args in
    let h : args.h ≡ 0 = c.if-h-eq0.true in
    let l : args.l ≡ 0 = c.if-l-eq0.true in
    λ s w.
    let none : words args.h args.l ≡ 0 = omega arith in
    let zero : 0 ≡ s = sym (zero-mul (2 ^ args.x)) ∙ ap (λ (y : ℕ). y * 2 ^ args.x) (sym none) ∙ w.clean (omega arith) in
    c.nought.ensures ∙ round_same binary64 args.negative 0 1 0 (2 ^ 2208) (lit< tt) (pow_pos 2208) (zero-mul (2 ^ 2208) ∙ sym (zero-mul 1)) ∙ ap (λ (y : ℕ). round binary64 args.negative y (2 ^ 2208)) zero

pub returns : goal.returns
returns c =
    let args = c.args in
    λ s w.
    c.finish.ensures (s * 2 ^ 64) (raised (words args.h args.l) args.x s w)
    ∙ round_same binary64 args.negative (s * 2 ^ 64) (2 ^ 2272) s (2 ^ 2208) (pow_pos 2272) (pow_pos 2208) (mul_assoc s (2 ^ 64) (2 ^ 2208) ∙ ap (λ (y : ℕ). s * y) (sym (pow-add 2 64 2208)))
