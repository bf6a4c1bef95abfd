-- `fma::sticky::short` meets its contract: two words shifted word by word, and what is lost is lost from the lower one. Assumes nothing.
use Rattle.std.proofs.Common.{◌≡◌, ℕ, ◌+◌, ◌-◌, ◌*◌, ◌/◌, ◌%◌, ◌^◌, sym, subst, inl, mod-lt, arith, pow_pos}
use mir.Facts.{Fits-of_lt}
use Rattle.fma.specs.Words.{words}
use Rattle.fma.specs.Sticky.{Sticky, odd-of}
use Rattle.fma.proofs.Words.{lower-lt, shift-words}
use Rattle.fma.proofs.StickyBit.{sticky-cut}
use Rattle.fma.proofs.Shifting.{kept, lost}
use Rattle.fma.proofs.sticky.short.Goals as goal

exact : (q r n : ℕ) → q + r ≡ n → r ≡ 0 → q ≡ n
exact q r n e z = omega arith

odd-words : (h l o : ℕ) → o ≡ odd-of l → words h o ≡ odd-of (words h l)
odd-words h l o e = omega arith

pub overflow_add-lo : goal.overflow_add-lo
overflow_add-lo c = let a = c.args in Fits-of_lt (lower-lt a.h a.l a.s c.ranges.l.fits (omega arith))

pub returns-then-q-s : goal.returns-then-q-s
returns-then-q-s c =
    let hi : ℕ = c.args.h / 2 ^ c.args.s in
    let lo : ℕ = (c.args.h * 2 ^ (64 - c.args.s)) % 2 ^ 64 + c.args.l / 2 ^ c.args.s in
    let parts : words hi lo * 2 ^ c.args.s + c.args.l % 2 ^ c.args.s ≡ words c.args.h c.args.l = shift-words c.args.h c.args.l c.args.s (omega (arith, c.requires)) in
    let a = c.args in
    inl (exact (words hi lo * 2 ^ a.s) (a.l % 2 ^ a.s) (words a.h a.l) parts (kept a.l a.s c.ranges.l.fits c.if-q-s.true))

pub returns-else-q-s : goal.returns-else-q-s
returns-else-q-s c =
    let hi : ℕ = c.args.h / 2 ^ c.args.s in
    let lo : ℕ = (c.args.h * 2 ^ (64 - c.args.s)) % 2 ^ 64 + c.args.l / 2 ^ c.args.s in
    let parts : words hi lo * 2 ^ c.args.s + c.args.l % 2 ^ c.args.s ≡ words c.args.h c.args.l = shift-words c.args.h c.args.l c.args.s (omega (arith, c.requires)) in
    let a = c.args in
    subst (λ (x : ℕ). Sticky x a.s (words a.h a.l)) (sym (odd-words hi lo c.made_odd-odd.result c.made_odd-odd.ensures))
    (sticky-cut (words hi lo) (a.l % 2 ^ a.s) (words a.h a.l) a.s parts (lost a.l a.s c.ranges.l.fits c.if-q-s.false) (mod-lt a.l (pow_pos a.s)))
