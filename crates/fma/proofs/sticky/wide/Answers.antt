-- `fma::sticky::wide` meets its contract: by no bit, within a word, by a word and then within it, or all of it. Assumes nothing.
use Rattle.std.proofs.Common.{ℕ, ◌-◌, ◌^◌, sym, subst, lt_of_lt_of_le, zero-add, sub-add_cancel, pow_mono}
use lib.Arith.{digits_lt}
use Rattle.fma.specs.Words.{words}
use Rattle.fma.specs.Sticky.{Sticky}
use Rattle.fma.proofs.StickyBit.{sticky-via, sticky-one}
use Rattle.fma.proofs.sticky.wide.Goals as goal

pub returns-then-s-lt128 : goal.returns-then-s-lt128
returns-then-s-lt128 c =
    let a = c.args in
    let n = words a.h a.l in
    let w = c.word-v.result in
    subst (λ (x : ℕ). Sticky x a.s n) (sym (zero-add w))
    (subst (λ (x : ℕ). Sticky w x n) (sub-add_cancel {n = a.s} {m = 64} c.if-s-lt64.false) (sticky-via w c.upper-u.result n (a.s - 64) 64 c.word-v.ensures c.upper-u.ensures))

pub returns : goal.returns
returns c =
    let a = c.args in
    sticky-one (words a.h a.l) a.s c.requires (lt_of_lt_of_le (digits_lt {q = a.h} {m = 2 ^ 64} {r = a.l} {c = 2 ^ 64} c.ranges.h.fits c.ranges.l.fits) (pow_mono {i = 128} {j = a.s} c.if-s-lt128.false))
