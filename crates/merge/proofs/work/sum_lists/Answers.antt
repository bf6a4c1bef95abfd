-- A turn is one list more (`next` in `proofs/Lists.antt`).
use Rattle.std.proofs.Common.{◌≡◌, ◌+◌, ◌-◌, ◌<◌, length, sym, refl, arith}
use Rattle.merge.specs.Keep.{lists_in}
use Rattle.merge.proofs.Lists.{Upto, sizes, begun, next, over-all}
use Rattle.merge.proofs.work.sum_lists.Goals as goal
use Rattle.merge.proofs.work.sum_lists.Goals.{At-loop-k}

-- where the loop stands
abbrev upto : (c : At-loop-k) → Upto c.args.t c.args.taking c.args.pulses.now c.args.work.now c.args.marks.now
upto c = record {
  k = c.loop-k.k;
  at = c.loop-k.at;
  ys = c.loop-k.work;
  ms = c.loop-k.marks;
  es = c.loop-k.ends;
  within = c.loop-k.invariant.within;
  near = c.loop-k.invariant.near;
  long-w = c.loop-k.auto.work;
  long-m = c.loop-k.auto.marks;
  long-e = c.loop-k.invariant.long_e;
  left = c.loop-k.invariant.left;
}

pub loop-k-init : goal.loop-k-init
unfolding begun
loop-k-init c =
    let a = c.args in
    let u = begun a.t a.taking a.pulses.now a.work.now a.marks.now c.no_ends-ends.result c.no_ends-ends.ensures (sym c.if-not-sizes_fit.ensures) in
    record { within = u.within; near = u.near; long_e = u.long-e; left = u.left }

pub loop-k-preserved : goal.loop-k-preserved
unfolding next
loop-k-preserved c =
    let a = c.args in
    let p : length a.taking.places ≡ 8 = omega arith in
    let f : length a.taking.factors ≡ 8 = omega arith in
    let s = sizes (length a.pulses.now) (length a.work.now) (length a.marks.now) (sym c.if-not-sizes_fit.ensures) in
    let less : c.loop-k.k < lists_in a.taking = omega (arith, c.lists_in-k-end.ensures) in
    let r = c.sum_list-at in
    let x = c.span_of-from.result in
    let same : x.from + x.count - x.from ≡ x.count = omega arith in
    let lays = rw (same, c.span_of-from.ensures) at r.ensures in
    let u = next a.t a.taking a.pulses.now a.work.now a.marks.now p f s (upto (goal.at.loop-k-preserved c).At-loop-k) less r.result r.new.work r.new.marks _ lays r.auto.work r.auto.marks refl in
    record { within = u.within; near = u.near; long_e = u.long-e; left = u.left }

pub returns : goal.returns
returns c =
    let a = c.args in
    let p : length a.taking.places ≡ 8 = omega arith in
    let f : length a.taking.factors ≡ 8 = omega arith in
    let s = sizes (length a.pulses.now) (length a.work.now) (length a.marks.now) (sym c.if-not-sizes_fit.ensures) in
    over-all a.t a.taking a.pulses.now a.work.now a.marks.now p f s (upto (goal.at.returns c).At-loop-k) (omega (arith, c.lists_in-k-end.ensures))
