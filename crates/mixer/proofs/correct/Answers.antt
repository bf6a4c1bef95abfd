use Prim.Native.Nat.{◌+◌, ◌-◌, ◌*◌}
use native.Mathlib.Omega.{arith}
use mathlib.Core.Path.{◌≡◌, refl}
use lib.ListN.{length}
use borrow.Author.Rules.{rules}
use Rattle.rows.proofs.Turns.{upto}
use Rattle.mixer.proofs.Turning.{one-turn, two-turns, all_done}
use Rattle.mixer.proofs.correct.Goals as goal

pub loop-pair-init : goal.loop-pair-init
unfolding upto
loop-pair-init c = record { equal = c.requires; within = search rules; same_i = refl; same_q = refl; done_i = refl; done_q = refl }

pub loop-pair-preserved : goal.loop-pair-preserved
loop-pair-preserved c =
    let at = c.loop-pair in
    let a = c.args in
    let next : 2 * (at.pair + 1) ≡ 2 * at.pair + 2 = omega arith in
    rw next (two-turns a.i.now a.q.now a.first.m a.first.n a.first.offset a.second.m a.second.n a.second.offset at.i at.q (2 * at.pair) at.invariant (omega arith) c.two.new.i c.two.new.q c.two.ensures.first c.two.ensures.second)

pub returns-then-i-eq1-clause-first : goal.returns-then-i-eq1-clause-first
returns-then-i-eq1-clause-first c =
    let at = c.loop-pair in
    let a = c.args in
    let last = length at.i - 1 in
    let end : 2 * at.pair ≡ last = omega arith in
    (all_done a.i.now a.q.now a.first.m a.first.n a.first.offset a.second.m a.second.n a.second.offset c.one.new.i c.one.new.q (last + 1) (one-turn a.i.now a.q.now a.first.m a.first.n a.first.offset a.second.m a.second.n a.second.offset at.i at.q last (rw end at at.invariant) (omega arith) c.one.new.i c.one.new.q c.one.ensures.first c.one.ensures.second) (omega arith)).0

pub returns-then-i-eq1-clause-second : goal.returns-then-i-eq1-clause-second
returns-then-i-eq1-clause-second c =
    let at = c.loop-pair in
    let a = c.args in
    let last = length at.i - 1 in
    let end : 2 * at.pair ≡ last = omega arith in
    (all_done a.i.now a.q.now a.first.m a.first.n a.first.offset a.second.m a.second.n a.second.offset c.one.new.i c.one.new.q (last + 1) (one-turn a.i.now a.q.now a.first.m a.first.n a.first.offset a.second.m a.second.n a.second.offset at.i at.q last (rw end at at.invariant) (omega arith) c.one.new.i c.one.new.q c.one.ensures.first c.one.ensures.second) (omega arith)).1

pub returns-else-i-eq1-clause-first : goal.returns-else-i-eq1-clause-first
returns-else-i-eq1-clause-first c =
    let at = c.loop-pair in
    let a = c.args in
    (all_done a.i.now a.q.now a.first.m a.first.n a.first.offset a.second.m a.second.n a.second.offset at.i at.q (2 * at.pair) at.invariant (omega arith)).0

pub returns-else-i-eq1-clause-second : goal.returns-else-i-eq1-clause-second
returns-else-i-eq1-clause-second c =
    let at = c.loop-pair in
    let a = c.args in
    (all_done a.i.now a.q.now a.first.m a.first.n a.first.offset a.second.m a.second.n a.second.offset at.i at.q (2 * at.pair) at.invariant (omega arith)).1
