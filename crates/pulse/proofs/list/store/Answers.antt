-- The loop goes on where the last record gives way, and ends at the first record's slot or behind one that stays.
use Rattle.std.proofs.Common.{◌≡◌, ◌+◌, ◌-◌, ◌<◌, suc, length, sym, ◌∙◌, arith}
use borrow.Author.Tests.{ltb-true, ltb-false}
use Rattle.pulse.proofs.Placed.{at_from, behind, before}
use Rattle.pulse.proofs.Stored.{stored-room, stored-full}
use Rattle.pulse.proofs.list.store.Goals as goal
use Rattle.pulse.proofs.list.store.Goals.{else-loop-i-test, then-loop-i-test+else-not-stays_before}

pub loop-i-preserved : goal.loop-i-preserved
loop-i-preserved c =
    let room : c.args.from + c.args.count < length c.args.pulses.now = ltb-true _ _ (sym c.if-has_room.ensures) in
    let n = c.loop-i.i - 1 - c.args.from in
    let is : c.loop-i.i ≡ c.args.from + suc n = omega arith in
    let inside : c.loop-i.i < length c.loop-i.pulses = omega arith in
    record {
      above = omega arith;
      within = omega arith;
      rest = before c.args.from c.args.p c.loop-i.pulses c.loop-i.i n is inside (sym c.if-not-stays_before.ensures) ∙ c.loop-i.invariant.rest;
    }

pub returns-after-loop-i : goal.returns-after-loop-i
returns-after-loop-i c =
    let room : c.args.from + c.args.count < length c.args.pulses.now = ltb-true _ _ (sym c.if-has_room.ensures) in
    let inside : c.loop-i.i < length c.loop-i.pulses = omega arith in
    let n = c.loop-i.i - 1 - c.args.from in
    let done = c.loop-i.invariant.rest ∙ sym (stored-room c.args.from c.args.count c.args.p c.args.pulses.now room) in
    elim c.loop-i-test.branch [
      | else-loop-i-test w ↦ at_from c.args.from c.args.p c.loop-i.pulses c.loop-i.i (omega arith) inside ∙ done
      | then-loop-i-test+else-not-stays_before w ↦
          behind c.args.from c.args.p c.loop-i.pulses c.loop-i.i n (omega arith) inside (sym w.if-not-stays_before.ensures) ∙ done
    ]

pub returns-else-has_room : goal.returns-else-has_room
returns-else-has_room c =
    sym (stored-full c.args.from c.args.count c.args.p c.args.pulses.now (ltb-false _ _ (sym c.if-has_room.ensures)))
