-- `mixdown::onto::add_shaped` meets its contract. Assumes nothing.
use Rattle.mixdown.proofs.Holdings.{holds_after}
use Rattle.mixdown.specs.Sampled.{parts_at}
use Rattle.shape.specs.Envelope.{scratch_after}
use Rattle.std.specs.Prelude.{Float, Some}
use Rattle.std.proofs.Common.{◌≡◌, ℕ, ◌-◌, ◌≤◌, length, sym, ap, ◌∙◌, arith}
use Rattle.mixdown.proofs.onto.add_shaped.Goals as goal

some-same : {a b : Float} → Some a ≡ Some b → a ≡ b
some-same e = cc

pub returns-clause-holds : goal.returns-clause-holds
returns-clause-holds c =
    let a = c.args in
    let room = length a.i.now - a.c.start in
    let less : room ≤ length a.scratch.now = omega (arith, c.requires.2) in
    let held = c.hold.ensures in
    let there : (room' : ℕ) → scratch_after a.b.envelope.shape a.numbers.now (parts_at a.s a.b a.c.offset room') c.hold.new.scratch ≡ c.hold.new.scratch = λ room'. ap (scratch_after a.b.envelope.shape a.numbers.now (parts_at a.s a.b a.c.offset room')) held ∙ holds_after a.s a.b a.numbers.now a.c.offset room a.scratch.now less a.c.points c.requires.1 room' ∙ sym held in
    λ offset e room'. rw (sym (some-same e)) (there room')
