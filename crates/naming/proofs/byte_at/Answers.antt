-- `naming::byte_at` meets its contract: the first eight bytes are those of the first word, the others those of the second.
-- Assumes nothing.
use Prim.Native.Nat.{ℕ, ◌+◌, ◌-◌}
use mathlib.Core.Path.{◌≡◌, ap, ◌∙◌, sym}
use native.Mathlib.Omega.{arith}
use lib.ListN.{get_or}
use Rattle.naming.specs.Name.{sixteen}
use Rattle.naming.proofs.Words.{first-at, second_at}
use Rattle.naming.proofs.byte_at.Goals as goal

pub returns-then-i-lt8 : goal.returns-then-i-lt8
returns-then-i-lt8 c =
    let args = c.args in
    c.byte_of.ensures ∙ sym (first-at args.first args.second args.i c.if-i-lt8.true)

pub returns : goal.returns
returns c =
    let args = c.args in
    let up : 8 + (args.i - 8) ≡ args.i = omega arith in
    c.byte_of-2.ensures
    ∙ sym (second_at args.first args.second (args.i - 8))
    ∙ ap (λ (i : ℕ). get_or (sixteen args.first args.second) i 0) up
