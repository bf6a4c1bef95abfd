-- What the commands handed on do is what the call does: all of it where the count is at most 1,024, and else none, so that all stays as it
-- came. Assumes nothing.
use Prim.Native.Nat.{ℕ}
use mathlib.Core.Path.{◌≡◌, refl, ap, ◌∙◌}
use mathlib.Core.Bool.{Bool, true, false, cond}
use mathlib.Core.List.{List, []}
use lib.Dec.{leb}
use lib.Ieee.{Float}
use lib.ListN.{length, take}
use Rattle.quant.specs.declared.refusal.Refusal.TheVariants.{WrongSize}
use Rattle.pulse.specs.declared.list.Pulse.{Pulse}
use Rattle.tables.specs.declared.Tables.{Tables}
use Rattle.tables.specs.declared.Tabled.{Tabled}
use Rattle.commands.specs.declared.command.Arranged.{Arranged}
use Rattle.commands.specs.Run.{Ran, ran_to, refused_at, ran, sizes_fit, executed}
use Rattle.owned.specs.Owned.{to_run, told_of, executed_owned}

abbrev Bins : Type 0
Bins = List (List Float)

-- no command leaves all as it came, whatever is answered
none-run : (t : Tables) (fs bs : Bins) (ps : List Pulse) (r : Tabled) (bs' : Bins) (zs : List Pulse) → ran_to r bs' zs ≡ executed t fs [] bs ps
    → ran_to (refused_at r.tables WrongSize 0) bs' zs ≡ ran_to (refused_at t WrongSize 0) bs ps
unfolding ran
none-run t fs bs ps r bs' zs e = ap refused e ∙ go (sizes_fit 0 (length fs) (length bs) (length ps))
  where
    refused : Ran → Ran
    refused x = ran_to (refused_at x.result.tables WrongSize 0) x.bins x.pulses

    go : (b : Bool) → refused (cond b (ran 0 t fs [] bs ps) (ran_to (refused_at t WrongSize 0) bs ps)) ≡ ran_to (refused_at t WrongSize 0) bs ps
    go true = refl
    go false = refl

pub as_counted : (t : Tables) (fs : Bins) (cs : List Arranged) (count : ℕ) (bs : Bins) (ps : List Pulse) (r : Tabled) (bs' : Bins) (zs : List Pulse)
    → ran_to r bs' zs ≡ executed t fs (take (to_run count) cs) bs ps → ran_to (told_of count r) bs' zs ≡ executed_owned t fs cs count bs ps
as_counted t fs cs count bs ps r bs' zs e = go (leb count 1024) e
  where
    go : (b : Bool) → ran_to r bs' zs ≡ executed t fs (take (cond b count 0) cs) bs ps
        → ran_to (cond b r (refused_at r.tables WrongSize 0)) bs' zs ≡ cond b (executed t fs (take count cs) bs ps) (ran_to (refused_at t WrongSize 0) bs ps)
    go true q = q
    go false q = none-run t fs bs ps r bs' zs q
