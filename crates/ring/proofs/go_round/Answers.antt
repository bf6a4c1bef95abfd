use mathlib.Core.Path.{◌≡◌, sym, ap, ◌∙◌}
use mathlib.Core.List.{List, [], ◌++◌, append-nil}
use Prim.Native.Nat.{ℕ, ◌+◌, ◌%◌}
use native.Mathlib.Nat.{mod-add-mod}
use native.Mathlib.Omega.{arith}
use lib.ListN.{length, take}
use lib.Seq.{take-length, drop-length}
use lib.Ieee.{Float}
use Rattle.ring.specs.Ring.{filtered_from}
use Rattle.ring.specs.Inside.{row_to_be, Advanced}
use Rattle.ring.proofs.Only.{only_of}
use Rattle.ring.proofs.go_round.Invariants.{Inv}
use Rattle.ring.proofs.go_round.Goals as goal

turn : (row₀ ring₀ taps row ring row' ring' : List Float) (k s w s' : ℕ) → Advanced taps k s w ring row ring' row' → s' ≡ (s + w) % length taps → Inv row₀ ring₀ taps row ring k s → Inv row₀ ring₀ taps row' ring' (k + w) s'
turn row₀ ring₀ taps row ring row' ring' k s w s' a e i =
    record {
      within = omega (arith, a.within, a.moved.same);
      same = a.moved.same ∙ i.same;
      room = a.moved.room ∙ i.room;
      slot = e ∙ ap (λ (m : ℕ). (m + w) % length taps) i.slot ∙ mod-add-mod k (length taps) w;
      left = a.moved.left ∙ i.left;
    }

done : (row₀ ring₀ taps row ring : List Float) (k s : ℕ) → k ≡ length row → Inv row₀ ring₀ taps row ring k s → row ≡ filtered_from taps 0 ring₀ row₀
unfolding filtered_from
done row₀ ring₀ taps row ring k s e i =
    sym (append-nil row)
    ∙ ap (λ (l : List Float). l ++ []) (sym (take-length row))
    ∙ ap (λ (l : List Float). take (length row) row ++ filtered_from taps (length row) ring l) (sym (drop-length row))
    ∙ ap (λ (m : ℕ). row_to_be taps m ring row) (sym e)
    ∙ i.left

pub returns-then-taps-eq1 : goal.returns-then-taps-eq1
returns-then-taps-eq1 c =
    let a = c.args in
    c.only_tap.ensures ∙ sym (only_of a.taps.now a.ring.now a.row.now c.if-taps-eq1.true (omega (arith, c.requires.room)))

pub loop-k-preserved : goal.loop-k-preserved
loop-k-preserved c =
    let at = c.loop-k in
    let a = c.args in
    turn a.row.now a.ring.now a.taps.now at.row at.ring _ _ at.k at.s _ c.wrap-s.result c.advance-done.ensures c.wrap-s.ensures at.invariant

pub returns : goal.returns
returns c =
    let at = c.loop-k in
    let a = c.args in
    done a.row.now a.ring.now a.taps.now at.row at.ring at.k at.s (omega (arith, at.invariant.within)) at.invariant
