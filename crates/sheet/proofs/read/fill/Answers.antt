use Prim.Native.Nat.{ℕ, ◌+◌, ◌*◌, ◌≤◌, ◌<◌}
use mathlib.Core.List.{List}
use mathlib.Core.Path.{sym, ◌∙◌, ap}
use native.Mathlib.Omega.{arith}
use lib.Ieee.{Float}
use lib.ListN.{length}
use Rattle.naming.specs.declared.Name.{Name}
use Rattle.sheet.specs.Sheet.{blank, matrix_of, SoFar, accepts}
use Rattle.sheet.proofs.Filling.{Filled, filled_none, filled_more, filled-end, column-found, whole_is}
use Rattle.sheet.proofs.Parts.{row_within}
use Rattle.sheet.proofs.read.fill.Goals as goal

-- a row at a place below the count is within the factors and within the matrix
record Within (count row : ℕ) (matrix : List Float) : Type 0 where
  factors : row * count + count ≤ 64
  numbers : row * count + count ≤ length matrix

within : (count row c : ℕ) (columns rows : List Name) (factors : List ℕ) (before matrix : List Float) → Filled count columns rows factors before matrix c
    → row < count → Within count row matrix
within count row c columns rows factors before matrix p h =
    let fits = row_within count row h in
    record { factors = omega (arith, p.ready.square); numbers = omega (arith, p.ready.square, p.room, p.long) }

pub loop-c-init : goal.loop-c-init
loop-c-init c =
    filled_none c.args.s c.requires.0 c.requires.1 c.args.matrix.now c.requires.2

pub overflow_mul-r : goal.overflow_mul-r
unfolding blank
overflow_mul-r c =
    let s = c.args.s in
    let p = c.loop-c.invariant in
    let found = column-found s.count s.columns s.rows s.factors p.ready c.loop-c.c blank (omega arith) in
    omega (arith, within _ c.place-r.result _ _ _ _ _ _ p (omega (arith, c.place-r.ensures, found)))

pub overflow_mul-c : goal.overflow_mul-c
overflow_mul-c c = omega (arith, within _ c.loop-c.c _ _ _ _ _ _ c.loop-c.invariant (omega arith))

pub copy_row-requires : goal.copy_row-requires
unfolding blank
copy_row-requires c =
    let s = c.args.s in
    let p = c.loop-c.invariant in
    let found = column-found s.count s.columns s.rows s.factors p.ready c.loop-c.c blank (omega arith) in
    let from = within _ c.place-r.result _ _ _ _ _ _ p (omega (arith, c.place-r.ensures, found)) in
    let to = within _ c.loop-c.c _ _ _ _ _ _ p (omega arith) in
    (from.factors, to.numbers)

pub loop-c-preserved : goal.loop-c-preserved
unfolding blank
loop-c-preserved c =
    let s = c.args.s in
    let at = c.loop-c in
    filled_more s.count s.columns s.rows s.factors at.invariant.ready c.args.matrix.now at.matrix at.c blank _ _ at.invariant (omega arith)
    c.place-r.ensures
    c.copy_row.ensures
    c.copy_row.auto.matrix

pub returns : goal.returns
unfolding matrix_of
returns c =
    let s = c.args.s in
    let p = c.requires in
    let before = c.args.matrix.now in
    let at = c.loop-c in
    filled-end s.count s.columns s.rows s.factors at.invariant.ready before at.matrix at.c at.invariant (omega arith)
    ∙ ap (λ (t : SoFar). matrix_of (accepts t) before) (sym (whole_is s p.0 p.1))
