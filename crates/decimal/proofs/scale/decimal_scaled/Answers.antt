-- `decimal::scale::decimal_scaled` meets its contract: both ways come to the same. Assumes nothing.
use Rattle.std.specs.Prelude.{Some, None}
use Prim.Native.Nat.{ℕ, ◌+◌, ◌-◌, ◌*◌}
use mathlib.Core.Path.{◌≡◌, sym, ap, ◌∙◌}
use mathlib.Core.Bool.{Bool, true, false, ◌&&◌, cond}
use native.Mathlib.Omega.{arith}
use lib.Dec.{leb, lit≤}
use lib.Ieee.{Float}
use Rattle.decimal.specs.Number.{scaled_by, significand_of, with_fraction}
use Rattle.decimal.specs.Ways.{quick_by}
use Rattle.decimal.proofs.Reading.{few-small, few-whole}
use Rattle.decimal.proofs.scale.decimal_scaled.Goals as goal

-- the quick way's double is the one that is defined
quick-is : (s : Bool) (n up down : ℕ) (x : Float) → quick_by s n up down ≡ Some x → Some x ≡ Some (scaled_by s 10 n up down)
unfolding quick_by
quick-is s n up down x e = by (leb (up - down) 22 && leb (down - up) 22) e
  where
    by : (t : Bool) → cond t (Some (scaled_by s 10 n up down)) None ≡ Some x → Some x ≡ Some (scaled_by s 10 n up down)
    by true e = sym e
    by false e = cc

pub overflow_add-down : goal.overflow_add-down
overflow_add-down c =
    let x = c.in-Some.short in
    omega (arith, (few-small 10 c.args.text.now 15 x.digits x.fraction (lit≤ tt) (sym c.few.ensures ∙ c.in-Some.is)).1, c.requires.1)

pub quick-requires : goal.quick-requires
quick-requires c =
    let x = c.in-Some.short in
    (few-small 10 c.args.text.now 15 x.digits x.fraction (lit≤ tt) (sym c.few.ensures ∙ c.in-Some.is)).0

pub returns : goal.returns
returns c =
    let x = c.in-Some.short in
    let whole : significand_of 10 c.args.text.now ≡ with_fraction x.digits x.fraction = few-whole 10 c.args.text.now 15 x.digits x.fraction (sym c.few.ensures ∙ c.in-Some.is) in
    rw whole
    (quick-is c.args.minus x.digits c.args.up (c.args.down + x.fraction) c.in-Some-quick.x (sym c.quick.ensures ∙ c.in-Some-quick.is)
    ∙ ap (λ (n : ℕ). Some (scaled_by c.args.minus 10 x.digits c.args.up (c.args.down + n))) (one x.fraction))
  where
    one : (n : ℕ) → n ≡ 1 * n
    one n = omega arith
