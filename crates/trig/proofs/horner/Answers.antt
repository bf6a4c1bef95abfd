-- `trig::horner` meets its contract, from the last coefficient on. Assumes nothing.
use Rattle.std.proofs.Common.{◌≡◌, ℕ, ◌+◌, ◌-◌, ◌<◌, ◌≤◌, List, length, get_or, drop, drop-cons, drop_of_length-le, add-one, refl, arith}
use lib.Ieee.{Float, nan, binary64, sub, mul}
use Rattle.trig.specs.Trig.{horner}
use Rattle.trig.proofs.horner.Goals as goal

end : (y x : Float) (c : List Float) (i : ℕ) → length c ≤ i → x ≡ horner y x (drop i c)
unfolding horner
end y x c i h = rw drop_of_length-le refl

step : (y p : Float) (c : List Float) (i j : ℕ) → j + 1 ≡ i → i < length c → p ≡ horner y (get_or c i nan) (drop (i + 1) c) → sub binary64 (get_or c j nan) (mul binary64 y p) ≡ horner y (get_or c j nan) (drop (j + 1) c)
unfolding horner
step y p c i j e h q = rw (e, drop-cons c i nan) (rw (q, add-one i) refl)

pub loop-i-init : goal.loop-i-init
loop-i-init c = end c.args.y _ c.args.c.now 14 (omega arith)

pub loop-i-preserved : goal.loop-i-preserved
loop-i-preserved c = let l = c.loop-i in step c.args.y l.p c.args.c.now l.i (l.i - 1) (omega arith) (omega arith) l.invariant
