use Rattle.std.proofs.Common.{◌≡◌, refl, ◌++◌, List, [], length, drop, ◌≤◌, arith}
use borrow.Rule.Slice.PartMut.{put_mid}
use lib.Ieee.{Float}
use lib.ListN.{drop_of_length-le}
use lib.Seq.{take_at, drop_at}
use mathlib.Core.List.{append-nil}
use Rattle.pulse.proofs.bin.row_of.Goals as goal

-- a head in front of 72 numbers, and others put over these
over : (zeros : List Float) {head numbers h n : List Float} → h ≡ head → n ≡ numbers → length h ≡ 5 → length zeros ≡ 72 → put_mid 5 72 (h ++ zeros) n ≡ head ++ numbers
over zeros {head} {numbers} {h} e f five z =
    let none : length zeros ≤ 72 = omega arith in
    let rest : drop 72 zeros ≡ [] = drop_of_length-le zeros none in
    rw (take_at h zeros 5 five, drop_at h zeros 5 five, rest, e, f, append-nil numbers)

pub returns : goal.returns
returns c = over _ c.copy_from_slice.ensures.after c.copy_from_slice-2.ensures.after c.copy_from_slice.ensures.len refl
