-- `ring::eight::put_eight` meets its contract. The invariant: with the numbers that are still to be put, all is as it is to be. Assumes nothing.
use mathlib.Core.Path.{◌≡◌}
use mathlib.Core.List.{List}
use Prim.Native.Nat.{ℕ, ◌+◌, ◌≤◌}
use lib.ListN.{length, drop}
use lib.Seq.{sets}
use lib.Ieee.{Float}
use Rattle.ring.proofs.eight.put_eight.Given as goal

pub record Inv (to₀ : List Float) (at : ℕ) (from to : List Float) (m : ℕ) : Type 0 where
  pub within : m ≤ 8
  pub same : length to ≡ length to₀
  pub left : sets to (at + m) (drop m from) ≡ sets to₀ at from

abbrev pub invariant-loop-m : goal.invariant-loop-m
invariant-loop-m l = Inv l.initial.to l.at l.from l.to l.m
