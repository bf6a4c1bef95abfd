-- Where the records of a list lie: within the 8,192 records, at most 1,024 of them, and they are those of the definition. Assumes nothing.
use Prim.Native.Nat.{ℕ, ◌+◌, ◌*◌, ◌<◌, ◌≤◌}
use mathlib.Core.Path.{◌≡◌, refl, sym}
use mathlib.Core.Bool.{Bool, true, false, cond}
use mathlib.Core.List.{List, []}
use native.Mathlib.Omega.{arith}
use borrow.Author.Tests.{ltb-true, ltb-false}
use lib.Dec.{ltb}
use lib.ListN.{length, take, drop, length-drop, drop_of_length-le}
use lib.Seq.{take-take, take_all, take-nil, length-take-le}
use Rattle.pulse.specs.declared.list.Pulse.{Pulse}
use Rattle.tables.specs.declared.Tables.{Tables}
use Rattle.tables.specs.Tables.{channel_at}
use Rattle.merge.specs.declared.work.Span.{Span}
use Rattle.merge.specs.Taking.{records_of}
use Rattle.merge.specs.Keep.{span, span_of}

pub record Spans (s : Span) (ps records : List Pulse) : Type 0 where
  pub within : s.from + s.count ≤ 8192
  pub most : s.count ≤ 1024
  pub same : take s.count (drop s.from ps) ≡ records
  pub fits : length records ≤ s.count

module _ (t : Tables) (ps : List Pulse) (long : length ps ≡ 8192) (i : ℕ) where
  abbrev rest : List Pulse
  rest = drop (1024 * i) ps

  rest-long : i < 8 → 1024 ≤ length rest
  rest-long h = omega (arith, length-drop (1024 * i) ps)

  some : (c : ℕ) → i < 8 → (b : Bool) → ltb c 1024 ≡ b → Spans (span (1024 * i) (cond b c 1024)) ps (take c (take 1024 rest))
  some c h true e =
      let less : c < 1024 = ltb-true c 1024 e in
      let long-c : length (take c rest) ≡ c = length-take-le c rest (omega (arith, rest-long h)) in
      record { within = omega arith; most = omega arith; same = sym (take-take c 1024 rest (omega arith)); fits = rw (take-take c 1024 rest (omega arith)) (omega arith) }
  some c h false e =
      let least : 1024 ≤ c = ltb-false c 1024 e in
      let long-r : length (take 1024 rest) ≡ 1024 = length-take-le 1024 rest (rest-long h) in
      let all : take c (take 1024 rest) ≡ take 1024 rest = take_all c (take 1024 rest) (omega arith) in
      record { within = omega arith; most = omega arith; same = sym all; fits = rw all (omega arith) }

  nowhere : (c : ℕ) → 8 ≤ i → Spans (span 0 0) ps (take c (take 1024 rest))
  nowhere c h =
      let gone : rest ≡ [] = drop_of_length-le ps {i = 1024 * i} (omega arith) in
      let empty : take c (take 1024 rest) ≡ [] = rw (gone, take-nil {A = Pulse} 1024) (take-nil c) in
      record { within = omega arith; most = omega arith; same = sym empty; fits = rw empty (omega arith) }

  pub spans : Spans (span_of t i) ps (records_of t ps i)
  spans = either (ltb i 8) refl where
    c : ℕ
    c = (channel_at t i).pulses

    either : (b : Bool) → ltb i 8 ≡ b → Spans (cond b (span (1024 * i) (cond (ltb c 1024) c 1024)) (span 0 0)) ps (records_of t ps i)
    either true e = some c (ltb-true i 8 e) (ltb c 1024) refl
    either false e = nowhere c (ltb-false i 8 e)
