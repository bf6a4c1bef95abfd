-- Request P1: "A stored pulse keeps its spline when the name is replaced, by Hann or another spline". A law over any run of calls: a bin that is there
-- stays there, with its row and so with its spline's numbers, as long as neither tables are made anew nor its channel's name is added again. Adding a
-- shape or a spline writes no bin at all, adding another channel sets another place, and commands open bins only behind those that are there. Assumes
-- nothing.
use Rattle.std.specs.Prelude.{Some}
use Prim.Native.Nat.{ℕ, ◌+◌, ◌*◌, ◌≤◌, ◌<◌}
use native.Mathlib.Omega.{arith}
use mathlib.Core.Path.{◌≡◌, refl, sym, ap, subst, ◌∙◌}
use mathlib.Core.Bool.{false, true≢false}
use mathlib.Core.List.{List, [], ◌∷◌}
use lib.Ieee.{Float}
use lib.ListN.{get_or, set}
use lib.Seq.{get_or-set_other}
use Rattle.naming.specs.declared.Name.{Name}
use Rattle.naming.specs.Name.{same_name}
use Rattle.naming.proofs.Named.{same-exactly}
use Rattle.pulse.specs.Bin.{numbers_of}
use Rattle.executor.specs.declared.osc.OscState.{OscState}
use Rattle.tables.specs.declared.Channel.{Channel}
use Rattle.tables.specs.declared.Tabled.{Tabled}
use Rattle.tables.specs.Tables.{Formed, formed, found, no_channel, channel_at, done, fresh, with_channels, with_added, with_shape, with_added_shape, with_added_spline}
use Rattle.commands_laws.specs.Sound.{Reached}
use Rattle.commands_laws.proofs.Sound.{sound}
use Rattle.commands_laws.proofs.Apart.{has-name}
use Rattle.system.specs.System.{State, Call, make, add-channel, add-shape, add-spline, execute, sample, mixer, iir, fir, Event, calls, lends, with_lent, outcome}
use Rattle.system.specs.Kept.{Spares, AllSpare, after, Kept}
use Rattle.system.proofs.Added.{channel-by, shape-by, spline-by}
use Rattle.system.proofs.KeptRows.{Stays, as_before, and_then, commands-stay}

module _ (i k : ℕ) (under : i < 8) (low : k < 64) where
  -- ---- one call
  module _ (s : State) (channel : i < s.tables.count) (there : k < (channel_at s.tables i).bins) where
    abbrev LeftIn : Tabled → Type 0
    LeftIn x = Stays s.tables s.bins i k x.tables s.bins

    abbrev LeftBy : Formed → Type 0
    LeftBy x = LeftIn x.tabled

    came : Stays s.tables s.bins i k s.tables s.bins
    came = as_before s.tables s.bins i k channel there

    -- another place is set
    set-stays : (j count : ℕ) (c : Channel) → (i ≡ j → ⊥) → s.tables.count ≤ count
        → LeftIn (done (with_channels s.tables (set s.tables.channels j c) count))
    set-stays j count c apart most =
        let is = get_or-set_other s.tables.channels j i c no_channel apart in
        record {
          channel = omega (arith, most, channel);
          name = ap (λ (x : Channel). x.name) is;
          there = subst (λ (x : Channel). k < x.bins) (sym is) there;
          same = refl;
        }

    -- a channel of another name: the one that is found has that name, and a new one goes behind those that are there
    channel-stays : (n : Name) (o : OscState) → same_name (channel_at s.tables i).name n ≡ false → LeftIn (with_added s.tables n o)
    channel-stays n o other =
        let t = s.tables in
        channel-by LeftIn t n o
        (λ j e. set-stays j t.count (fresh n o) (apart j e) (omega arith))
        (set-stays t.count (t.count + 1) (fresh n o) (λ is. omega (arith, is, channel)) (omega arith))
        came came
      where
        apart : (j : ℕ) → found s.tables n ≡ Some j → i ≡ j → ⊥
        apart j e is =
            let named = ap (λ (m : ℕ). (channel_at s.tables m).name) is ∙ has-name s.tables n j e in
            true≢false (sym ((same-exactly (channel_at s.tables i).name n).1 named) ∙ other)

    -- a shape: no channel is touched
    one_more : (n : Name) (rows : List (List Float)) → LeftBy (formed (done (with_shape s.tables n)) rows)
    one_more n rows = record { channel = channel; name = refl; there = there; same = refl }

    shape-stays : (n : Name) → LeftBy (with_added_shape s.tables n s.splines)
    shape-stays n = shape-by LeftBy s.tables s.splines n (λ j row. came) (λ row. one_more n (set s.splines s.tables.named row)) came came came

    spline-stays : (n : Name) (degree : ℕ) (controls knots : List Float) → LeftBy (with_added_spline s.tables n degree controls knots s.splines)
    spline-stays n degree controls knots =
        spline-by LeftBy s.tables s.splines n (λ j row. came) (λ row. one_more n (set s.splines s.tables.named row)) came came came degree controls knots came

    call_stays : (c : Call) → Spares (channel_at s.tables i).name c
        → let u = (outcome s c).after in Stays s.tables s.bins i k u.tables u.bins
    unfolding outcome Spares
    call_stays (make amp time oversize) spares = absurd spares
    call_stays (add-channel n o) spares = channel-stays n o spares
    call_stays (add-shape n) spares = shape-stays n
    call_stays (add-spline n p c t) spares = spline-stays n p c t
    call_stays (execute commands) spares = commands-stay i k under low s.tables s.splines commands s.bins s.pulses channel there
    call_stays (sample r c factors) spares = came
    call_stays (mixer n m o) spares = came
    call_stays (iir n sections) spares = came
    call_stays (fir n taps) spares = came

  -- ---- any run
  run-stays : (s : State) (run : List Event) → i < s.tables.count → k < (channel_at s.tables i).bins → AllSpare (channel_at s.tables i).name run
      → Stays s.tables s.bins i k (after s run).tables (after s run).bins
  unfolding after AllSpare
  run-stays s [] channel there spare = as_before s.tables s.bins i k channel there
  run-stays s (calls c ∷ more) channel there spare =
      let u = (outcome s c).after in
      let one = call_stays s channel there c spare.0 in
      let spare' = subst (λ (n : Name). AllSpare n more) (sym one.name) spare.1 in
      let later = run-stays (outcome s c).after more one.channel one.there spare' in
      and_then s.tables u.tables (after u more).tables s.bins u.bins (after u more).bins i k one later
  run-stays s (lends rows work marks ∷ more) channel there spare = run-stays (with_lent s rows work marks) more channel there spare

-- "64 bins .. a channel", of 8 channels: bin k of the channel at place i
pub stored-keeps : (s : State) (run : List Event) (i k : ℕ) → i < s.tables.count → i < 8 → k < (channel_at s.tables i).bins → k < 64
    → AllSpare (channel_at s.tables i).name run → Kept s i k (after s run)
stored-keeps s run i k channel under there low spare =
    let h = run-stays i k under low s run channel there spare in
    record { there = h.there; same = h.same }

-- the numbers of its spline, which every pulse of the bin is sampled by
pub spline-keeps : (s : State) (run : List Event) (i k : ℕ) → i < s.tables.count → i < 8 → k < (channel_at s.tables i).bins → k < 64
    → AllSpare (channel_at s.tables i).name run → numbers_of (get_or (after s run).bins (64 * i + k) []) ≡ numbers_of (get_or s.bins (64 * i + k) [])
spline-keeps s run i k channel under there low spare = ap numbers_of (stored-keeps s run i k channel under there low spare).same

-- from made tables, after any run of calls: then there are at most 8 channels, and 64 bins in each
pub from-made : (s : State) (run : List Event) (i k : ℕ) → Reached s.tables s.splines s.bins s.pulses
    → i < s.tables.count → k < (channel_at s.tables i).bins → AllSpare (channel_at s.tables i).name run → Kept s i k (after s run)
from-made s run i k h channel there spare =
    let known = sound s.tables s.splines s.bins s.pulses h in
    let few = known.few in
    let most = (known.each i channel).most-bins in
    stored-keeps s run i k channel (omega (arith, few, channel)) there (omega (arith, most, there)) spare
