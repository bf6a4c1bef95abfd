-- Channels do not meet: where a list of commands without swaps is carried out, each channel ends as it does where only its own commands
-- are. A command for another channel leaves what this one sees; a command for this one goes by what it sees alone. Assumes nothing.
use Rattle.std.specs.Prelude.{Some}
use Prim.Native.Nat.{ℕ, zero, suc, ◌+◌, ◌-◌, ◌*◌, ◌≤◌, ◌<◌}
use native.Mathlib.Omega.{arith}
use mathlib.Core.Path.{◌≡◌, refl, sym, ap, ◌∙◌}
use mathlib.Core.Bool.{Bool, true, false, cond, true≢false}
use mathlib.Core.List.{List, [], ◌∷◌, ◌++◌, map}
use borrow.Author.Tests.{ltb-true, ltb-false}
use lib.Dec.{ltb}
use lib.Ieee.{Float}
use lib.ListN.{take, drop, get_or, set, length-take}
use lib.Seq.{get_or-set_other, get_or-take, map-set_same, take-set-le, drop-set-lt}
use Rattle.naming.specs.declared.Name.{Name}
use Rattle.naming.specs.Name.{same_name}
use Rattle.naming.proofs.Named.{same-exactly}
use Rattle.pulse.specs.declared.list.Pulse.{Pulse}
use Rattle.pulse.specs.List.{stored}
use Rattle.tables.specs.declared.Channel.{Channel}
use Rattle.tables.specs.declared.Tables.{Tables}
use Rattle.tables.specs.Tables.{channels_in, found_from, found, no_channel, channel_at, with_channel}
use Rattle.tables.proofs.Finding.{found-under}
use Rattle.commands.specs.declared.command.Command.{Command}
use Rattle.commands.specs.declared.step.Step.{Step}
use Rattle.commands.specs.Step.{numbers_at, bins_after, pulses_after}
use Rattle.commands.specs.Play.{grown, pulse_at}
use Rattle.commands_laws.specs.Sound.{Sound}
use Rattle.commands.specs.Command.{named, is_swap}
use Rattle.commands_laws.specs.Apart.{SameTo}
use Rattle.commands_laws.proofs.Zones.{zone-stays, part-before, part-behind}
use Rattle.commands.proofs.Cases.{Kind, refuses, goes, turns, swaps, puts}

-- ---- names

-- a channel that is found has the name
found-named : (k : ℕ) (n : Name) (cs : List Channel) (i : ℕ) → found_from k n cs ≡ Some i → (k ≤ i) × (same_name (get_or cs (i - k) no_channel).name n ≡ true)
unfolding found_from
found-named k n [] i e = let z : ◌≡◌ {A = ℕ} 0 1 = cc in absurd (omega arith)
found-named k n (c ∷ cs) i e = go (same_name c.name n) refl e (found-named (suc k) n cs i)
  where
    go : (b : Bool) → same_name c.name n ≡ b → cond b (Some k) (found_from (suc k) n cs) ≡ Some i
        → (found_from (suc k) n cs ≡ Some i → (suc k ≤ i) × (same_name (get_or cs (i - suc k) no_channel).name n ≡ true))
        → (k ≤ i) × (same_name (get_or (c ∷ cs) (i - k) no_channel).name n ≡ true)
    go true s f later = let is : k ≡ i = cc in let nought : i - k ≡ 0 = omega arith in (omega arith, rw nought s)
    go false s f later =
        let h = later f in
        let next : i - k ≡ suc (i - suc k) = omega (arith, h.0) in
        (omega (arith, h.0), rw next h.1)

module _ (t : Tables) (n : Name) (i : ℕ) (e : found t n ≡ Some i) where
  pub present : i < t.count
  present =
      let u = found-under 0 n (channels_in t) i e in
      let short = rw (length-take t.count t.channels) at u in
      omega (arith, short)

  pub has-name : (channel_at t i).name ≡ n
  has-name =
      let h = found-named 0 n (channels_in t) i e in
      let at : i - 0 ≡ i = omega arith in
      let read = get_or-take t.count t.channels i no_channel present in
      (same-exactly (channel_at t i).name n).0 (rw (at, read) at h.1)

-- names that differ stand at places that differ
other_place : (t : Tables) (n m : Name) (i j : ℕ) → found t n ≡ Some i → found t m ≡ Some j → same_name m n ≡ false → i ≡ j → ⊥
other_place t n m i j e f apart same =
    let one = has-name t n i e in
    let two = has-name t m j f in
    let is : m ≡ n = sym two ∙ ap (λ (k : ℕ). (channel_at t k).name) (sym same) ∙ one in
    true≢false (sym ((same-exactly m n).1 is) ∙ apart)

-- ---- the names stay

map-take : {A B : Type 0} (f : A → B) (n : ℕ) (l : List A) → map f (take n l) ≡ take n (map f l)
map-take f zero l = refl
map-take f (suc n) [] = refl
map-take {A} {B} f (suc n) (x ∷ xs) = ap (λ (l : List B). f x ∷ l) (map-take f n xs)

abbrev names : List Channel → List Name
names l = map (λ (c : Channel). c.name) l

found-by-names : (k : ℕ) (n : Name) (cs ds : List Channel) → names cs ≡ names ds → found_from k n cs ≡ found_from k n ds
unfolding found_from
found-by-names k n [] [] e = refl
found-by-names k n [] (d ∷ ds) e = let z : ◌≡◌ {A = ℕ} 0 1 = cc in absurd (omega arith)
found-by-names k n (c ∷ cs) [] e = let z : ◌≡◌ {A = ℕ} 0 1 = cc in absurd (omega arith)
found-by-names k n (c ∷ cs) (d ∷ ds) e =
    let head : c.name ≡ d.name = cc in
    let tail : names cs ≡ names ds = cc in
    rw (head, found-by-names (suc k) n cs ds tail)

pub found-stays : (t : Tables) (j : ℕ) (c : Channel) → c.name ≡ (channel_at t j).name → (n : Name) → found (with_channel t j c) n ≡ found t n
found-stays t j c e n =
    let f : Channel → Name = λ (x : Channel). x.name in
    let same = map-set_same f t.channels j c no_channel e in
    found-by-names 0 n (take t.count (set t.channels j c)) (take t.count t.channels)
    (map-take f t.count (set t.channels j c) ∙ ap (take t.count) same ∙ sym (map-take f t.count t.channels))

-- ---- what looks the same

pub same-to : (n : Name) (i : ℕ) (t : Tables) (bins : List (List Float)) (pulses : List Pulse) → found t n ≡ Some i → SameTo n i t t bins bins pulses pulses
same-to n i t bins pulses e =
    record { here = e; there = e; amp = refl; time = refl; oversize = refl; shapes = refl; channel = refl; its-rows = refl; its-list = refl }

pub same_then : (n : Name) (i : ℕ) (t u v : Tables) (a b c : List (List Float)) (p q r : List Pulse) → SameTo n i t u a b p q → SameTo n i u v b c q r
    → SameTo n i t v a c p r
same_then n i t u v a b c p q r h k =
    record {
      here = h.here;
      there = k.there;
      amp = h.amp ∙ k.amp;
      time = h.time ∙ k.time;
      oversize = h.oversize ∙ k.oversize;
      shapes = h.shapes ∙ k.shapes;
      channel = h.channel ∙ k.channel;
      its-rows = h.its-rows ∙ k.its-rows;
      its-list = h.its-list ∙ k.its-list;
    }

-- ---- a command for another channel

module _ (n : Name) (i : ℕ) (t : Tables) (bins : List (List Float)) (pulses : List Pulse) (h : Sound t bins pulses) (e : found t n ≡ Some i) where
  -- another channel's record, and rows and records that agree where this one's stand
  with-other : (j : ℕ) (c : Channel) (rows : List (List Float)) (records : List Pulse) → (i ≡ j → ⊥) → c.name ≡ (channel_at t j).name
      → take 64 (drop (64 * i) rows) ≡ take 64 (drop (64 * i) bins)
      → take (channel_at t i).pulses (drop (1024 * i) records) ≡ take (channel_at t i).pulses (drop (1024 * i) pulses)
      → SameTo n i (with_channel t j c) t rows bins records pulses
  with-other j c rows records apart keeps zone list =
      let same = get_or-set_other t.channels j i c no_channel apart in
      record {
        here = found-stays t j c keeps n ∙ e;
        there = e;
        amp = refl;
        time = refl;
        oversize = refl;
        shapes = refl;
        channel = same;
        its-rows = rw (same, zone);
        its-list = rw same list;
      }

  row-elsewhere : (j place : ℕ) (row : List Float) → (i ≡ j → ⊥) → place < 64
      → take 64 (drop (64 * i) (set bins (64 * j + place) row)) ≡ take 64 (drop (64 * i) bins)
  row-elsewhere j place row apart room = go (ltb i j) refl
    where
      go : (b : Bool) → ltb i j ≡ b → take 64 (drop (64 * i) (set bins (64 * j + place) row)) ≡ take 64 (drop (64 * i) bins)
      go true f =
          let below = ltb-true i j f in
          part-before (64 * j) (64 * i) 64 (set bins (64 * j + place) row) bins (omega arith) (take-set-le (64 * j) bins (64 * j + place) row (omega arith))
      go false f =
          let above = ltb-false i j f in
          let further : j < i = omega (arith, apart) in
          part-behind (64 * j + 64) (64 * i) 64 (set bins (64 * j + place) row) bins (omega arith) (drop-set-lt (64 * j + 64) bins (64 * j + place) row (omega arith))

  pub unmoved : (splines : List (List Float)) (c : Command) (s : Step) → is_swap c ≡ false → same_name (named c) n ≡ false → Kind t bins c s → s.stop ≡ false
      → SameTo n i s.tables t (bins_after s splines bins) bins (pulses_after s pulses) pulses
  unmoved splines c _ single other (refuses r) f = absurd (true≢false f)
  unmoved splines c _ single other goes f = same-to n i t bins pulses e
  unmoved splines c _ single other (turns j o there) f =
      let after : Channel = record { name = (channel_at t j).name; osc = o; bins = (channel_at t j).bins; pulses = (channel_at t j).pulses } in
      with-other j after bins pulses (other_place t n (named c) i j e there other) refl refl refl
  unmoved splines c _ single other (swaps j k o q swap) f = absurd (true≢false (sym swap ∙ single))
  unmoved splines c _ single other (puts j place new time w head spline there known most old room last few) f =
      let apart = other_place t n (named c) i j e there other in
      let d = channel_at t j in
      let far : i ≡ j → ⊥ = apart in
      let stands = h.each i (present t n i e) in
      let list = zone-stays j i (channel_at t i).pulses d.pulses (pulse_at place time w) pulses apart stands.most-pulses few in
      with-other j (grown d new) (cond new (set bins (64 * j + place) row) bins) (stored (1024 * j) d.pulses (pulse_at place time w) pulses) far refl (zone new refl) list
    where
      row : List Float
      row = head ++ numbers_at splines spline

      zone : (b : Bool) → new ≡ b → take 64 (drop (64 * i) (cond b (set bins (64 * j + place) row) bins)) ≡ take 64 (drop (64 * i) bins)
      zone true g = let below = room g in row-elsewhere j place row (other_place t n (named c) i j e there other) (omega arith)
      zone false g = refl
