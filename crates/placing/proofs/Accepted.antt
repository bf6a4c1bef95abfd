-- What an accepted pulse holds: its start and offset are those of the aligned index, it ends within the row, every number worked out is finite, and its
-- carrier and rotation are the definitions' own pairs. Read off the ways that a pulse is judged. Assumes nothing.
use Rattle.quant.specs.Aligned.{starts_at}
use Rattle.std.specs.Prelude.{Some, Ok}
use Rattle.std.proofs.Common.{◌≡◌, ℕ, ◌+◌, ◌-◌, ◌<◌, ◌≤◌, true, ◌&&◌, List, refl, subst, le_trans, arith}
use lib.Ieee.{Float}
use Rattle.quant.specs.declared.settings.Settings.{Settings}
use Rattle.quant.specs.Complex.{times_c}
use Rattle.quant.specs.Phaser.{phased_of}
use Rattle.rows.specs.Rows.{all_finite}
use Rattle.shape.proofs.Envelopes.{points-fit}
use Rattle.shape.proofs.Filling.{least-left, least-right}
use Rattle.pulse.specs.declared.bin.Bin.{Bin}
use Rattle.pulse.specs.declared.envelope.Shape.TheVariants.{Plain}
use Rattle.pulse.specs.declared.list.Pulse.{Pulse}
use Rattle.pulse.specs.Envelope.{is_shaped}
use Rattle.placing.specs.declared.Flat.{Flat}
use Rattle.placing.specs.declared.Curved.{Curved}
use Rattle.placing.specs.declared.Judged.TheVariants.{Plateau, Shaped}
use Rattle.placing.specs.Phases.{phase0, dphase, start_pair, rotation_pair, phase_numbers}
use Rattle.placing.specs.Judged.{placed_at, weight_numbers, drag_of, drag_numbers, plain_fine, curved_fine, count_of, flat_of, curved_of, measured_at, judged}
use Rattle.exact.proofs.Truth.{both}
use Rattle.placing.proofs.Turning.{start-given, rotation-given}
use Rattle.placing.proofs.Ways.{Inside, Way, no_index, before, beyond, past, unshaped, over, plain-rest, curved-rest, flat, curved, way}

module _ (s : Settings) (b : Bin) (p : Pulse) (len : ℕ) where
  -- ---- without a shape
  pub record HeldFlat (f : Flat) : Type 0 where
    pub offset : Float
    pub placed : placed_at s p ≡ starts_at f.start offset
    pub inside : f.start < len
    pub shape : b.envelope.shape ≡ Plain
    pub count : f.count ≡ count_of s b
    pub fits : f.start + f.count ≤ len
    pub weight : all_finite (weight_numbers p) ≡ true
    pub phases : all_finite (phase_numbers s b f.start offset) ≡ true
    pub first : phased_of (phase0 s b f.start offset) ≡ Some (start_pair s b f.start offset)
    pub turn : phased_of (dphase s b) ≡ Some (rotation_pair s b)
    pub carrier : f.carrier ≡ times_c (start_pair s b f.start offset) p.amp
    pub rotation : f.rotation ≡ rotation_pair s b

module _ (s : Settings) (b : Bin) (numbers : List Float) (p : Pulse) (len : ℕ) where
  -- ---- with a shape
  pub record HeldCurved (c : Curved) : Type 0 where
    pub placed : placed_at s p ≡ starts_at c.start c.offset
    pub inside : c.start < len
    pub shape : is_shaped b.envelope.shape ≡ true
    pub points : measured_at s b numbers c.offset (len - c.start) ≡ Ok c.points
    pub fits : c.start + c.points ≤ len
    pub few : c.points ≤ 65536
    pub weight : all_finite (weight_numbers p) ≡ true
    pub drags : all_finite (drag_numbers s p) ≡ true
    pub phases : all_finite (phase_numbers s b c.start c.offset) ≡ true
    pub first : phased_of (phase0 s b c.start c.offset) ≡ Some (start_pair s b c.start c.offset)
    pub turn : phased_of (dphase s b) ≡ Some (rotation_pair s b)
    pub amp : c.amp ≡ p.amp
    pub drag : c.drag ≡ drag_of s p
    pub carrier : c.carrier ≡ start_pair s b c.start c.offset
    pub rotation : c.rotation ≡ rotation_pair s b

  pub flat-held : (f : Flat) → judged s b numbers p len ≡ Ok (Plateau f) → HeldFlat s b p len f
  flat-held f e = by (way s b numbers p len (Ok (Plateau f)) e)
    where
      held : (k : Inside s b p len) → b.envelope.shape ≡ Plain → k.start + count_of s b ≤ len
          → plain_fine s b p k.start k.offset ≡ true → HeldFlat s b p len (flat_of s b p k.start k.offset)
      held k z h m =
          let fine = both (all_finite (weight_numbers p)) (all_finite (phase_numbers s b k.start k.offset)) m in
          record {
            offset = k.offset;
            placed = k.placed;
            inside = k.inside;
            shape = z;
            count = refl;
            fits = h;
            weight = fine.0;
            phases = fine.1;
            first = start-given s b k.start k.offset fine.1;
            turn = rotation-given s b k.start k.offset fine.1;
            carrier = refl;
            rotation = refl;
          }

      by : Way s b numbers p len (Ok (Plateau f)) → HeldFlat s b p len f
      by (no_index g e) = let z : ◌≡◌ {A = ℕ} 0 1 = cc in absurd (omega arith)
      by (before g e) = let z : ◌≡◌ {A = ℕ} 0 1 = cc in absurd (omega arith)
      by (beyond g e) = let z : ◌≡◌ {A = ℕ} 0 1 = cc in absurd (omega arith)
      by (past w o g h e) = let z : ◌≡◌ {A = ℕ} 0 1 = cc in absurd (omega arith)
      by (unshaped k r z m e) = let z : ◌≡◌ {A = ℕ} 0 1 = cc in absurd (omega arith)
      by (over k z h e) = let z : ◌≡◌ {A = ℕ} 0 1 = cc in absurd (omega arith)
      by (plain-rest k z h m e) = let z : ◌≡◌ {A = ℕ} 0 1 = cc in absurd (omega arith)
      by (curved-rest k n z m h e) = let z : ◌≡◌ {A = ℕ} 0 1 = cc in absurd (omega arith)
      by (flat k z h m e) = let same : flat_of s b p k.start k.offset ≡ f = cc in subst (λ (q : Flat). HeldFlat s b p len q) same (held k z h m)
      by (curved k n z m h e) = let z : ◌≡◌ {A = ℕ} 0 1 = cc in absurd (omega arith)

  pub curved-held : (c : Curved) → judged s b numbers p len ≡ Ok (Shaped c) → HeldCurved c
  curved-held c e = by (way s b numbers p len (Ok (Shaped c)) e)
    where
      held : (k : Inside s b p len) (n : ℕ) → is_shaped b.envelope.shape ≡ true → measured_at s b numbers k.offset (len - k.start) ≡ Ok n
          → curved_fine s b p k.start k.offset ≡ true → HeldCurved (curved_of s b p k.start k.offset n)
      held k n z m h =
          let fine = both (all_finite (weight_numbers p) && all_finite (drag_numbers s p)) (all_finite (phase_numbers s b k.start k.offset)) h in
          let weights = both (all_finite (weight_numbers p)) (all_finite (drag_numbers s p)) fine.0 in
          let room = points-fit b.envelope.shape numbers _ _ _ _ _ _ n m in
          record {
            placed = k.placed;
            inside = k.inside;
            shape = z;
            points = m;
            fits = omega (arith, k.inside, le_trans room (least-left (len - k.start) 65536));
            few = le_trans room (least-right (len - k.start) 65536);
            weight = weights.0;
            drags = weights.1;
            phases = fine.1;
            first = start-given s b k.start k.offset fine.1;
            turn = rotation-given s b k.start k.offset fine.1;
            amp = refl;
            drag = refl;
            carrier = refl;
            rotation = refl;
          }

      by : Way s b numbers p len (Ok (Shaped c)) → HeldCurved c
      by (no_index g e) = let z : ◌≡◌ {A = ℕ} 0 1 = cc in absurd (omega arith)
      by (before g e) = let z : ◌≡◌ {A = ℕ} 0 1 = cc in absurd (omega arith)
      by (beyond g e) = let z : ◌≡◌ {A = ℕ} 0 1 = cc in absurd (omega arith)
      by (past w o g h e) = let z : ◌≡◌ {A = ℕ} 0 1 = cc in absurd (omega arith)
      by (unshaped k r z m e) = let z : ◌≡◌ {A = ℕ} 0 1 = cc in absurd (omega arith)
      by (over k z h e) = let z : ◌≡◌ {A = ℕ} 0 1 = cc in absurd (omega arith)
      by (plain-rest k z h m e) = let z : ◌≡◌ {A = ℕ} 0 1 = cc in absurd (omega arith)
      by (curved-rest k n z m h e) = let z : ◌≡◌ {A = ℕ} 0 1 = cc in absurd (omega arith)
      by (flat k z h m e) = let z : ◌≡◌ {A = ℕ} 0 1 = cc in absurd (omega arith)
      by (curved k n z m h e) = let same : curved_of s b p k.start k.offset n ≡ c = cc in subst (λ (q : Curved). HeldCurved q) same (held k n z m h)
