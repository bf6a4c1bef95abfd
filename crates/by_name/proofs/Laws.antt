-- The law of the project: from the bytes of a sheet to the lists that a sampling call adds, by names alone. `Given text before s c factors`: the
-- text is read, holds the sheet s, and its count, names and matrix are handed to the sampling call as c and factors. The other words are in specs/.
-- Assumes nothing.
use Prim.Native.Nat.{ℕ, ◌*◌}
use mathlib.Core.Path.{◌≡◌, refl, sym, ap, ◌∙◌}
use mathlib.Core.Bool.{Bool, true, false}
use mathlib.Core.Logic.{◌↔◌}
use mathlib.Core.List.{List, [], ◌∷◌}
use lib.Ieee.{Float}
use lib.ListN.{take}
use Rattle.exact.proofs.Truth.{never}
use Rattle.exact.specs.Doubles.{one}
use Rattle.naming.specs.declared.Name.{Name}
use Rattle.sheet.specs.declared.read.Reading.{Reading}
use Rattle.naming.specs.Name.{is_in}
use Rattle.sheet.specs.Sheet.{Block, Sheet, Read}
use Rattle.sheet_laws.specs.Words.{In, Permuted, count_in, entries, SameUpToOrder}
use Rattle.sheet_laws.proofs.Names.{in_is, is-in}
use Rattle.sheet_laws.proofs.Rows.{block-for, self, back, still_in}
use Rattle.pulse.specs.declared.list.Pulse.{Pulse}
use Rattle.tables.specs.declared.Tables.{Tables}
use Rattle.tables.specs.Tables.{channels_in}
use Rattle.merge.specs.Taking.{part}
use Rattle.crosstalk.specs.declared.names.Crosstalk.{Crosstalk}
use Rattle.mixdown.specs.Sampled.{Rowed, out}
use Rattle.sampler.specs.declared.Request.{Request}
use Rattle.sampler.specs.Prepared.{Passes}
use Rattle.sampler.specs.Sampler.{sampled}
use Rattle.by_name.specs.Words.{Handed, Given, Planned, parts, AllKnown, counted, pairs_of, pairs_from}
use Rattle.by_name.specs.Call.{ByName}
use Rattle.by_name.proofs.Accepting.{accepts-known, accepted-knows}
use Rattle.by_name.proofs.Finding.{known_too}
use Rattle.by_name.proofs.Orders.{counted-order, placed-order}
use Rattle.by_name.proofs.Taking as Taking

-- ---- what is handed over, from what `read` promises: its answer's count, its names, and the matrix that it leaves

pub handed-over : (text : List ℕ) (before after : List Float) (answer : Reading) → Read text before answer after
    → Handed text before (record { count = count_in answer.answer; names = answer.names }) after
handed-over text before after answer kept =
    record {
      count = ap count_in kept.answered;
      names = kept.named;
      numbers = ap (take (count_in answer.answer * count_in answer.answer)) kept.left;
    }

-- ---- the plan

module _ (text : List ℕ) (before : List Float) (s : Sheet) (c : Crosstalk) (factors : List Float) (g : Given text before s c factors) (r : Name) where
  -- it is accepted exactly where the channel's name is good and the tables have it and every column
  pub accepted_where : (t : Tables) → Planned t r c factors ↔ AllKnown s t r
  accepted_where t = (accepted-knows text before s c factors g t r, accepts-known text before s c factors g t r)

  -- its names and factors, in the order of the columns
  pub names-and-factors : (t : Tables) → Planned t r c factors → In r s.columns → (b : Block) → In b s.blocks → b.row ≡ r
      → pairs_of t (parts t r c factors) ≡ pairs_from (counted (entries s.columns b.factors))
  names-and-factors t = Taking.block-pairs text before s c factors g t r

  either : {A : Type 0} → (In r s.columns → A) → ((In r s.columns → ⊥) → A) → A
  either {A = A} named not_named = by (is_in r s.columns) refl
    where
      by : (b : Bool) → is_in r s.columns ≡ b → A
      by true e = named (is-in r s.columns e)
      by false e = not_named (λ h. never (in_is r s.columns h) e)

  -- over any tables that have the channel and every column the names are the same, each with its factor
  same-pairs : (t u : Tables) → Planned t r c factors → Planned u r c factors → pairs_of t (parts t r c factors) ≡ pairs_of u (parts u r c factors)
  same-pairs t u a b =
      either
      (λ h. Taking.row-pairs text before s c factors g t r a h ∙ sym (Taking.row-pairs text before s c factors g u r b h))
      (λ out. Taking.own-pairs text before s c factors g t r a out ∙ sym (Taking.own-pairs text before s c factors g u r b out))

  pub places_say_nothing : (t u : Tables) → Permuted (channels_in t) (channels_in u) → Planned t r c factors
      → Planned u r c factors × (pairs_of t (parts t r c factors) ≡ pairs_of u (parts u r c factors))
  places_say_nothing t u same a =
      let k = accepted-knows text before s c factors g t r a in
      let b =
      accepts-known text before s c factors g u r
      (record { good = k.good; channel = known_too t u same r k.channel; columns = λ n h. known_too t u same n (k.columns n h) }) in
      (b, same-pairs t u a b)

-- ---- one sheet in two orders

module _ (text text' : List ℕ) (before before' : List Float) (s s' : Sheet) (c c' : Crosstalk) (factors factors' : List Float)
    (g : Given text before s c factors) (g' : Given text' before' s' c' factors') (same : SameUpToOrder s s') (r : Name) (t : Tables) where
  order-parts : Planned t r c factors → Planned t r c' factors' → Permuted (parts t r c factors) (parts t r c' factors')
  order-parts a a' = either text before s c factors g r named alone
    where
      named : In r s.columns → Permuted (parts t r c factors) (parts t r c' factors')
      named h =
          let b = block-for s g.reads.formed r h in
          let o = same.blocks b.block b.listed in
          let left = Taking.block-parts text before s c factors g t r a h b.block b.listed b.named in
          let right = Taking.block-parts text' before' s' c' factors' g' t r a' (still_in same.columns r h) o.block o.listed (o.same_row ∙ b.named) in
          rw (left, right) (placed-order t (counted-order o.same_entries))

      alone : (In r s.columns → ⊥) → Permuted (parts t r c factors) (parts t r c' factors')
      alone out =
          let left = Taking.takes-own text before s c factors g t r a out in
          let right = Taking.takes-own text' before' s' c' factors' g' t r a' (λ h. out (still_in (back same.columns) r h)) in
          let places : left.place ≡ right.place = cc (left.found_at, right.found_at) in
          rw (left.alone, right.alone, places) (self (part right.place one ∷ []))

  pub order-says-nothing : Planned t r c factors → Planned t r c' factors' × Permuted (parts t r c factors) (parts t r c' factors')
  order-says-nothing a =
      let k = accepted-knows text before s c factors g t r a in
      let a' =
      accepts-known text' before' s' c' factors' g' t r
      (record { good = k.good; channel = k.channel; columns = λ n h. k.columns n (still_in (back same.columns) n h) }) in
      (a', order-parts a a')

-- ---- The law: from the bytes to the sampling call, with no condition but that the call passes its refusals.

module _ (text : List ℕ) (before : List Float) (s : Sheet) (t : Tables) (r : Request) (c : Crosstalk) (factors : List Float) (bins : List (List Float)) (pulses : List Pulse)
    (st : Rowed) (work : List (List Float)) (marks : List ℕ) where
  pub by_name : Given text before s c factors → Passes t r c factors bins pulses st work marks → ByName s t r c factors bins pulses st work marks
  unfolding sampled
  by_name g p =
      record {
        row = Taking.takes-row text before s c factors g t r.channel p.plan;
        own = Taking.takes-own text before s c factors g t r.channel p.plan;
        rows = rw (p.fit, p.sizes, p.plan) refl;
        any_order = λ text' before' s' c' factors' g' same.
            let o = order-says-nothing text text' before before' s s' c c' factors factors' g g' same r.channel t p.plan in
            record { passes = record { fit = p.fit; sizes = p.sizes; plan = o.0 }; permuted = o.1 };
        any-places = λ u moved.
            let o = places_say_nothing text before s c factors g r.channel t u moved p.plan in
            record { passes = o.0; by_name = o.1 };
      }
