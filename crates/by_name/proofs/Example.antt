-- The document's example by the law: whatever the tables, q2 takes q10's list times 0.1 and its own times 1.0, and q10, whose factor at q2
-- is zero, its own alone. Assumes nothing.
use mathlib.Core.Path.{◌≡◌, refl}
use mathlib.Core.List.{List, [], ◌∷◌}
use lib.Ieee.{Float, binary64, of_bits, of_fields, eq}
use Rattle.sheet_laws.specs.Example.{example_text, q10, q2, tenth, one, example}
use Rattle.sheet_laws.specs.Words.{here, there, entries}
use Rattle.tables.specs.declared.Tables.{Tables}
use Rattle.crosstalk.specs.declared.names.Crosstalk.{Crosstalk}
use Rattle.by_name.specs.Words.{Given, Planned, parts, counted, pair, pairs_of, pairs_from}
use Rattle.by_name.proofs.Laws.{names-and-factors}

module _ (before : List Float) (c : Crosstalk) (factors : List Float) (g : Given example_text before example c factors) (t : Tables) where
  pub q2-takes : Planned t q2 c factors
      → pairs_of t (parts t q2 c factors) ≡ pair q10 (of_bits binary64 tenth) ∷ pair q2 (of_bits binary64 one) ∷ []
  unfolding example entries counted pairs_from tenth one eq of_bits of_fields
  q2-takes a = names-and-factors example_text before example c factors g q2 t a (there here) (record { row = q2; factors = tenth ∷ one ∷ [] }) here refl

  pub q10-takes : Planned t q10 c factors → pairs_of t (parts t q10 c factors) ≡ pair q10 (of_bits binary64 one) ∷ []
  unfolding example entries counted pairs_from one eq of_bits of_fields
  q10-takes a = names-and-factors example_text before example c factors g q10 t a here (record { row = q10; factors = one ∷ 0 ∷ [] }) (there here) refl
