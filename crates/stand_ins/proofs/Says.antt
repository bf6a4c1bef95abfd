-- What a contract says, as a proof can cite it: the facade of a function exports its clauses. Assumes nothing.
use mathlib.Core.Path.{◌≡◌}
use seplogic.Ra.Ura.{Ura}
use base.Logic.{sep}
use contract.Lifetimes.{Lfts}
use contract.Notation.{Connectives, connectives}
use denote.Triple.Entry.{Args, Res}
use denote.Triple.Clauses.{Ended, AtExit, Clauses}

module _ {M : Type 1} (𝓤 : Ura M) where
  abbrev 𝓛 : Connectives 𝓤
  𝓛 = connectives 𝓤

  open 𝓛 use {⌜◌⌝, ⊤ₛ}

  -- of what is passed (a), returned (r) and left (e): a contract asks for nothing, and ensures just this
  abbrev pub Says : (T : Ended) → Clauses 𝓤 T → ((κs : Lfts T.signature.lifetimes) → Args T.signature κs → Res T.signature κs → AtExit T κs → Type 0) → Type 2
  Says T c P =
      (κs : Lfts T.signature.lifetimes) (a : Args T.signature κs) (g : (c κs a).ghost) (r : Res T.signature κs) (e : AtExit T κs)
      → ((c κs a).requires g ≡ ⊤ₛ) × ((c κs a).ensures g r e ≡ ⌜ P κs a r e ⌝)

  -- of a contract of two clauses
  abbrev pub SaysTwo : (T : Ended) → Clauses 𝓤 T → ((κs : Lfts T.signature.lifetimes) → Args T.signature κs → Res T.signature κs → AtExit T κs → Type 0)
      → ((κs : Lfts T.signature.lifetimes) → Args T.signature κs → Res T.signature κs → AtExit T κs → Type 0) → Type 2
  SaysTwo T c P Q =
      (κs : Lfts T.signature.lifetimes) (a : Args T.signature κs) (g : (c κs a).ghost) (r : Res T.signature κs) (e : AtExit T κs)
      → ((c κs a).requires g ≡ ⊤ₛ) × ((c κs a).ensures g r e ≡ sep 𝓤 ⌜ P κs a r e ⌝ ⌜ Q κs a r e ⌝)
