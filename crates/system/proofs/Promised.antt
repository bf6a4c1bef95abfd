-- Each call's promise allows one outcome, `outcome`, and no other: a contract is an equation, and what it does not name stays. Assumes nothing.
use Rattle.quant.specs.Refusal.{Answer}
use mathlib.Core.Path.{◌≡◌, refl, ap, ◌∙◌}
use mathlib.Core.List.{List}
use lib.Ieee.{Float}
use Rattle.tables.specs.Tables.{made}
use Rattle.system.specs.System.{State, Call, make, add-channel, add-shape, add-spline, execute, sample, mixer, iir, fir, Outcome, told, with_tables, with_rows, Contract, written, adopted, held, Promised, tabled, has_formed, remade, has_run, has_sampled, outcome}

module _ (s : State) where
  -- a contract is an equation, and so it holds of what it gives
  pub answered : (c : Call) → Promised s c (outcome s c)
  unfolding outcome Contract written held
  answered (make amp time oversize) = record { left = with_tables s (made amp time oversize).tables; contract = refl; rest = refl; after = refl }
  answered (add-channel n x) = record { left = _; contract = refl; rest = refl; after = refl }
  answered (add-shape n) = record { left = _; contract = refl; rest = refl; after = refl }
  answered (add-spline n p c t) = record { left = _; contract = refl; rest = refl; after = refl }
  answered (execute commands) = record { left = _; contract = refl; rest = refl; after = refl }
  answered (sample r c factors) = record { left = _; contract = refl; rest = refl; after = refl }
  answered (mixer n m o) = record { left = _; contract = record { answer = refl; first = refl; second = refl }; rest = refl; after = refl }
  answered (iir n sections) = record { left = _; contract = record { answer = refl; i-row = refl; q-row = refl }; rest = refl; after = refl }
  answered (fir n taps) = record { left = _; contract = record { answer = refl; first = refl; second = refl }; rest = refl; after = refl }

  -- of a step: the answer and both rows are told, and the rest stays
  step-only : (o : Outcome) (u : State) (a : Answer) (i q : List Float) → o.after ≡ u → u ≡ with_rows s u.rows.i u.rows.q → o.answer ≡ a → u.rows.i ≡ i → u.rows.q ≡ q
      → o ≡ told a (with_rows s i q)
  step-only o u a i q after rest answer first second = ap (told o.answer) (after ∙ rest) ∙ (λ j. told (answer j) (with_rows s (first j) (second j)))

  pub only : (c : Call) (o : Outcome) → Promised s c o → o ≡ outcome s c
  unfolding outcome Contract written held
  only (make amp time oversize) o p = ap (told o.answer) (p.after ∙ ap (adopted o.answer s) p.rest) ∙ ap (remade s) p.contract
  only (add-channel n x) o p = ap (told o.answer) (p.after ∙ p.rest) ∙ ap (tabled s) p.contract
  only (add-shape n) o p = ap (told o.answer) (p.after ∙ p.rest) ∙ ap (has_formed s) p.contract
  only (add-spline n d c t) o p = ap (told o.answer) (p.after ∙ p.rest) ∙ ap (has_formed s) p.contract
  only (execute commands) o p = ap (told o.answer) (p.after ∙ p.rest) ∙ ap (has_run s) p.contract
  only (sample r c factors) o p = ap (told o.answer) (p.after ∙ p.rest) ∙ ap (has_sampled s) p.contract
  only (mixer n m offsets) o p = step-only o _ _ _ _ p.after p.rest p.contract.answer p.contract.first p.contract.second
  only (iir n sections) o p = step-only o _ _ _ _ p.after p.rest p.contract.answer p.contract.i-row p.contract.q-row
  only (fir n taps) o p = step-only o _ _ _ _ p.after p.rest p.contract.answer p.contract.first p.contract.second
