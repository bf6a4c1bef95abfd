-- The crosstalk is what was taken behind the line, and the job goes on behind that.
use Rattle.std.proofs.Common.{◌≡◌, ℕ, ◌+◌, ◌-◌, ◌≤◌, min, Bool, true, false, leb, List, [], length, take, drop, sym, refl, ap, ◌∙◌, subst, arith, length-drop, drop_of_length-le, length-take, take_all, leb-false, leb-true}
use lib.Ieee.{Float}
use Rattle.job_sheet.specs.declared.Taken.{Taken}
use Rattle.crosstalk.specs.declared.names.Crosstalk.{Crosstalk}
use Rattle.job.specs.declared.line.Line.{Line}
use Rattle.job_sheet.specs.Inset.{Took, Within}
use Rattle.bench.specs.declared.show.Reply.{Reply}
use Rattle.bench.specs.declared.state.State.{State}
use Rattle.bench.specs.Sheet.{Leaves, TookBy, GoesOn, Tells}
use Rattle.bench.proofs.steps.tell.Goals as goal

module _ (text : List ℕ) (end behind : ℕ) (inside : end ≤ length text) (e : behind ≡ min (end + 1) (length text)) where
  -- what is behind the line is what is left of the text
  rest-is : take (length text - behind) (drop behind text) ≡ drop (end + 1) text
  rest-is = take_all (length text - behind) (drop behind text) (omega (arith, length-drop behind text)) ∙ by (leb (end + 1) (length text)) refl
    where
      by : (b : Bool) → leb (end + 1) (length text) ≡ b → drop behind text ≡ drop (end + 1) text
      by true f = let same : behind ≡ end + 1 = omega (arith, e, leb-true (end + 1) (length text) f) in ap (λ (k : ℕ). drop k text) same
      by false f =
          let over = leb-false (end + 1) (length text) f in
          let here : drop behind text ≡ [] = drop_of_length-le text {i = behind} (omega (arith, e, over)) in
          let there : drop (end + 1) text ≡ [] = drop_of_length-le text {i = end + 1} (omega (arith, over)) in
          here ∙ sym there

  goes_on : (r : Taken) → Within r (take (length text - behind) (drop behind text)) → GoesOn (length text) end r.lines (end + 1 + r.bytes)
  goes_on r w =
      let long = rw (length-take (length text - behind) (drop behind text), length-drop behind text) at w.bytes in
      record { lines-passed = omega (arith, w.lines); near = omega (arith, long, e) }

  tells : (said : Line) (c d : Crosstalk) (before between after : List Float) (r : Taken) (s : State) (reply : Reply) → Leaves said before between
      → TookBy said (take (length text - behind) (drop behind text)) c d between r after → s.crosstalk ≡ r.crosstalk
      → Tells said text end c before (record { state = s; reply = reply; lines = r.lines; next = end + 1 + r.bytes }) after
  tells said c d before between after r s reply leaves took crossed =
      record {
        taken = r;
        sheet = λ count f. subst (λ (l : List ℕ). Took l count c before r after) rest-is (subst (λ (l : List Float). Took (take (length text - behind) (drop behind text)) count c l r after) (leaves count f) (took.sheet count f));
        crosstalk = crossed;
        lines = refl;
        next = refl;
        other = λ h. let none = took.other h in (ap (λ (x : Taken). x.lines) none, rw none (omega arith));
        goes_on = goes_on r took.within;
      }

pub overflow_add-next : goal.overflow_add-next
overflow_add-next c =
    let goes = goes_on c.args.text.now c.args.end _ c.requires.1 c.min-behind.ensures _ c.sheet_behind-taken.ensures.within in
    omega (arith, goes.near)

pub returns : goal.returns
returns c =
    tells c.args.text.now c.args.end _ c.requires.1 c.min-behind.ensures _ _ _ _ _ _ _ _ _ c.take_factors.ensures c.sheet_behind-taken.ensures
    (ap (λ (x : State). x.crosstalk) c.with_crosstalk-state.ensures)
