-- What refutes a stand-in: an input at which the promise allows one outcome, and that differs from the stand-in's. Assumes nothing.
use mathlib.Core.Path.{◌≡◌, refl, sym, ap, ◌∙◌}
use mathlib.Core.Bool.{Bool, true, false, true≢false}
use mathlib.Core.List.{List, [], ◌∷◌}
use lib.Ieee.{Float, nan, eq, round}
use lib.ListN.{length, get_or}
use Rattle.bench_table.specs.Numbers.{whole}
use Rattle.stand_ins.specs.StandIns.{Call, equation, NotAllRefused, NotAlways, NotFixed, Row, I, Q, RowsMove}

-- at x the promise allows y and nothing else
abbrev pub Only : (c : Call) → c.Given → c.Left → Type 0
Only c x y = (z : c.Left) → c.Promise x z → z ≡ y

module _ (c : Call) where
  pub not-all-refused : (x : c.Given) (y : c.Left) → Only c x y → c.accepted y ≡ true → NotAllRefused c x
  not-all-refused x y only takes Asked f keeps asked refuses = true≢false (sym takes ∙ ap c.accepted (sym (only (f x) (keeps x asked))) ∙ refuses x asked)

  -- a test tells what is shown from what the stand-in would show
  pub not-always : {C : Type 0} (shown : c.Left → C) (would : c.Given → C) (test : C → Bool) (x : c.Given) (y : c.Left) → Only c x y → c.accepted y ≡ true
      → test (shown y) ≡ true → test (would x) ≡ false → NotAlways c shown would x
  not-always shown would test x y only takes is-so is-not Asked f keeps asked always =
      let is = only (f x) (keeps x asked) in
      true≢false (sym is-so ∙ ap (λ (z : c.Left). test (shown z)) (sym is) ∙ ap test (always x asked (ap c.accepted is ∙ takes)) ∙ is-not)

  -- a test tells what is shown at x from what is shown at y
  pub not-fixed : {C K : Type 0} (shown : c.Left → C) (key : c.Given → K) (test : C → Bool) (x y : c.Given) (u v : c.Left) → Only c x u → Only c y v
      → c.accepted u ≡ true → c.accepted v ≡ true → key x ≡ key y → test (shown u) ≡ true → test (shown v) ≡ false → NotFixed c shown key x y
  not-fixed shown key test x y u v only_x only-y takes-x takes-y alike is-so is-not Asked f keeps asked-x asked-y fixed always =
      let is_x = only_x (f x) (keeps x asked-x) in
      let is_y = only-y (f y) (keeps y asked-y) in
      let at_x = ap shown (sym is_x) ∙ always x asked-x (ap c.accepted is_x ∙ takes-x) in
      let at_y = ap shown (sym is_y) ∙ always y asked-y (ap c.accepted is_y ∙ takes-y) in
      true≢false (sym is-so ∙ ap test (at_x ∙ ap fixed alike ∙ sym at_y) ∙ is-not)

-- ---- of a call on two rows: rows of 1 hold 2 then, and rows of 0 do not

-- whether a row's first sample is 2
unfoldable pub is_two : List Float → Bool
is_two row = eq (get_or row 0 nan) (whole 2)

pub one-is-not : is_two (whole 1 ∷ []) ≡ false
unfolding is_two eq round
one-is-not = refl

module _ (c : Call) (left : Row → c.Left → List Float) (came : Row → c.Given → List Float) where
  pub rows-move : (x y : c.Given) (u v : c.Left) → Only c x u → Only c y v → c.accepted u ≡ true → c.accepted v ≡ true
      → ((r : Row) → came r x ≡ whole 1 ∷ []) → ((r : Row) → came r y ≡ whole 0 ∷ [])
      → ((r : Row) → is_two (left r u) ≡ true) → ((r : Row) → is_two (left r v) ≡ false) → RowsMove c left came x y
  rows-move x y u v only_x only-y takes-x takes-y one nought two not-two =
      record {
        untouched = λ r. not-always c (left r) (came r) is_two x u only_x takes-x (two r) (ap is_two (one r) ∙ one-is-not);
        fixed = λ r. not-fixed c (left r) (λ (a : c.Given). length (came r a)) is_two x y u v only_x only-y takes-x takes-y (ap length (one r) ∙ sym (ap length (nought r))) (two r) (not-two r);
      }

  -- the same, row by row
  pub both-rows-move : (x y : c.Given) (u v : c.Left) → Only c x u → Only c y v → c.accepted u ≡ true → c.accepted v ≡ true
      → came I x ≡ whole 1 ∷ [] → came Q x ≡ whole 1 ∷ [] → came I y ≡ whole 0 ∷ [] → came Q y ≡ whole 0 ∷ []
      → is_two (left I u) ≡ true → is_two (left Q u) ≡ true → is_two (left I v) ≡ false → is_two (left Q v) ≡ false → RowsMove c left came x y
  both-rows-move x y u v only_x only-y takes-x takes-y i-one q-one i-nought q-nought i-two q-two i-not q-not =
      rows-move x y u v only_x only-y takes-x takes-y one nought two not-two
    where
      one : (r : Row) → came r x ≡ whole 1 ∷ []
      one I = i-one
      one Q = q-one

      nought : (r : Row) → came r y ≡ whole 0 ∷ []
      nought I = i-nought
      nought Q = q-nought

      two : (r : Row) → is_two (left r u) ≡ true
      two I = i-two
      two Q = q-two

      not-two : (r : Row) → is_two (left r v) ≡ false
      not-two I = i-not
      not-two Q = q-not

-- ---- of a call that promises what a definition says

module _ {G L : Type 0} (def : G → L) (accepted : L → Bool) where
  pub accepts : (x : G) → accepted (def x) ≡ true → NotAllRefused (equation def accepted) x
  accepts x takes = not-all-refused (equation def accepted) x (def x) (λ z p. p) takes

  pub varies : {C K : Type 0} (shown : L → C) (key : G → K) (test : C → Bool) (x y : G) → accepted (def x) ≡ true → accepted (def y) ≡ true → key x ≡ key y
      → test (shown (def x)) ≡ true → test (shown (def y)) ≡ false → NotFixed (equation def accepted) shown key x y
  varies shown key test x y takes-x takes-y alike is-so is-not =
      not-fixed (equation def accepted) shown key test x y (def x) (def y) (λ z p. p) (λ z p. p) takes-x takes-y alike is-so is-not
