-- Document 01, "What a proved answer has to settle": "These stand-ins have to break it: all calls refused .., one fixed row or cosine .., rows untouched ..,
-- only the first pulse or bin sampled .., a count not tied to the list". What it is that no program for a call is one of them. A program may be asked
-- anything at all: whatever it is asked, it is enough that one input, or two, are among it. Definitions only.
use Rattle.std.specs.Prelude.{◌≡◌, Bool, true, false, List, Float, length}

-- a call: what it is given; what it gives back and leaves; what it promises of the two; whether it has accepted
pub record Call : Type 1 where
  pub Given : Type 0
  pub Left : Type 0
  pub Promise : Given → Left → Type 0
  pub accepted : Left → Bool

-- the call that promises what a definition says
abbrev pub equation : {Given Left : Type 0} → (Given → Left) → (Left → Bool) → Call
equation {Given} {Left} def accepted = record { Given = Given; Left = Left; Promise = λ x y. y ≡ def x; accepted = accepted }

module _ (c : Call) where
  -- a program that keeps the promise wherever it is asked
  abbrev pub Keeps : (c.Given → Type 0) → (c.Given → c.Left) → Type 0
  Keeps Asked f = (x : c.Given) → Asked x → c.Promise x (f x)

  -- "all calls refused": none that is asked x
  abbrev pub NotAllRefused : c.Given → Type 1
  NotAllRefused x =
      (Asked : c.Given → Type 0) (f : c.Given → c.Left) → Keeps Asked f → Asked x → ((a : c.Given) → Asked a → c.accepted (f a) ≡ false) → ⊥

  -- "rows untouched", "only the first pulse or bin sampled": none that is asked x shows at whatever it accepts what the stand-in would
  abbrev pub NotAlways : {C : Type 0} → (c.Left → C) → (c.Given → C) → c.Given → Type 1
  NotAlways shown would x =
      (Asked : c.Given → Type 0) (f : c.Given → c.Left) → Keeps Asked f → Asked x
      → ((a : c.Given) → Asked a → c.accepted (f a) ≡ true → shown (f a) ≡ would a) → ⊥

  -- "one fixed row or cosine", "a count not tied to the list": none that is asked x and y shows one thing, of a row one for each length, at whatever
  -- it accepts
  abbrev pub NotFixed : {C K : Type 0} → (c.Left → C) → (c.Given → K) → c.Given → c.Given → Type 1
  NotFixed {C} {K} shown key x y =
      (Asked : c.Given → Type 0) (f : c.Given → c.Left) → Keeps Asked f → Asked x → Asked y → (fixed : K → C)
      → ((a : c.Given) → Asked a → c.accepted (f a) ≡ true → shown (f a) ≡ fixed (key a)) → ⊥

-- ---- of a call on two rows: "rows untouched", and "one fixed row" for each length, in I and in Q

pub data Row : Type 0 where
  I Q : Row

pub record RowsMove (c : Call) (left : Row → c.Left → List Float) (came : Row → c.Given → List Float) (x y : c.Given) : Type 1 where
  pub untouched : (r : Row) → NotAlways c (left r) (came r) x
  pub fixed : (r : Row) → NotFixed c (left r) (λ (a : c.Given). length (came r a)) x y
