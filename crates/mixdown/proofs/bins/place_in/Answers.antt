use Rattle.mixdown.proofs.Held.{rows-held, rows_none, rows-many}
use Rattle.mixdown.proofs.Numbers.{row-whole}
use Rattle.mixdown.specs.Starts.{bins_held}
use Rattle.tables.proofs.Sizes.{eight_channels}
use Rattle.tables.specs.declared.Tables.{Tables}
use Rattle.commands.specs.Play.{rows_of}
use Rattle.pulse.specs.Bin.{place_of}
use Rattle.std.specs.Prelude.{Float}
use Rattle.std.proofs.Common.{◌≡◌, ℕ, ◌+◌, ◌*◌, ◌-◌, List, ◌++◌, length, take, drop, refl, sym, ap, ◌∙◌, lt-ltb, le-ltb, arith}
use Rattle.mixdown.proofs.bins.place_in.Goals as goal

-- the place found in the part that is handed on is the place among the channel's bins
place-is : (t : Tables) (bins : List (List Float)) (i many at : ℕ) (row head : List Float) → length row ≡ 77 → many ≡ bins_held t i → head ≡ take 5 row
    → at ≡ place_of (head ++ take 72 (drop 5 row)) (take (64 * i + many - 64 * i) (drop (64 * i) bins)) → at ≡ place_of row (rows_of t bins i)
place-is t bins i many at row head long is heads e =
    let size : 64 * i + many - 64 * i ≡ many = omega arith in
    e
    ∙ ap (λ (l : List Float). place_of l (take (64 * i + many - 64 * i) (drop (64 * i) bins))) (row-whole row long head heads)
    ∙ ap (λ (k : ℕ). place_of row (take k (drop (64 * i) bins))) (size ∙ is)
    ∙ ap (place_of row) (rows-held t bins i)

pub returns-then-many-eq0 : goal.returns-then-many-eq0
unfolding place_of
returns-then-many-eq0 c = rw (rows_none c.args.t c.args.bins.now c.args.i (sym c.bins_held-many.ensures ∙ c.if-many-eq0.true)) refl

pub returns-then-at-many : goal.returns-then-at-many
returns-then-at-many c =
    let a = c.args in
    let at = place-is a.t a.bins.now a.i _ _ a.row _ c.well_formed.1.1.1.0.1.0.1 c.bins_held-many.ensures c.head_in.ensures c.place-at.ensures in
    let long = rows-many a.t a.bins.now a.i (eight_channels a.t _ c.well_formed.0) c.requires in
    rw (at, lt-ltb (place_of a.row (rows_of a.t a.bins.now a.i)) (length (rows_of a.t a.bins.now a.i)) (omega (arith, at, long, c.bins_held-many.ensures, c.if-at-many.true))) refl

pub returns : goal.returns
returns c =
    let a = c.args in
    let at = place-is a.t a.bins.now a.i _ _ a.row _ c.well_formed.1.1.1.0.1.0.1 c.bins_held-many.ensures c.head_in.ensures c.place-at.ensures in
    let long = rows-many a.t a.bins.now a.i (eight_channels a.t _ c.well_formed.0) c.requires in
    rw (le-ltb (place_of a.row (rows_of a.t a.bins.now a.i)) (length (rows_of a.t a.bins.now a.i)) (omega (arith, at, long, c.bins_held-many.ensures, c.if-at-many.false))) refl
