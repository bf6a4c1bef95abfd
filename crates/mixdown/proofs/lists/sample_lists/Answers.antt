use Rattle.mixdown.proofs.Listed.{merged-few}
use Rattle.mixdown.proofs.Held.{held-most, rows-many}
use Rattle.mixdown.proofs.Appeared.{parts-length, parts_at}
use Rattle.mixdown.proofs.Sizes.{eight-places, eight-factors}
use Rattle.tables.proofs.Sizes.{eight_channels}
use Rattle.merge.specs.Taking.{Part, part, parts_in}
use Rattle.mixdown.proofs.Allbins.{all_start, next-list, list-refused, all_done}
use Rattle.mixdown.specs.Starts.{merged_in}
use Rattle.std.specs.Prelude.{Float, Err}
use Rattle.std.specs.Float.{nan}
use Rattle.std.proofs.Common.{◌≡◌, ◌≤◌, List, length, get_or, sym, arith, rules}
use Rattle.mixdown.proofs.lists.sample_lists.Goals as goal

pub loop-k-init : goal.loop-k-init
loop-k-init c = all_start _ _ _ _ _ _ _

pub loop-k-preserved : goal.loop-k-preserved
loop-k-preserved c =
    let a = c.args in
    let k = c.loop-k.k in
    let places = eight-places a.taking _ c.well_formed.1.1.0 in
    let factors = eight-factors a.taking _ c.well_formed.1.1.0 in
    let many = parts-length a.taking places factors c.requires.bins_len.3 in
    let list : Part = part (get_or a.taking.places k 0) (get_or a.taking.factors k nan) in
    let cell : list ≡ get_or (parts_in a.taking) k list = sym (parts_at a.taking places factors c.requires.bins_len.3 k list c.loop-k-test.true) in
    let few : (r : List Float) → length (merged_in a.t a.bins.now a.work.now a.marks.now (parts_in a.taking) a.ends.ends r) ≤ 65536 = λ r. merged-few a.t a.bins.now a.work.now a.marks.now (parts_in a.taking) a.ends.ends r c.requires.bins_len.1 c.requires.bins_len.2 (omega (arith, many, c.requires.bins_len.3)) in
    let long = rows-many a.t a.bins.now list.place (eight_channels a.t _ c.well_formed.1.0) c.requires.bins_len.0 in
    let held = held-most a.t a.bins.now list.place in
    next-list c.loop-k.invariant list cell (omega (arith, many, c.loop-k-test.true)) c.requires.q_value.1 few (omega (arith, long, held)) _ _ c.sample_list.ensures _ c.in_ok-n.was

pub returns-in_err-n : goal.returns-in_err-n
returns-in_err-n c =
    let a = c.args in
    let k = c.loop-k.k in
    let places = eight-places a.taking _ c.well_formed.1.1.0 in
    let factors = eight-factors a.taking _ c.well_formed.1.1.0 in
    let many = parts-length a.taking places factors c.requires.bins_len.3 in
    let list : Part = part (get_or a.taking.places k 0) (get_or a.taking.factors k nan) in
    let cell : list ≡ get_or (parts_in a.taking) k list = sym (parts_at a.taking places factors c.requires.bins_len.3 k list c.loop-k-test.true) in
    let few : (r : List Float) → length (merged_in a.t a.bins.now a.work.now a.marks.now (parts_in a.taking) a.ends.ends r) ≤ 65536 = λ r. merged-few a.t a.bins.now a.work.now a.marks.now (parts_in a.taking) a.ends.ends r c.requires.bins_len.1 c.requires.bins_len.2 (omega (arith, many, c.requires.bins_len.3)) in
    let long = rows-many a.t a.bins.now list.place (eight_channels a.t _ c.well_formed.1.0) c.requires.bins_len.0 in
    let held = held-most a.t a.bins.now list.place in
    let same : c.from_residual.result ≡ Err c.in_err-n.field-0.0 = search rules in
    rw same (list-refused c.loop-k.invariant list cell (omega (arith, many, c.loop-k-test.true)) c.requires.q_value.1 few (omega (arith, long, held)) _ _ c.sample_list.ensures _ c.in_err-n.was)

pub returns : goal.returns
returns c =
    let a = c.args in
    let many = parts-length a.taking (eight-places a.taking _ c.well_formed.1.1.0) (eight-factors a.taking _ c.well_formed.1.1.0) c.requires.bins_len.3 in
    all_done c.loop-k.invariant (omega (arith, many))
