-- `fields::words::is_word` meets its contract. Nothing stands behind the key exactly where its place is empty. Assumes nothing.
use Rattle.fields.proofs.Values.{found_none, found-value, found_inside, bare-exactly}
use Rattle.fields.specs.Words.{is_word}
use Rattle.fields.proofs.words.is_word.Goals as goal

pub returns-in-Some : goal.returns-in-Some
unfolding is_word
returns-in-Some c =
    let inside = found_inside c.args.line.now c.args.k c.args.key.now c.value_at.result c.value_at.ensures
    c.in-Some.value.from c.in-Some.value.to c.in-Some.is in
    rw (found-value c.args.line.now c.args.k c.args.key.now c.value_at.result c.value_at.ensures
    c.in-Some.value.from c.in-Some.value.to c.in-Some.is) (bare-exactly c.args.line.now
    c.in-Some.value.from c.in-Some.value.to inside.0 inside.1)

pub returns-in-None : goal.returns-in-None
unfolding is_word
returns-in-None c =
    rw (found_none c.args.line.now c.args.k c.args.key.now c.value_at.result c.value_at.ensures c.in-None.is)
