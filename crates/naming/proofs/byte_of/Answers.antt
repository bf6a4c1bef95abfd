-- `naming::byte_of` meets its contract: byte i of a word is what is left of it past 8 * i bits, below 256. Assumes nothing.
use mathlib.Core.Path.{sym}
use Rattle.naming.specs.Name.{bytes_of_word}
use Rattle.naming.proofs.Words.{low-at}
use Rattle.naming.proofs.byte_of.Goals as goal

pub returns : goal.returns
unfolding bytes_of_word
returns c = sym (low-at 8 c.args.word c.args.i c.requires)
