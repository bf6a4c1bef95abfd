-- `sheet::print::two_lines` meets its contract: a name over 16 bytes long is cut at 16. Assumes nothing.
use lib.ListN.{length-take}
use Rattle.naming.proofs.Words.{length-sixteen}
use Rattle.naming.specs.Name.{bytes_of}
use Rattle.sheet.specs.Puts.{two_lines}
use Rattle.sheet.proofs.print.two_lines.Goals as goal

pub returns : goal.returns
unfolding two_lines bytes_of
returns c = rw (length-take, length-sixteen, c.min.ensures)
