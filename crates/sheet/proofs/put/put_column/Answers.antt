-- `sheet::put::put_column` meets its contract. Assumes nothing.
use Rattle.sheet.specs.Sheet.{column_key}
use Rattle.sheet.proofs.put.put_column.Goals as goal

pub put_name-requires : goal.put_name-requires
unfolding column_key
put_name-requires c = c.requires

pub returns : goal.returns
unfolding column_key
returns c = c.put_name.ensures
