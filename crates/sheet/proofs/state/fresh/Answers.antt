-- `sheet::state::fresh` meets its contract. Assumes nothing.
use mathlib.Core.Path.{refl}
use native.Mathlib.Omega.{arith}
use Rattle.sheet.specs.Sheet.{blank, single, among}
use Rattle.sheet.proofs.state.fresh.Goals as goal

pub returns : goal.returns
unfolding blank single among
returns c =
    record {
      is = refl;
      fits =
          record {
            most = c.requires;
            columns-most = omega arith;
            rows-most = omega arith;
            factors-most = omega arith;
            columns-long = refl;
            rows_long = refl;
            factors-long = refl;
            blanks = rw c.blank.ensures;
            single-rows = refl;
            rows-columns = refl;
          };
    }
