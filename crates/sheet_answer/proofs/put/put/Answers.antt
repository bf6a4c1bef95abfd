-- `sheet_answer::put::put` meets its contract, by the library's law of a part that is written. Assumes nothing.
use mathlib.Core.Path.{refl, ◌∙◌}
use native.Mathlib.Omega.{arith}
use lib.ListN.{length}
use lib.Seq.{take-length}
use Rattle.std.proofs.lemmas.Slice.{put_mid-paste}
use Rattle.sheet_answer.proofs.put.put.Goals as goal

pub returns : goal.returns
returns c =
    let key = c.args.key.now in
    record {
      next = refl;
      left = put_mid-paste c.args.at _ c.args.out.now _ key (length key) c.copy_from_slice.ensures.after (omega arith) refl ∙ rw (take-length key);
    }
