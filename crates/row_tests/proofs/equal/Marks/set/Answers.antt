-- `set` meets its contract: a bit shifted by less than 32 is not cut. Assumes nothing.
use Rattle.std.proofs.Common.{◌%◌, arith}
use native.Mathlib.Nat.{mod-lt}
use Rattle.row_tests.proofs.Marks.{shifted}
use Rattle.row_tests.specs.Marks.{marked_at}
use Rattle.row_tests.proofs.equal.Marks.set.Goals as goal

pub returns : goal.returns
unfolding marked_at
returns c = rw (shifted (c.args.d % 32) (mod-lt _ (omega arith)), c.self.view_is)
