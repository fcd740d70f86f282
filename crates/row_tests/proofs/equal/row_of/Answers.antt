-- `row_of` meets its contract: the goals that the check leaves open. Assumes nothing.
use Rattle.row_tests.proofs.Rows.{row_part}
use Rattle.row_tests.proofs.equal.row_of.Goals as goal

pub returns : goal.returns
returns c = row_part c.args.n c.args.i c.args.rows.now
