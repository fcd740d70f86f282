-- `ends_of` meets its contract: the goals that the check leaves open. Assumes nothing.
use Rattle.std.proofs.Common.{ap, arith}
use Rattle.rules.specs.Calls.{ends_of}
use Rattle.row_tests.proofs.Ends.{read_more, all_read}
use Rattle.row_tests.proofs.place.ends_of.Goals as goal

pub loop-j-preserved : goal.loop-j-preserved
loop-j-preserved c = read_more c.loop-j.invariant c.push.ensures.items (ap ends_of c.line-line.ensures)

pub returns-clause-holds : goal.returns-clause-holds
returns-clause-holds c = all_read c.loop-j.invariant (omega arith) (omega (arith, c.lines-j-end.ensures.few))
