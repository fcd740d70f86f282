-- `digest` meets its contract: the goals that the check leaves open. Assumes nothing.
use Rattle.std.proofs.Common.{arith}
use native.Mathlib.Nat.{mod-lt}
use Rattle.row_tests.proofs.Marks.{digest_more, digest_end}
use Rattle.row_tests.proofs.equal.digest.Goals as goal

pub loop-x-preserved : goal.loop-x-preserved
loop-x-preserved c = record { small = mod-lt _ (omega arith); same = digest_more c.args.row.now c.loop-x.d c.loop-x.x-index _ c.loop-x-test.true c.from.ensures c.loop-x.invariant.same }

pub returns : goal.returns
returns c = (digest_end c.args.row.now _ _ c.loop-x-test.false c.loop-x.invariant.same, omega (arith, c.loop-x.invariant.small))
