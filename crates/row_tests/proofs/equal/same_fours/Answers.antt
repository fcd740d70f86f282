-- `same_fours` meets its contract: lists with the same members are the same. Assumes nothing.
use Rattle.std.proofs.Common.{arith, []}
use Rattle.std.proofs.lemmas.List.{ext_get_or}
use Rattle.row_tests.proofs.equal.same_fours.Goals as goal

pub returns : goal.returns
returns c = ext_get_or [] c.args.fours.now c.args.others.now c.requires (λ i h. c.loop-k.invariant i (omega (arith, h, c.loop-k-test.false)))
