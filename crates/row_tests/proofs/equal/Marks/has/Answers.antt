-- `has` meets its contract: the goals that the check leaves open. Assumes nothing.
use mathlib.Core.Path.{ap}
use Rattle.row_tests.specs.Marks.{is_marked}
use Rattle.laws.specs.Masks.{in_mask}
use Rattle.row_tests.proofs.equal.Marks.has.Goals as goal

pub returns : goal.returns
unfolding is_marked in_mask
returns c = ap (λ words. is_marked words c.args.d) c.self.view_is
