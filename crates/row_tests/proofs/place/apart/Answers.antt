-- `apart` meets its contract: the goals that the check leaves open. Assumes nothing.
use Rattle.row_tests.proofs.Used.{none_used}
use Rattle.row_tests.proofs.place.apart.Goals as goal

pub loop-v-init : goal.loop-v-init
loop-v-init c = none_used _
