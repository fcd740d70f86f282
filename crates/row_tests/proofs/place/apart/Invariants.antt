-- `apart` meets its contract. The invariant: just the entries passed are marked, and no two of them are the same. Assumes nothing.
use Rattle.row_tests.proofs.Used.{Used}
use Rattle.row_tests.proofs.place.apart.Given as goal

abbrev pub invariant-loop-v : goal.invariant-loop-v
invariant-loop-v l = Used l.row l.used l.v-index
