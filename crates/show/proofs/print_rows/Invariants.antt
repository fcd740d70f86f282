-- Prints the first rows of a list as far as it reaches: the rows printed and the rest of the list are all of it. Assumes nothing.
use Rattle.std.proofs.Common.{◌≡◌, ◌+◌, ◌*◌, length}
use Rattle.show.proofs.print_rows.Given as goal

abbrev pub invariant-loop-done : goal.invariant-loop-done
invariant-loop-done g l = l.done * l.n + length l.rest ≡ length l.list
