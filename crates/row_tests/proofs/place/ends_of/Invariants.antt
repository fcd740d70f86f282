-- `ends_of` meets its contract. The invariant: the list has the ends of the lines passed. Assumes nothing.
use Rattle.row_tests.proofs.Ends.{EndsRead}
use Rattle.row_tests.proofs.place.ends_of.Given as goal

abbrev pub invariant-loop-j : goal.invariant-loop-j
invariant-loop-j l = EndsRead l.sheet l.ends.items l.j
