-- `same_fours` meets its contract. The invariant: the fours passed are equal. Assumes nothing.
use Rattle.std.proofs.Common.{ℕ, ◌<◌, ◌≡◌, get_or, []}
use Rattle.row_tests.proofs.equal.same_fours.Given as goal

abbrev pub invariant-loop-k : goal.invariant-loop-k
invariant-loop-k l = (i : ℕ) → i < l.k → get_or l.fours i [] ≡ get_or l.others i []
