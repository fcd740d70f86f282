-- `stands_before` meets its contract. The invariant: none of the rows passed equals row i. Assumes nothing.
use Rattle.std.proofs.Common.{ℕ, ◌<◌, ◌≡◌}
use Rattle.rules.specs.RowCheck.{row_at}
use Rattle.row_tests.proofs.equal.stands_before.Given as goal

abbrev pub invariant-loop-j : goal.invariant-loop-j
invariant-loop-j l = (k : ℕ) → k < l.j → row_at l.n l.rows k ≡ row_at l.n l.rows l.i → ⊥
