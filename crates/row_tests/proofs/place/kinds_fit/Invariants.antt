-- `kinds_fit` meets its contract. The invariant: the entries passed fit. Assumes nothing.
use Rattle.std.proofs.Common.{ℕ, ◌<◌, ◌≡◌, get_or}
use Rattle.rules.specs.Place.{entry}
use Rattle.patch.specs.Tables.{kind_at}
use Rattle.row_tests.proofs.place.kinds_fit.Given as goal

abbrev pub invariant-loop-u : goal.invariant-loop-u
invariant-loop-u l = (k : ℕ) → k < l.u → (entry l.row k < l.size) × (kind_at l.tables (entry l.row k) ≡ get_or l.kinds k 0)
