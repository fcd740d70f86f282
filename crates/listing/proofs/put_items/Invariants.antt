-- `put_items` meets its contract. The invariants: the place is within the bytes. Assumes nothing.
use Rattle.std.proofs.Common.{◌≤◌, length}
use Rattle.listing.proofs.put_items.Given as goal

abbrev pub invariant-loop-number : goal.invariant-loop-number
invariant-loop-number l =
    (goal.iterator-loop-number).can_next l.number-iterator ×
    (goal.iterator-loop-number).is_finite l.number-iterator ×
    (l.at ≤ length l.out)

abbrev pub invariant-loop-line : goal.invariant-loop-line
invariant-loop-line l = l.at ≤ length l.out
