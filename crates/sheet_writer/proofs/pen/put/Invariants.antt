-- `pen::put` meets its contract. The invariant: whole bytes went out since the field was taken up, and nothing else changed. Assumes nothing.
use Prim.Native.Nat.{◌≤◌}
use mathlib.Core.List.{[]}
use Rattle.sheet_writer.specs.Pen.{Added}
use Rattle.sheet_writer.proofs.pen.put.Given as goal

abbrev pub invariant-loop-next : goal.invariant-loop-next
invariant-loop-next l = (l.next.count ≤ 31) × Added [] l.initial.next l.initial.bytes l.next l.bytes

abbrev pub decreases-loop-next : goal.decreases-loop-next
decreases-loop-next l = l.next.count
