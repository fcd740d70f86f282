-- `write_kinds` meets its contract. The invariant: the bits of the kinds so far were put down. Assumes nothing.
use Prim.Native.Nat.{◌<◌}
use lib.ListN.{take}
use Rattle.rules.specs.Sheet.{kind_bits}
use Rattle.sheet_writer.specs.Pen.{Added}
use Rattle.sheet_writer.proofs.write_kinds.Given as goal

abbrev pub invariant-loop-kind : goal.invariant-loop-kind
invariant-loop-kind l = (l.pen.count < 8) × Added (kind_bits (take l.kind-index l.kinds)) l.initial.pen l.initial.bytes l.pen l.bytes
