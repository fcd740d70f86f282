-- `write_lines` meets its contract. The invariant: the bits of the first j lines were put down. Assumes nothing.
use Prim.Native.Nat.{◌<◌}
use mathlib.Core.List.{map}
use Rattle.laws.specs.Lists.{upto}
use Rattle.rules.specs.Sheet.{line_bits}
use Rattle.sheet_writer.specs.Writing.{line_in}
use Rattle.sheet_writer.specs.Pen.{Added}
use Rattle.sheet_writer.proofs.write_lines.Given as goal

abbrev pub invariant-loop-j : goal.invariant-loop-j
invariant-loop-j l = (l.pen.count < 8) × Added (line_bits (map (line_in l.lines) (upto l.j 0))) l.initial.pen l.initial.bytes l.pen l.bytes
