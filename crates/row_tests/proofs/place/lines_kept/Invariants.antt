-- `lines_kept` meets its contract. The invariant: the lines passed lie on patch lines. Assumes nothing.
use Rattle.std.proofs.Common.{take}
use Rattle.row_tests.specs.Against.{LinesKept}
use Rattle.row_tests.proofs.place.lines_kept.Given as goal

abbrev pub invariant-loop-line : goal.invariant-loop-line
invariant-loop-line l = LinesKept l.tables (take l.line-index l.lines) l.row
