-- `walk` meets its contract. The invariant: the rows passed are good, and their marks are set. Assumes nothing.
use Rattle.rules.specs.Place.{Figure, Patch}
use Rattle.rules.specs.RowCheck.{Good}
use Rattle.row_tests.specs.Against.{Against}
use Rattle.row_tests.specs.Marks.{Noted}
use Rattle.row_check.proofs.walk.Given as goal

abbrev pub invariant-loop-i : goal.invariant-loop-i
invariant-loop-i l = record {
  noted : Noted l.n l.rows l.i l.marks;
  good : (F : Figure) (P : Patch) → Against F P l.tables l.size l.figure.kinds l.lines l.n → Good F P l.rows l.i;
}
