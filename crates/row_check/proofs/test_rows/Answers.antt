-- `test_rows`: the arrays hold the figure, and the list its lines. Assumes nothing.
use Rattle.rules.specs.Calls.{figure_of}
use Rattle.row_check.proofs.Loaded.{against, counted_rows}
use Rattle.row_check.proofs.test_rows.Goals as goal

pub walk-requires : goal.walk-requires
walk-requires c = let p = c.requires.patch in (figure_of c.args.sheet.now, (p.0, against _ c.requires.figure c.ends_of-lines.ensures.accepted c.ends_of-lines.ensures.holds c.as_slice.ensures.value p.0 p.1 p.2))

pub returns : goal.returns
returns c = λ P T e. counted_rows _ c.requires.figure (c.walk.ensures (figure_of c.args.sheet.now) P (against _ c.requires.figure c.ends_of-lines.ensures.accepted c.ends_of-lines.ensures.holds c.as_slice.ensures.value P T e))
