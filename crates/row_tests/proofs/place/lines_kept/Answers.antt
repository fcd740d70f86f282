-- `lines_kept` meets its contract: each line that is read is one of the list. Assumes nothing.
use Rattle.std.proofs.Common.{sym, ◌∙◌, add-one}
use mathlib.Core.Bool.{false≢true}
use Rattle.laws.proofs.Lists.{get_or_in}
use Rattle.row_tests.proofs.Places.{kept_more}
use Rattle.row_tests.proofs.place.lines_kept.Goals as goal

pub bounds-row-line : goal.bounds-row-line
bounds-row-line c = (c.requires.2 _ (get_or_in (record { first = 0; second = 0 }) c.args.lines.now c.loop-line.line-index c.loop-line-test.true)).0

pub bounds-row-line-in-loop-line : goal.bounds-row-line-in-loop-line
bounds-row-line-in-loop-line c = (c.requires.2 _ (get_or_in (record { first = 0; second = 0 }) c.args.lines.now c.loop-line.line-index c.loop-line-test.true)).1

pub returns-then-not-joined : goal.returns-then-not-joined
returns-then-not-joined c = λ kept. false≢true (c.if-not-joined.ensures ∙ rw (c.new-v.ensures, c.new-w.ensures) (kept _ (get_or_in (record { first = 0; second = 0 }) c.args.lines.now c.loop-line.line-index c.loop-line-test.true)))

pub loop-line-preserved : goal.loop-line-preserved
loop-line-preserved c = rw add-one (kept_more c.args.tables.now c.args.lines.now c.args.row.now c.loop-line.line-index _ c.loop-line-test.true c.loop-line.invariant (rw (c.new-v.ensures, c.new-w.ensures) at (sym c.joined.ensures ∙ c.if-not-joined.false)))
