-- `check_rows`: refused by the checks before the rows', or what the walk over the rows says. Assumes nothing.
use Rattle.std.proofs.Common.{sym, ◌∙◌}
use Rattle.rules.specs.Calls.{patch_of}
use Rattle.row_check.proofs.Before.{by_figure, by_patch, by_length, by_rows, refusal_is}
use Rattle.row_check.proofs.Loaded.{tables_hold}
use Rattle.row_check.proofs.check_rows.Goals as goal

pub returns-in_err-sheet : goal.returns-in_err-sheet
returns-in_err-sheet c = rw (refusal_is _ c.from_residual.ensures) (by_figure _ _ _ _ c.in_err-sheet.ensures.answers)

pub returns-in_err-patch : goal.returns-in_err-patch
returns-in_err-patch c = rw (refusal_is _ c.from_residual-in_err-patch.ensures) (by_patch _ _ _ c.in_ok-sheet.ensures.answers _ c.in_err-patch.ensures.says)

pub returns-then-rows-get-ne0 : goal.returns-then-rows-get-ne0
returns-then-rows-get-ne0 c = by_length _ _ _ c.in_ok-sheet.ensures.answers c.in_ok-patch.ensures.says (c.in_ok-sheet.ensures.loaded.1.lined.sized ∙ sym c.get.ensures.value) c.if-rows-get-ne0.true

pub test_rows-requires-clause-patch : goal.test_rows-requires-clause-patch
test_rows-requires-clause-patch c = let h = tables_hold c.load.ensures.holds c.in_ok-patch.ensures.same c.new-tables.ensures (c.new-size.ensures ∙ c.vertices.ensures.value) in (patch_of c.args.patch.now, h.0, h.1)

pub returns-in_err-test_rows : goal.returns-in_err-test_rows
returns-in_err-test_rows c =
    let h = tables_hold c.load.ensures.holds c.in_ok-patch.ensures.same c.new-tables.ensures (c.new-size.ensures ∙ c.vertices.ensures.value) in
    let figure = c.in_ok-sheet.ensures in
    rw (refusal_is _ c.from_residual-in_err-test_rows.ensures) (by_rows _ _ _ figure.answers c.in_ok-patch.ensures.says (figure.loaded.1.lined.sized ∙ sym c.get.ensures.value) c.if-rows-get-ne0.false figure.loaded.0 (c.in_err-test_rows.ensures _ h.0 h.1))

pub returns : goal.returns
returns c =
    let h = tables_hold c.load.ensures.holds c.in_ok-patch.ensures.same c.new-tables.ensures (c.new-size.ensures ∙ c.vertices.ensures.value) in
    let figure = c.in_ok-sheet.ensures in
    by_rows _ _ _ figure.answers c.in_ok-patch.ensures.says (figure.loaded.1.lined.sized ∙ sym c.get.ensures.value) c.if-rows-get-ne0.false figure.loaded.0 (c.in_ok-test_rows.ensures _ h.0 h.1)
