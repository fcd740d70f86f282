-- `checked_figure` meets its contract: what the check of the sheet says where it fails. Assumes nothing.
use Rattle.row_check.proofs.Before.{refusal_is, by_sheet}
use Rattle.row_check.proofs.checked_figure.Goals as goal

pub returns-in_err-sheet-clause-answers : goal.returns-in_err-sheet-clause-answers
returns-in_err-sheet-clause-answers c = rw (refusal_is _ c.from_residual.ensures) (by_sheet c.args.bytes.now _ c.in_err-sheet.ensures.says)
