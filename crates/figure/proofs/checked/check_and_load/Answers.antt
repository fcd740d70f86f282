-- `check_and_load` meets its contract: what the sheet's check to fail says. Assumes nothing.
use Rattle.figure.proofs.Verdict.{refused}
use Rattle.figure.proofs.checked.check_and_load.Goals as goal

pub returns-in_err-checked : goal.returns-in_err-checked
returns-in_err-checked c = refused _ _ _ c.from_residual.ensures c.in_err-checked.ensures.says
