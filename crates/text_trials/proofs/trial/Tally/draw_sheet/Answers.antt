-- What the writer counts is within the bytes. Assumes nothing.
use Rattle.std.proofs.Common.{arith}
use Rattle.text.proofs.Sheets.{fits_or}
use Rattle.text_trials.proofs.trial.Tally.draw_sheet.Goals as goal

pub returns : goal.returns
returns c = fits_or _ _ _ _ _ _ c.write.ensures c.unwrap_or.ensures (omega arith)
