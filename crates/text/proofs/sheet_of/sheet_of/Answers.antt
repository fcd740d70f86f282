-- What is made of the lists by the writer is what a text's sheet is to be. Assumes nothing.
use Rattle.text.proofs.Sheets.{made}
use Rattle.text.proofs.sheet_of.sheet_of.Goals as goal

pub returns-clause-made : goal.returns-clause-made
returns-clause-made c = made _ _ _ _ _ c.written.ensures.wrote
