-- `fields::line_at` meets its contract: the parts of a field of 20 bits are those of a line (`line_whole`). Assumes nothing.
use Rattle.sheet.proofs.Words.{line_whole}
use Rattle.sheet.proofs.fields.line_at.Goals as goal

pub returns : goal.returns
returns c = line_whole c.args.bytes.now c.args.at c.field-whole.result c.field-whole.ensures
