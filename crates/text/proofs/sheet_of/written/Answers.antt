-- The count is what the writer gave. Assumes nothing.
use Rattle.std.proofs.Common.{rules, arith}
use Rattle.rules.specs.Calls.{writer}
use Rattle.text.specs.Sheets.{Wrote}
use Rattle.text.proofs.Sheets.{counted}
use Rattle.text.proofs.sheet_of.written.Goals as goal

pub returns-clause-counted : goal.returns-clause-counted
returns-clause-counted c =
    let W : Wrote (writer c.args.kinds.now c.args.lines.now c.args.bytes.now) c.map_err.result c.write.new.bytes = search rules in
    counted _ _ _ _ _ W (omega arith)
