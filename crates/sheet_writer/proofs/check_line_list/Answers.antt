-- `check_line_list` meets its contract: the closure gives the lines of the list. Assumes nothing.
use mathlib.Core.Path.{sym, ◌∙◌}
use Rattle.std.proofs.Common.{rules}
use Rattle.rules.proofs.ReadWrite.{length_lines_of}
use Rattle.sheet_writer.proofs.Lines.{line_at}
use Rattle.sheet_writer.proofs.check_line_list.Goals as goal

pub returns : goal.returns
returns c = let ls = c.args.lines.now in c.check_lines.ensures 20 _ (record { many = length_lines_of ls; are = λ j l h p. search rules ∙ sym (line_at ls j _ h) })
