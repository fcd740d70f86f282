-- What is answered of a sheet that is to become text, in document 01's numbers. Assumes nothing: a definition.
use Rattle.std.specs.Prelude.{ℕ, Result, Ok, Err}
use Rattle.rules.specs.Checks.{Verdict, no_line}
use Rattle.sheet.specs.Check.{fault_verdict}
use Rattle.sheet.specs.declared.fault.Fault.{Fault}

-- 0 and no line, or the number of what is wrong with the sheet and the line that it is about
abbrev pub said : Result ℕ Fault → Verdict
said (Ok _) = record { number = 0; line = no_line }
said (Err f) = record { number = (fault_verdict 20 f).number; line = (fault_verdict 20 f).line }
