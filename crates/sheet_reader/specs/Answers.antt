-- What the reader returns beside what it lent, as the rules have it. Assumes nothing: these are definitions.
use Rattle.std.specs.Prelude.{ℕ, List, Ok, Err}
use Rattle.std.specs.Prelude.{Result}
use Rattle.rules.specs.Checks.{Verdict, no_line, lineless}
use Rattle.rules.specs.Calls.{Read}
use Rattle.sheet.specs.Check.{fault_verdict}
use Rattle.sheet.specs.declared.fields.SheetCounts.{SheetCounts}
use Rattle.sheet_reader.specs.declared.Refusal.{Refusal}
use Rattle.sheet_reader.specs.declared.Refusal.TheVariants.{Sheet, Room}

-- document 01's number of a refusal, and the line that it is about
abbrev pub refusal_verdict : Refusal → Verdict
refusal_verdict (Sheet f) = fault_verdict 20 f
refusal_verdict Room = lineless 33

-- what the reader returned, with the two lists afterwards: 0 and the counts, or a refusal and none
abbrev pub as_read : Result SheetCounts Refusal → (kind_list line_list : List ℕ) → Read
as_read (Ok c) kind_list line_list = record { number = 0; line = no_line; vertices = c.vertices; lines = c.lines; kind_list = kind_list; line_list = line_list }
as_read (Err r) kind_list line_list = record { number = (refusal_verdict r).number; line = (refusal_verdict r).line; vertices = 0; lines = 0; kind_list = kind_list; line_list = line_list }
