-- What the writer returns beside what it lent, as the rules have it. Assumes nothing: these are definitions.
use Rattle.std.specs.Prelude.{ℕ, List, Ok, Err}
use Rattle.std.specs.Prelude.{Result}
use Rattle.rules.specs.Checks.{Verdict, no_line, lineless}
use Rattle.rules.specs.Calls.{Written}
use Rattle.sheet.specs.Check.{bad_line_verdict}
use Rattle.sheet_writer.specs.declared.Refusal.{Refusal}
use Rattle.sheet_writer.specs.declared.Refusal.TheVariants.{Uneven, Counts, Kind, At, Room}

-- document 01's number of a refusal, and the line of the line list that it is about
abbrev pub refusal_verdict : Refusal → Verdict
refusal_verdict Uneven = lineless 34
refusal_verdict Counts = lineless 22
refusal_verdict Kind = lineless 35
refusal_verdict (At b) = bad_line_verdict 20 b
refusal_verdict Room = lineless 33

-- what the writer's checks answer: 0, or what the first to fail says
abbrev pub check_verdict : {A : Type 0} → Result A Refusal → Verdict
check_verdict (Ok _) = lineless 0
check_verdict (Err r) = refusal_verdict r

-- what the writer returned, with the bytes afterwards: 0 and the count of the sheet's bytes, or a refusal and no count
abbrev pub as_written : Result ℕ Refusal → List ℕ → Written
as_written (Ok count) bytes = record { number = 0; line = no_line; count = count; bytes = bytes }
as_written (Err r) bytes = record { number = (refusal_verdict r).number; line = (refusal_verdict r).line; count = 0; bytes = bytes }
