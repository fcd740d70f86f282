-- What the check of rows returns, in the documents' numbers. Assumes nothing: these are definitions.
use Rattle.std.specs.Prelude.{ℕ, Ok, Err}
use Rattle.std.specs.Prelude.{Result}
use Rattle.rules.specs.Checks.{Verdict, lineless}
use Rattle.sheet.specs.Check.{fault_verdict}
use Rattle.figure.specs.Checked as figure
use Rattle.row_check.specs.declared.RowFault.{RowFault}
use Rattle.row_check.specs.declared.RowFault.TheVariants.{NotAPlace, Repeated}
use Rattle.row_check.specs.declared.BadRow.{BadRow}
use Rattle.row_check.specs.declared.Refusal.{Refusal}
use Rattle.row_check.specs.declared.Refusal.TheVariants.{Figure, Patch, Uneven, Row}

-- document 02's number of what is wrong with a row
abbrev pub fault_number : RowFault → ℕ
fault_number NotAPlace = 43
fault_number Repeated = 44

-- the number of a refusal, and the line that it is about
abbrev pub refusal_verdict : Refusal → Verdict
refusal_verdict (Figure r) = figure.refusal_verdict r
refusal_verdict (Patch f) = fault_verdict 20 f
refusal_verdict Uneven = lineless 42
refusal_verdict (Row b) = lineless (fault_number b.fault)

-- the first bad row, and 0 with every other refusal
abbrev pub row_of_refusal : Refusal → ℕ
row_of_refusal (Figure r) = 0
row_of_refusal (Patch f) = 0
row_of_refusal Uneven = 0
row_of_refusal (Row b) = b.row

-- the number that the test of the rows answers: 0 where all are good
abbrev pub bad_number : {A : Type 0} → Result A BadRow → ℕ
bad_number (Ok _) = 0
bad_number (Err b) = fault_number b.fault

-- and the first bad row, or 0
abbrev pub bad_row : {A : Type 0} → Result A BadRow → ℕ
bad_row (Ok _) = 0
bad_row (Err b) = b.row

-- what the check of rows answers: 0, or its refusal's number and line
abbrev pub rows_verdict : {A : Type 0} → Result A Refusal → Verdict
rows_verdict (Ok _) = lineless 0
rows_verdict (Err r) = refusal_verdict r

-- and the first bad row, or 0
abbrev pub rows_row : {A : Type 0} → Result A Refusal → ℕ
rows_row (Ok _) = 0
rows_row (Err r) = row_of_refusal r
