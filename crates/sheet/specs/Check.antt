-- What the checks of a sheet, and of lines, answer in document 01's numbers. Assumes nothing: these are definitions.
use Rattle.std.specs.Prelude.{ℕ, ◌+◌, ◌<◌, ◌≡◌, List, length, get_or, Result, Ok, Err}
use Rattle.rules.specs.Sheet.{Line}
use Rattle.rules.specs.Checks as rules
use Rattle.rules.specs.Checks.{lineless}
use Rattle.sheet.specs.Fields.{line_of}
use Rattle.sheet.specs.declared.fields.SheetLine.{SheetLine}
use Rattle.sheet.specs.declared.fault.Verdict.{Verdict}
use Rattle.sheet.specs.declared.fault.LineFault.{LineFault}
use Rattle.sheet.specs.declared.fault.LineFault.TheVariants.{Unfit, Unordered}
use Rattle.sheet.specs.declared.fault.BadLine.{BadLine}
use Rattle.sheet.specs.declared.fault.Fault.{Fault}
use Rattle.sheet.specs.declared.fault.Fault.TheVariants.{Length, Counts, Filling, At}

-- the answer that a struct says
abbrev pub verdict_of : Verdict → rules.Verdict
verdict_of v = record { number = v.number; line = v.line }

-- the number past a sheet's ten of what is wrong with a line: its fit before its order
abbrev pub line_digit : LineFault → ℕ
line_digit Unfit = 4
line_digit Unordered = 5

-- what is answered of a bad line, where the checks are numbered from a ten
abbrev pub bad_line_verdict : (ten : ℕ) → BadLine → rules.Verdict
bad_line_verdict ten b = record { number = ten + line_digit b.fault; line = b.line }

-- what is answered of a sheet that something is wrong with
abbrev pub fault_verdict : (ten : ℕ) → Fault → rules.Verdict
fault_verdict ten Length = lineless (ten + 1)
fault_verdict ten Counts = lineless (ten + 2)
fault_verdict ten Filling = lineless (ten + 3)
fault_verdict ten (At b) = bad_line_verdict ten b

-- what the checks of lines answer: 0, or what the first to fail says
abbrev pub lines_verdict : {A : Type 0} → ℕ → Result A BadLine → rules.Verdict
lines_verdict ten (Ok _) = lineless 0
lines_verdict ten (Err b) = bad_line_verdict ten b

-- what the checks of a sheet answer: 0, or what the first to fail says
abbrev pub check_verdict : {A : Type 0} → ℕ → Result A Fault → rules.Verdict
check_verdict ten (Ok _) = lineless 0
check_verdict ten (Err f) = fault_verdict ten f

-- lines that a function gives by their numbers
pub record Gives {A : Type 0} (post : A → ℕ → SheetLine → Type 0) (f : A) (m : ℕ) (ls : List Line) : Type 0 where
  pub many : length ls ≡ m
  pub are : (j : ℕ) (l : SheetLine) → j < m → post f j l → line_of l ≡ get_or ls j (record { type = 0; first = 0; second = 0 })
