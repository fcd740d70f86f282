-- What a figure's checks answer, in document 01's numbers and as arrays. Assumes nothing: these are definitions.
use Rattle.std.specs.Prelude.{ℕ, ◌≡◌, List, Ok, Err}
use Rattle.std.specs.Prelude.{Result}
use Rattle.rules.specs.Checks.{Verdict, verdict, lineless}
use Rattle.rules.specs.Calls.{figure_of, figure_checks}
use Rattle.sheet.specs.Check.{fault_verdict}
use Rattle.figure.specs.FigureTables.{HoldsFigure}
use Rattle.figure.specs.declared.FigureArrays.{FigureArrays}
use Rattle.figure.specs.declared.checked.Refusal.{Refusal}
use Rattle.figure.specs.declared.checked.Refusal.TheVariants.{Sheet, Parts}

-- document 01's number of a refusal, and the line that it is about
abbrev pub refusal_verdict : Refusal → Verdict
refusal_verdict (Sheet f) = fault_verdict 10 f
refusal_verdict Parts = lineless 16

-- what the checks answer: 0, or what the first to fail says
abbrev pub check_verdict : {A : Type 0} → Result A Refusal → Verdict
check_verdict (Ok _) = lineless 0
check_verdict (Err r) = refusal_verdict r

-- the arrays that the checks gave hold the figure
abbrev pub Loaded : List ℕ → Result FigureArrays Refusal → Type 0
Loaded bytes (Ok f) = HoldsFigure (figure_of bytes) f.n f.kinds f.near f.degrees
Loaded bytes (Err r) = Unit {0}

-- what the checks of a figure's sheet answer, and arrays that hold the figure where none fails
pub record CheckedArrays (bytes : List ℕ) (r : Result FigureArrays Refusal) : Type 0 where
  pub answers : check_verdict r ≡ verdict (figure_checks bytes)
  pub holds : Loaded bytes r
