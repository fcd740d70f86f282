-- `check::check_lines` meets its contract. The invariant: of any lines that the function gives, the verdict on all is that on the lines from the j-th on, after the line before. Assumes nothing.
use Prim.Native.Nat.{ℕ}
use mathlib.Core.Option.{none}
use mathlib.Core.List.{List}
use mathlib.Core.Path.{◌≡◌}
use Rattle.rules.specs.Sheet.{Line}
use Rattle.rules.specs.Checks.{verdict, line_checks}
use Rattle.sheet.specs.Fields.{line_of}
use Rattle.sheet.specs.Check.{Gives}
use Rattle.sheet.proofs.Verdicts.{from}
use Rattle.sheet.proofs.check.check_lines.Given as goal

abbrev pub invariant-loop-j : goal.invariant-loop-j
invariant-loop-j g l = (ten : ℕ) (ls : List Line) → Gives (goal.F-post g) l.line l.m ls → verdict (line_checks ten l.n 0 none ls) ≡ from ten l.n ls l.j (line_of l.before)
