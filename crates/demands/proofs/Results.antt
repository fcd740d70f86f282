-- The code's own results: what each of its four calls returns is allowed exactly as its contract says, and two results that the contract allows coincide, with what they leave. So all that is proved of what a result says holds of the one result of the code.
use Prim.Native.Nat.{ℕ}
use mathlib.Core.Path.{◌≡◌, refl, sym, ◌∙◌}
use mathlib.Core.Logic.{◌↔◌}
use mathlib.Core.List.{List}
use Rattle.std.specs.Prelude.{Result}
use Rattle.std.specs.Prelude.{Ok, Err}
use Rattle.rules.specs.Calls.{reader, writer}
use Rattle.rules.specs.RowCheck.{RowsChecked}
use Rattle.sheet.specs.declared.fields.SheetCounts.{SheetCounts}
use Rattle.sheet_reader.specs.declared.Refusal.{Refusal as Unread}
use Rattle.sheet_reader.specs.Answers.{as_read}
use Rattle.sheet_reader.proofs.Theorems.{as_read_once}
use Rattle.sheet_writer.specs.declared.Refusal.{Refusal as Unwritten}
use Rattle.sheet_writer.specs.Answers.{as_written}
use Rattle.sheet_writer.proofs.Theorems.{as_written_once}
use Rattle.find.specs.declared.Found.{Found}
use Rattle.find.specs.declared.Refusal.{Refusal}
use Rattle.find.specs.Answers.{said, Finds}
use Rattle.find.proofs.Theorems as find
use Rattle.row_check.specs.declared.Refusal.{Refusal as BadRows}
use Rattle.row_check.specs.Answers.{rows_verdict, rows_row}
use Rattle.row_check.proofs.Results as row_check
use Rattle.demands.specs.Calls.{Asked, Allows, ReadAsked, read_said, read_of, ReadAllows, WriteAsked, write_said, written_of, WriteAllows, RowsAsked, rows_said, RowsAllows}

-- a result of `find`, with the list and the working memory afterwards
module _ (a : Asked) (r : Result Found Refusal) (list memory : List ℕ) where
  -- what it says is allowed exactly if the contract allows it
  pub found_allowed : Allows a (record { answer = said r; list = list; memory = memory }) ↔ Finds a.figure a.patch a.memory a.list a.allowance (said r) list memory
  found_allowed = (λ h. h, λ h. h)

  -- and no other result is
  pub found_once : (q : Result Found Refusal) (list' memory' : List ℕ) → Allows a (record { answer = said r; list = list; memory = memory }) → Allows a (record { answer = said q; list = list'; memory = memory' }) → (r ≡ q) × (list ≡ list') × (memory ≡ memory')
  found_once q list' memory' e f = find.found_once a.figure a.patch a.memory a.list a.allowance r q list list' memory memory' e f

-- a result of `read`, with the two lists afterwards
said_read : (r : Result SheetCounts Unread) (kinds lines : List ℕ) → read_of (record { answer = read_said r; kinds = kinds; lines = lines }) ≡ as_read r kinds lines
said_read (Ok n) kinds lines = refl
said_read (Err f) kinds lines = refl

module _ (a : ReadAsked) (r : Result SheetCounts Unread) (kinds lines : List ℕ) where
  pub read_allowed : ReadAllows a (record { answer = read_said r; kinds = kinds; lines = lines }) ↔ (as_read r kinds lines ≡ reader a.sheet a.kinds a.lines)
  read_allowed = (λ h. sym (said_read r kinds lines) ∙ h, λ h. said_read r kinds lines ∙ h)

  pub read_once : (q : Result SheetCounts Unread) (kinds' lines' : List ℕ) → ReadAllows a (record { answer = read_said r; kinds = kinds; lines = lines }) → ReadAllows a (record { answer = read_said q; kinds = kinds'; lines = lines' }) → (r ≡ q) × (kinds ≡ kinds') × (lines ≡ lines')
  read_once q kinds' lines' e f = as_read_once r q kinds lines kinds' lines' (sym (said_read r kinds lines) ∙ e ∙ sym f ∙ said_read q kinds' lines')

-- a result of `write`, with the bytes afterwards
said_written : (r : Result ℕ Unwritten) (bytes : List ℕ) → written_of (record { answer = write_said r; bytes = bytes }) ≡ as_written r bytes
said_written (Ok n) bytes = refl
said_written (Err f) bytes = refl

module _ (a : WriteAsked) (r : Result ℕ Unwritten) (bytes : List ℕ) where
  pub written_allowed : WriteAllows a (record { answer = write_said r; bytes = bytes }) ↔ (as_written r bytes ≡ writer a.kinds a.lines a.bytes)
  written_allowed = (λ h. sym (said_written r bytes) ∙ h, λ h. said_written r bytes ∙ h)

  pub written_once : (q : Result ℕ Unwritten) (bytes' : List ℕ) → WriteAllows a (record { answer = write_said r; bytes = bytes }) → WriteAllows a (record { answer = write_said q; bytes = bytes' }) → (r ≡ q) × (bytes ≡ bytes')
  written_once q bytes' e f = as_written_once r q bytes bytes' (sym (said_written r bytes) ∙ e ∙ sym f ∙ said_written q bytes')

-- a result of `check_rows`
module _ (a : RowsAsked) (r : Result (Unit {0}) BadRows) where
  pub rows_allowed : RowsAllows a (rows_said r) ↔ RowsChecked a.figure a.patch a.rows (rows_verdict r) (rows_row r)
  rows_allowed = (λ h. h, λ h. h)

  pub rows_once : (q : Result (Unit {0}) BadRows) → RowsAllows a (rows_said r) → RowsAllows a (rows_said q) → r ≡ q
  rows_once q e f = row_check.one_result {figure = a.figure} {patch = a.patch} {rows = a.rows} {r = r} {s = q} e f
