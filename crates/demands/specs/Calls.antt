-- Calls of `find`, `read`, `write` and `check_rows` as they were made: what was handed and lent, what came back, and what is lent afterwards. Assumes nothing: these are definitions.
use Rattle.std.specs.Prelude.{ℕ, ◌≡◌, List, []}
use Rattle.std.specs.Prelude.{Result}
use Rattle.rules.specs.Place.{Figure, Patch, PatchVertex}
use Rattle.rules.specs.Calls.{Read, reader, Written, writer, figure_of, patch_of, found}
use Rattle.rules.specs.RowCheck.{RowsChecked}
use Rattle.sheet.specs.declared.fields.SheetCounts.{SheetCounts}
use Rattle.sheet_reader.specs.Answers.{as_read}
use Rattle.sheet_reader.specs.declared.Refusal.{Refusal as Unread}
use Rattle.sheet_writer.specs.Answers.{as_written}
use Rattle.sheet_writer.specs.declared.Refusal.{Refusal as Unwritten}
use Rattle.find.specs.Answers.{Said, Finds, as_searched}
use Rattle.row_check.specs.Answers.{rows_verdict, rows_row}
use Rattle.row_check.specs.declared.Refusal.{Refusal as BadRows}

-- what a call of `find` is handed and lent
pub record Asked : Type 0 where
  pub figure : List ℕ
  pub patch : List ℕ
  pub memory : List ℕ
  pub list : List ℕ
  pub allowance : ℕ

-- what its result says, and the list and the working memory afterwards
pub record Given : Type 0 where
  pub answer : Said
  pub list : List ℕ
  pub memory : List ℕ

-- the contract of `find` allows a result
abbrev pub Allows : Asked → Given → Type 0
Allows a g = Finds a.figure a.patch a.memory a.list a.allowance g.answer g.list g.memory

-- a function that would meet the contract: its result is allowed, whatever it is asked
abbrev pub Meets : (Asked → Given) → Type 0
Meets f = (a : Asked) → Allows a (f a)

-- the figure asked for
abbrev pub figure_in : Asked → Figure
figure_in a = figure_of a.figure

-- the patch asked in
abbrev pub patch_in : Asked → Patch
patch_in a = patch_of a.patch

-- the rows that lie in the list afterwards
abbrev pub rows_given : Asked → Given → List (List PatchVertex)
rows_given a g = found a.figure (as_searched g.answer g.list g.memory)

-- what a call of `read` is handed and lent
pub record ReadAsked : Type 0 where
  pub sheet : List ℕ
  pub kinds : List ℕ
  pub lines : List ℕ

-- what its result says in document 01's numbers: the number, the line that it is about, and the counts n and m
pub record ReadSaid : Type 0 where
  pub number : ℕ
  pub line : ℕ
  pub vertices : ℕ
  pub lines : ℕ

-- what a result of `read` says, as its contract has it
abbrev pub read_said : Result SheetCounts Unread → ReadSaid
read_said r = let s = as_read r [] [] in record { number = s.number; line = s.line; vertices = s.vertices; lines = s.lines }

-- what it returns, and the two lists afterwards
pub record ReadGiven : Type 0 where
  pub answer : ReadSaid
  pub kinds : List ℕ
  pub lines : List ℕ

-- the two as the rules have them
abbrev pub read_of : ReadGiven → Read
read_of g = record { number = g.answer.number; line = g.answer.line; vertices = g.answer.vertices; lines = g.answer.lines; kind_list = g.kinds; line_list = g.lines }

-- the contract of `read` allows a result
abbrev pub ReadAllows : ReadAsked → ReadGiven → Type 0
ReadAllows a g = read_of g ≡ reader a.sheet a.kinds a.lines

-- what a call of `write` is handed and lent
pub record WriteAsked : Type 0 where
  pub kinds : List ℕ
  pub lines : List ℕ
  pub bytes : List ℕ

-- what its result says in document 01's numbers: the number, the line that it is about, and the count of bytes
pub record WriteSaid : Type 0 where
  pub number : ℕ
  pub line : ℕ
  pub count : ℕ

-- what a result of `write` says, as its contract has it
abbrev pub write_said : Result ℕ Unwritten → WriteSaid
write_said r = let s = as_written r [] in record { number = s.number; line = s.line; count = s.count }

-- what it returns, and the bytes afterwards
pub record WriteGiven : Type 0 where
  pub answer : WriteSaid
  pub bytes : List ℕ

-- the two as the rules have them
abbrev pub written_of : WriteGiven → Written
written_of g = record { number = g.answer.number; line = g.answer.line; count = g.answer.count; bytes = g.bytes }

-- the contract of `write` allows a result
abbrev pub WriteAllows : WriteAsked → WriteGiven → Type 0
WriteAllows a g = written_of g ≡ writer a.kinds a.lines a.bytes

-- what a call of `check_rows` is handed; nothing is lent to it
pub record RowsAsked : Type 0 where
  pub figure : List ℕ
  pub patch : List ℕ
  pub rows : List ℕ

-- what its result says in the documents' numbers: the number, the line that it is about, and the first bad row or 0
pub record RowsSaid : Type 0 where
  pub number : ℕ
  pub line : ℕ
  pub row : ℕ

-- what a result of `check_rows` says, as its contract has it
abbrev pub rows_said : Result (Unit {0}) BadRows → RowsSaid
rows_said r = record { number = (rows_verdict r).number; line = (rows_verdict r).line; row = rows_row r }

-- the contract of `check_rows` allows an answer
abbrev pub RowsAllows : RowsAsked → RowsSaid → Type 0
RowsAllows a r = RowsChecked a.figure a.patch a.rows (record { number = r.number; line = r.line }) r.row

-- a function that would meet the contract of `check_rows`
abbrev pub RowsMeets : (RowsAsked → RowsSaid) → Type 0
RowsMeets f = (a : RowsAsked) → RowsAllows a (f a)
