-- The check of rows about the code: theorems on any answer that the contract of `check_rows` allows, the search's own lists among them, and wrong programs that it refutes.
use Prim.Native.Nat.{ℕ, ◌*◌, ◌≤◌, ◌<◌}
use mathlib.Core.Path.{◌≡◌, ap, sym, subst}
use mathlib.Core.Logic.{◌≢◌, ◌⊎◌, ◌↔◌}
use mathlib.Core.List.{List, Memᴰ}
use lib.ListN.{take}
use Rattle.rules.specs.Checks.{Verdict, no_line, lineless, verdict}
use Rattle.rules.specs.Place.{Place}
use Rattle.rules.specs.Calls.{figure_of, patch_of, LineOfTwo}
use Rattle.rules.specs.RowCheck.{row_at, Good, Repeats, Reached, RowsChecked, row_checks, row_count, row_refusals}
use Rattle.rules.proofs.RowCheck as rules
use Rattle.demands.specs.Calls.{Asked, Given, Allows, figure_in, RowsAsked, RowsSaid, RowsAllows}

module _ (a : RowsAsked) (r : RowsSaid) (allowed : RowsAllows a r) where
  -- exactly one answer is allowed
  pub one_rows_answer : (s : RowsSaid) → RowsAllows a s → r ≡ s
  one_rows_answer s other = let e = rules.one_answer a.figure a.patch a.rows allowed other in λ i. record { number = (e.0 i).number; line = (e.0 i).line; row = e.1 i }

  -- accepted exactly if the sheets and the list's length are right, every row is a place and no two rows are equal
  pub rows_accepted_exactly : (r.number ≡ 0) ↔ (((verdict (row_checks a.figure a.patch a.rows)).number ≡ 0) × Good (figure_of a.figure) (patch_of a.patch) a.rows (row_count a.figure a.rows))
  rows_accepted_exactly = rules.rows_accepted_exactly a.figure a.patch a.rows allowed

  -- otherwise refused, by one of the numbers
  pub rows_accepted_or_refused : (r.number ≡ 0) ⊎ Memᴰ r.number row_refusals
  rows_accepted_or_refused = rules.rows_accepted_or_refused a.figure a.patch a.rows allowed

  -- a number from 11 to 42 and the line beside it are what the first check to fail before the rows answers
  pub rows_refused_exactly : (v : Verdict) → v.number ≢ 0 → v.number < 43 → (record { number = r.number; line = r.line } ≡ v) ↔ (verdict (row_checks a.figure a.patch a.rows) ≡ v)
  rows_refused_exactly = rules.refused_exactly a.figure a.patch a.rows allowed

  -- 43 and row j exactly if row j is the first bad row and not a place
  pub rows_not_a_place_exactly : (j : ℕ) → ((r.number ≡ 43) × (r.row ≡ j)) ↔ (((verdict (row_checks a.figure a.patch a.rows)).number ≡ 0) × Reached (figure_of a.figure) (patch_of a.patch) a.rows (row_count a.figure a.rows) j × (Place (figure_of a.figure) (patch_of a.patch) (row_at (figure_of a.figure).graph.size a.rows j) → ⊥))
  rows_not_a_place_exactly = rules.not_a_place_exactly a.figure a.patch a.rows allowed

  -- 44 and row j exactly if row j is the first bad row, and a place, and equal to an earlier row
  pub rows_repeated_exactly : (j : ℕ) → ((r.number ≡ 44) × (r.row ≡ j)) ↔ (((verdict (row_checks a.figure a.patch a.rows)).number ≡ 0) × Reached (figure_of a.figure) (patch_of a.patch) a.rows (row_count a.figure a.rows) j × Place (figure_of a.figure) (patch_of a.patch) (row_at (figure_of a.figure).graph.size a.rows j) × Repeats (figure_of a.figure).graph.size a.rows j)
  rows_repeated_exactly = rules.repeated_exactly a.figure a.patch a.rows allowed

  -- the line beside the number: the figure's offending line with 14 and 15, the patch's with 24 and 25, none with any other number
  pub rows_line_named : LineOfTwo a.figure a.patch r.number r.line
  rows_line_named = rules.row_line_named a.figure a.patch a.rows allowed

  -- and in every answer but 43 and 44 the row is 0
  pub row_zero : r.number ≢ 43 → r.number ≢ 44 → r.row ≡ 0
  row_zero = rules.row_zero a.figure a.patch a.rows allowed

-- every list our own search returns is accepted: any answer of `find` that is not a refusal, and any answer of `check_rows` to its rows
pub own_list_accepted : (a : Asked) (g : Given) → Allows a g → g.answer.number ≤ 2 → (b : RowsAsked) (r : RowsSaid) → RowsAllows b r → b.figure ≡ a.figure → b.patch ≡ a.patch → b.rows ≡ take (g.answer.rows * (figure_in a).graph.size) g.list → (r.number ≡ 0) × (r.line ≡ no_line) × (r.row ≡ 0)
own_list_accepted a g searched taken b r checked figure patch rows = let e = rules.one_answer b.figure b.patch b.rows checked accepted in (ap (λ v. v.number) e.0, ap (λ v. v.line) e.0, e.1)
  where
    list : List ℕ
    list = take (g.answer.rows * (figure_in a).graph.size) g.list

    own : RowsChecked a.figure a.patch list (lineless 0) 0
    own = subst (λ s. s.number ≤ 2 → RowsChecked a.figure a.patch (take (s.rows * (figure_in a).graph.size) s.list) (lineless 0) 0) (sym searched) (rules.own_list_accepted a.figure a.patch a.memory a.list a.allowance) taken

    accepted : RowsChecked b.figure b.patch b.rows (lineless 0) 0
    accepted = subst (λ l. RowsChecked b.figure b.patch l (lineless 0) 0) (sym rows) (subst (λ p. RowsChecked b.figure p list (lineless 0) 0) (sym patch) (subst (λ f. RowsChecked f a.patch list (lineless 0) 0) (sym figure) own))
