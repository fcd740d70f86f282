-- Document 02, Wish 1: what the check of a list of rows answers, whoever made the rows and in whatever order. Assumes nothing: these are definitions.
use Rattle.std.specs.Prelude.{ℕ, ◌*◌, ◌/◌, ◌%◌, ◌<◌, ◌≡◌, ◌≢◌, List, [], ◌∷◌, eqb, length, take, drop}
use Rattle.rules.specs.Place.{PatchVertex, Figure, Patch, Place}
use Rattle.rules.specs.Checks.{Verdict, no_line, lineless, Check, verdict}
use Rattle.rules.specs.Calls.{figure_of, patch_of, pair_checks}

-- row i, counted from 0, of a list of rows of n entries each
unfoldable pub row_at : ℕ → List ℕ → ℕ → List PatchVertex
row_at n rows i = take n (drop (i * n) rows)

-- the first k rows of a list are good: every one is a place, and no two are equal
pub record Good (F : Figure) (P : Patch) (rows : List ℕ) (k : ℕ) : Type 0 where
  pub places : (i : ℕ) → i < k → Place F P (row_at F.graph.size rows i)
  pub different : (i j : ℕ) → i < j → j < k → row_at F.graph.size rows i ≢ row_at F.graph.size rows j

-- a row equals an earlier row
abbrev pub Repeats : (n : ℕ) (rows : List ℕ) (i : ℕ) → Type 0
Repeats n rows i = (j : ℕ) × (j < i) × (row_at n rows j ≡ row_at n rows i)

-- row i is one of k rows, and every row before it is good: it may be the first bad one
pub record Reached (F : Figure) (P : Patch) (rows : List ℕ) (k i : ℕ) : Type 0 where
  pub there : i < k
  pub before : Good F P rows i

-- what the test of k rows answers: a number, and the first bad row, or 0 where there is none
pub data RowsTested (F : Figure) (P : Patch) (rows : List ℕ) (k number row : ℕ) : Type 0 where
  -- 0: every row is a place, and no two rows are equal
  all_good : number ≡ 0 → row ≡ 0 → Good F P rows k → RowsTested F P rows k number row
  -- 43: the first bad row is not a place
  not_a_place : number ≡ 43 → Reached F P rows k row → (Place F P (row_at F.graph.size rows row) → ⊥) → RowsTested F P rows k number row
  -- 44: the first bad row is a place, and equal to an earlier row
  repeated : number ≡ 44 → Reached F P rows k row → Place F P (row_at F.graph.size rows row) → Repeats F.graph.size rows row → RowsTested F P rows k number row

-- the checks before the rows': the figure's, the patch's, then 42 where the list is not a whole number of rows
unfoldable pub row_checks : (figure patch rows : List ℕ) → List Check
row_checks figure patch rows = pair_checks figure patch (eqb (length rows % (figure_of figure).graph.size) 0, lineless 42)

-- how many rows a list has for a figure
abbrev pub row_count : (figure rows : List ℕ) → ℕ
row_count figure rows = length rows / (figure_of figure).graph.size

-- what the row check answers: what the first check to fail before the rows answers, with row 0; else what the test of all its rows answers, with no line
pub data RowsChecked (figure patch rows : List ℕ) (v : Verdict) (row : ℕ) : Type 0 where
  refused : v.number ≢ 0 → v ≡ verdict (row_checks figure patch rows) → row ≡ 0 → RowsChecked figure patch rows v row
  tested : (verdict (row_checks figure patch rows)).number ≡ 0 → v.line ≡ no_line → RowsTested (figure_of figure) (patch_of patch) rows (row_count figure rows) v.number row → RowsChecked figure patch rows v row

-- the numbers by which the row check refuses
abbrev pub row_refusals : List ℕ
row_refusals = 11 ∷ 12 ∷ 13 ∷ 14 ∷ 15 ∷ 16 ∷ 21 ∷ 22 ∷ 23 ∷ 24 ∷ 25 ∷ 42 ∷ 43 ∷ 44 ∷ []
