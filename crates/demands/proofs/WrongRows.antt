-- Wrong checks of rows, each refuted at bench c's figure and patch, for any function that would meet the contract of `check_rows`.
use Prim.Native.Nat.{ℕ}
use mathlib.Core.Path.{◌≡◌, refl}
use mathlib.Core.Logic.{◌≢◌}
use mathlib.Core.List.{List, [], ◌∷◌}
use native.Mathlib.Omega.{arith}
use lib.ListN.{get_or}
use Rattle.rules.specs.Sheet.{packed, layout, bits, word, bit_at, kinds_held, line_at, lines_held, kind_bits, line_bits}
use Rattle.rules.specs.Checks.{verdict}
use Rattle.rules.specs.Place.{Place}
use Rattle.rules.specs.Candidates.{order, order_from, newcomers}
use Rattle.rules.specs.Live.{plugged, dead}
use Rattle.rules.specs.Calls.{figure_of, patch_of, connected}
use Rattle.rules.specs.RowCheck.{row_at, row_checks}
use Rattle.rules.specs.Benches.{c_f, c_p}
use Rattle.rules.proofs.RowCheck as rules
use Rattle.demands.specs.Calls.{RowsAsked, RowsSaid, RowsMeets}

-- what is asked at bench c's sheets
abbrev ask : List ℕ → RowsAsked
ask rows = record { figure = c_f; patch = c_p; rows = rows }

-- the figure of bench c has two vertices
size_two : (figure_of c_f).graph.size ≡ 2
unfolding figure_of kinds_held word bit_at
size_two = refl

-- a row with one patch vertex twice is not a place
pub twice_no_place : (rows : List ℕ) → get_or (row_at (figure_of c_f).graph.size rows 0) 0 0 ≡ get_or (row_at (figure_of c_f).graph.size rows 0) 1 0 → Place (figure_of c_f) (patch_of c_p) (row_at (figure_of c_f).graph.size rows 0) → ⊥
twice_no_place rows same p = let e : ◌≡◌ {A = ℕ} 0 1 = p.apart 0 1 (omega (arith, size_two)) (omega (arith, size_two)) same in omega arith

module _ (f : RowsAsked → RowsSaid) (meets : RowsMeets f) where
  -- one that refuses all (no rows are accepted)
  pub refuses_all_rows : ((a : RowsAsked) → (f a).number ≢ 0) → ⊥
  unfolding figure_of patch_of connected order order_from newcomers verdict row_checks packed layout bits word bit_at kinds_held line_at lines_held kind_bits line_bits plugged dead
  refuses_all_rows wrong = wrong (ask []) ((rules.rows_accepted_exactly c_f c_p [] (meets (ask []))).1 (refl, record { places = λ i h. absurd (omega (arith, h)); different = λ i j h k. absurd (omega (arith, k)) }))

  -- one that accepts all (a row with one patch vertex twice)
  pub accepts_all_rows : ((a : RowsAsked) → (f a).number ≡ 0) → ⊥
  unfolding row_at figure_of kinds_held word bit_at
  accepts_all_rows wrong = let rows : List ℕ = 0 ∷ 0 ∷ [] in twice_no_place rows refl (((rules.rows_accepted_exactly c_f c_p rows (meets (ask rows))).0 (wrong (ask rows))).1.places 0 (omega arith))

  -- one that accepts a row that stands twice
  pub accepts_equal_rows : (f (ask (0 ∷ 1 ∷ 0 ∷ 1 ∷ []))).number ≡ 0 → ⊥
  unfolding row_at figure_of kinds_held word bit_at
  accepts_equal_rows wrong = let rows : List ℕ = 0 ∷ 1 ∷ 0 ∷ 1 ∷ [] in ((rules.rows_accepted_exactly c_f c_p rows (meets (ask rows))).0 wrong).1.different 0 1 (omega arith) (omega arith) refl

  -- one that names the second of two bad rows
  pub second_bad_row : (f (ask (0 ∷ 0 ∷ 1 ∷ 1 ∷ []))).row ≢ 0 → ⊥
  unfolding row_at figure_of patch_of connected order order_from newcomers verdict row_checks packed layout bits word bit_at kinds_held line_at lines_held kind_bits line_bits plugged dead
  second_bad_row wrong = let rows : List ℕ = 0 ∷ 0 ∷ 1 ∷ 1 ∷ [] in wrong ((rules.not_a_place_exactly c_f c_p rows (meets (ask rows)) 0).1 (refl, record { there = omega arith; before = record { places = λ i h. absurd (omega (arith, h)); different = λ i j h k. absurd (omega (arith, k)) } }, twice_no_place rows refl)).1
