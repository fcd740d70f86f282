-- The walk over rows: what is known before each row. Assumes nothing.
use Rattle.std.proofs.Common.{ℕ, ◌+◌, ◌*◌, ◌/◌, ◌≤◌, ◌<◌, ◌≡◌, Bool, List, length, ap, sym, subst, ◌∙◌, arith}
use native.Mathlib.Decide.{ℕ_discrete}
use native.Mathlib.Nat.{suc-mul, mul-le-mul_right, div-mul-le_self, le_trans}
use Rattle.rules.specs.Place.{Figure, Patch, Place}
use Rattle.rules.specs.RowCheck.{row_at, Good, Repeats}
use Rattle.row_tests.specs.declared.place.Ends.{Ends}
use Rattle.row_tests.specs.Says.{Says}
use Rattle.row_tests.specs.Against.{Against}
use Rattle.row_tests.proofs.Rows.{row_long}

-- a row below the count lies in the list
pub row_fits : (n i len : ℕ) → i < len / n → i * n + n ≤ len
row_fits n i len h = omega (arith, suc-mul i n, le_trans (mul-le-mul_right n h) (div-mul-le_self len n))

-- a part of the list that is row i is tested against what a row of n entries is
module _ (n i : ℕ) (rows row t : List ℕ) (size : ℕ) (kinds : List ℕ) (lines : List Ends) (fits : i * n + n ≤ length rows) (e : row ≡ row_at n rows i) where
  pub row_against : (F : Figure) (P : Patch) → Against F P t size kinds lines n → Against F P t size kinds lines (length row)
  row_against F P A = subst (Against F P t size kinds lines) (sym (ap length e ∙ row_long n i rows fits)) A

  -- and what is said of that part is said of the row
  pub row_says : (b : Bool) → ((F : Figure) (P : Patch) → Against F P t size kinds lines (length row) → Says b (Place F P row)) → (F : Figure) (P : Patch) → Against F P t size kinds lines n → Says b (Place F P (row_at F.graph.size rows i))
  row_says b says F P A = subst (λ k. Says b (Place F P (row_at k rows i))) (sym A.figure_size) (subst (λ r. Says b (Place F P r)) e (says F P (row_against F P A)))

-- one good row more
pub good_more : {F : Figure} {P : Patch} {rows : List ℕ} {i : ℕ} → Good F P rows i → Place F P (row_at F.graph.size rows i) → (Repeats F.graph.size rows i → ⊥) → Good F P rows (i + 1)
good_more {F} {P} {rows} {i} G p new = record {
  places = λ j h. elim (ℕ_discrete j i) [ yes e ↦ rw e p | no e ↦ G.places j (omega arith) ];
  different = λ j k h l same. elim (ℕ_discrete k i) [
    | yes e ↦ new (j, omega arith, same ∙ ap (row_at F.graph.size rows) e)
    | no e ↦ G.different j k h (omega arith) same
  ];
}
