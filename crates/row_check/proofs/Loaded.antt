-- What the loaded figure and patch are tested against. Assumes nothing.
use Rattle.std.proofs.Common.{ℕ, ◌/◌, ◌≡◌, List, length, ap, sym, subst, ◌∙◌}
use Rattle.rules.specs.Checks.{Accepted, figure_limits}
use Rattle.rules.specs.Sheet.{vertex_count}
use Rattle.rules.specs.Place.{Patch}
use Rattle.rules.specs.Calls.{figure_of, patch_of}
use Rattle.rules.specs.RowCheck.{row_count, RowsTested}
use Rattle.rules.proofs.Accepted.{figure_drawn, patch_size}
use Rattle.figure.specs.FigureTables.{HoldsFigure}
use Rattle.patch.specs.Tables.{Holds}
use Rattle.row_tests.specs.declared.place.Ends.{Ends}
use Rattle.row_tests.specs.Against.{HoldsEnds, Against}

module _ (f : List ℕ) {n : ℕ} {kinds near degrees : List ℕ} (H : HoldsFigure (figure_of f) n kinds near degrees) where
  -- the arrays, the list and the tables hold the figure and the patch
  pub against : {lines taken : List Ends} → Accepted figure_limits f → HoldsEnds (figure_of f) lines → taken ≡ lines → (P : Patch) {t : List ℕ} {size : ℕ} → Holds P t → P.graph.size ≡ size → Against (figure_of f) P t size kinds taken n
  against A E same P T e = record {
    tables = T;
    patch_size = e;
    figure_size = H.lined.sized;
    vertex = H.vertex;
    few = H.few;
    drawn = (figure_drawn f A).1;
    kinds_held = H.kind_of;
    ends_held = subst (HoldsEnds (figure_of f)) (sym same) E;
  }

  -- the rows are counted by the figure's vertices
  pub counted_rows : {P : Patch} {rows : List ℕ} {k i : ℕ} → RowsTested (figure_of f) P rows (length rows / n) k i → RowsTested (figure_of f) P rows (row_count f rows) k i
  counted_rows {P} {rows} {k} {i} = subst (λ c. RowsTested (figure_of f) P rows c k i) (ap (λ x. length rows / x) (sym H.lined.sized))

-- what is loaded of a patch holds it, and so do the tables made of it, with the sheet's count
pub tables_hold : {p sheet memory t : List ℕ} {size : ℕ} → Holds (patch_of sheet) memory → sheet ≡ p → t ≡ memory → size ≡ vertex_count sheet → Holds (patch_of p) t × ((patch_of p).graph.size ≡ size)
tables_hold {sheet = sheet} {t = t} h same e s = (subst (λ q. Holds (patch_of q) t) same (subst (Holds (patch_of sheet)) (sym e) h), patch_size _ ∙ sym (s ∙ ap vertex_count same))
