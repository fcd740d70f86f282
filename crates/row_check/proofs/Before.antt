-- The checks before the rows', part by part: what is refused by them, and what is tested after them. Assumes nothing.
use Rattle.std.proofs.Common.{ℕ, ◌%◌, ◌≡◌, List, length, Result, Ok, Err, refl, ap, sym, subst, ◌∙◌, arith}
use borrow.Author.Tests.{eq-eqb, ne_eqb}
use lib.Dec.{eqb}
use Rattle.std.specs.Result.{IsErr, IsErrAnd}
use mathlib.Core.Bool.{false≢true}
use Rattle.rules.specs.Checks.{lineless, Check, verdict, figure_limits, patch_limits, sheet_verdict}
use Rattle.rules.specs.Calls.{figure_of, patch_of, figure_checks}
use Rattle.rules.specs.RowCheck.{row_checks, row_count, RowsTested, RowsChecked, refused, tested}
use Rattle.rules.proofs.Accepted.{pair_figure, pair_patch, pair_last, pair_none}
use Rattle.sheet.specs.Check.{fault_verdict}
use Rattle.sheet.specs.declared.fault.Fault.{Fault}
use Rattle.sheet.proofs.Verdicts.{fault_positive}
use Rattle.figure.proofs.Verdict.{sheet_fails}
use Rattle.figure.specs.Checked as figure
use Rattle.figure.specs.declared.checked.Refusal.{Refusal as FigureRefusal}
use Rattle.figure.specs.declared.checked.Refusal.TheVariants.{Sheet, Parts}

-- a figure that is refused is not answered 0, nor is a patch
refusal_positive : (r : FigureRefusal) → (figure.refusal_verdict r).number ≡ 0 → ⊥
refusal_positive (Sheet f) z = omega (arith, fault_positive 10 f)
refusal_positive Parts z = omega arith

patch_positive : (f : Fault) → (fault_verdict 20 f).number ≡ 0 → ⊥
patch_positive f z = omega (arith, fault_positive 20 f)

-- a result that is a refusal
pub refusal_is : {A E : Type 0} {e : E} (r : Result A E) → IsErr r × IsErrAnd r (λ x. x ≡ e) → r ≡ Err e
refusal_is (Ok a) h = absurd (false≢true h.0)
refusal_is (Err x) h = ap Err h.1

-- a sheet that its check refuses is refused as a figure
pub by_sheet : (f : List ℕ) (r : Fault) → fault_verdict 10 r ≡ sheet_verdict figure_limits f → fault_verdict 10 r ≡ verdict (figure_checks f)
by_sheet f r e = sheet_fails f e (refusal_positive (Sheet r))

module _ (f p rows : List ℕ) where
  abbrev whole : Check
  whole = (eqb (length rows % (figure_of f).graph.size) 0, lineless 42)

  -- a figure that its checks refuse
  pub by_figure : (r : FigureRefusal) → figure.refusal_verdict r ≡ verdict (figure_checks f) → RowsChecked f p rows (figure.refusal_verdict r) 0
  unfolding row_checks
  by_figure r e = refused (refusal_positive r) (pair_figure f p whole e (refusal_positive r)) refl

  module _ (good : lineless 0 ≡ verdict (figure_checks f)) where
    passed : (verdict (figure_checks f)).number ≡ 0
    passed = sym (ap (λ v. v.number) good)

    -- then a patch
    pub by_patch : (r : Fault) → fault_verdict 20 r ≡ sheet_verdict patch_limits p → RowsChecked f p rows (fault_verdict 20 r) 0
    unfolding row_checks
    by_patch r e = refused (patch_positive r) (pair_patch f p whole passed e (patch_positive r)) refl

    module _ (sound : lineless 0 ≡ sheet_verdict patch_limits p) {n : ℕ} (sized : (figure_of f).graph.size ≡ n) where
      left_over : length rows % (figure_of f).graph.size ≡ length rows % n
      left_over = ap (λ k. length rows % k) sized

      -- then 42
      pub by_length : (length rows % n ≡ 0 → ⊥) → RowsChecked f p rows (lineless 42) 0
      unfolding row_checks
      by_length h = refused (λ z. omega arith) (pair_last f p whole passed (sym (ap (λ v. v.number) sound)) (ne_eqb _ 0 (λ z. h (sym left_over ∙ z)))) refl

      -- or the rows are tested
      pub by_rows : length rows % n ≡ 0 → {sheet : List ℕ} → sheet ≡ f → {k i : ℕ} → RowsTested (figure_of sheet) (patch_of p) rows (row_count sheet rows) k i → RowsChecked f p rows (lineless k) i
      unfolding row_checks
      by_rows h same {k} {i} t = tested (sym (ap (λ v. v.number) (pair_none f p whole passed (sym (ap (λ v. v.number) sound)) (eq-eqb _ 0 (left_over ∙ h))))) refl (subst (λ s. RowsTested (figure_of s) (patch_of p) rows (row_count s rows) k i) same t)
