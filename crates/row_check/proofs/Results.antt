-- What the check of rows returns can be read back from its numbers, so that its contract allows one result alone. Assumes nothing.
use Rattle.std.proofs.Common.{ℕ, ◌-◌, ◌≡◌, List, Result, Ok, Err, cond, refl, sym, ◌∙◌}
use mathlib.Core.Path.{ap₂}
use lib.Dec.{eqb, ltb}
use Rattle.rules.specs.RowCheck.{RowsChecked}
use Rattle.rules.proofs.RowCheck.{one_answer}
use Rattle.sheet.specs.declared.fault.LineFault.{LineFault}
use Rattle.sheet.specs.declared.fault.LineFault.TheVariants.{Unfit, Unordered}
use Rattle.sheet.specs.declared.fault.Fault.{Fault}
use Rattle.sheet.specs.declared.fault.Fault.TheVariants.{Length, Counts, Filling, At}
use Rattle.figure.specs.declared.checked.Refusal.TheVariants.{Sheet, Parts}
use Rattle.row_check.specs.declared.RowFault.{RowFault}
use Rattle.row_check.specs.declared.RowFault.TheVariants.{NotAPlace, Repeated}
use Rattle.row_check.specs.declared.Refusal.{Refusal}
use Rattle.row_check.specs.declared.Refusal.TheVariants.{Figure, Patch, Uneven, Row}
use Rattle.row_check.specs.Answers.{rows_verdict, rows_row}

-- the fault of a sheet by its number past a ten
abbrev fault_of : (digit line : ℕ) → Fault
fault_of digit line = cond (eqb digit 1) Length (cond (eqb digit 2) Counts (cond (eqb digit 3) Filling (At (record { line = line; fault = cond (eqb digit 4) Unfit Unordered }))))

-- a result by its number, its line and its row
abbrev result_of : (number line row : ℕ) → Result (Unit {0}) Refusal
result_of number line row =
    cond (eqb number 0) (Ok tt) (cond (ltb number 16) (Err (Figure (Sheet (fault_of (number - 10) line)))) (cond (eqb number 16) (Err (Figure Parts)) (cond (ltb number 26) (Err (Patch (fault_of (number - 20) line))) (cond (eqb number 42) (Err Uneven) (Err (Row (record { row = row; fault = cond (eqb number 43) NotAPlace Repeated })))))))

abbrev read_back : Result (Unit {0}) Refusal → Result (Unit {0}) Refusal
read_back r = result_of (rows_verdict r).number (rows_verdict r).line (rows_row r)

figure_back : (line : ℕ) (k : LineFault) → read_back (Err (Figure (Sheet (At (record { line = line; fault = k }))))) ≡ Err (Figure (Sheet (At (record { line = line; fault = k }))))
figure_back line Unfit = refl
figure_back line Unordered = refl

patch_back : (line : ℕ) (k : LineFault) → read_back (Err (Patch (At (record { line = line; fault = k })))) ≡ Err (Patch (At (record { line = line; fault = k })))
patch_back line Unfit = refl
patch_back line Unordered = refl

row_back : (row : ℕ) (k : RowFault) → read_back (Err (Row (record { row = row; fault = k }))) ≡ Err (Row (record { row = row; fault = k }))
row_back row NotAPlace = refl
row_back row Repeated = refl

-- every result is read back
back : (r : Result (Unit {0}) Refusal) → read_back r ≡ r
back (Ok a) = refl
back (Err (Figure (Sheet Length))) = refl
back (Err (Figure (Sheet Counts))) = refl
back (Err (Figure (Sheet Filling))) = refl
back (Err (Figure (Sheet (At b)))) = figure_back b.line b.fault
back (Err (Figure Parts)) = refl
back (Err (Patch Length)) = refl
back (Err (Patch Counts)) = refl
back (Err (Patch Filling)) = refl
back (Err (Patch (At b))) = patch_back b.line b.fault
back (Err Uneven) = refl
back (Err (Row b)) = row_back b.row b.fault

-- results with the same numbers are the same
pub numbers_tell : {r s : Result (Unit {0}) Refusal} → rows_verdict r ≡ rows_verdict s → rows_row r ≡ rows_row s → r ≡ s
numbers_tell {r} {s} e f = sym (back r) ∙ ap₂ (λ v i. result_of v.number v.line i) e f ∙ back s

-- two results that the contract allows for the same lists are the same
pub one_result : {figure patch rows : List ℕ} {r s : Result (Unit {0}) Refusal} → RowsChecked figure patch rows (rows_verdict r) (rows_row r) → RowsChecked figure patch rows (rows_verdict s) (rows_row s) → r ≡ s
one_result {figure} {patch} {rows} {r} {s} a b = let e = one_answer figure patch rows a b in numbers_tell {r = r} {s = s} e.0 e.1
