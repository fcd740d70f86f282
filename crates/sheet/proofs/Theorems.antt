-- What the contracts of the public calls say together: two results that a contract allows coincide, and a check answers by one of its numbers.
use Prim.Native.Nat.{ℕ, zero, suc, ◌+◌, ◌-◌, ◌<◌}
use mathlib.Core.Path.{◌≡◌, refl, ap, sym, ◌∙◌}
use mathlib.Core.Logic.{◌⊎◌}
use mathlib.Core.List.{List, [], ◌∷◌, Memᴰ}
use native.Mathlib.Omega.{arith}
use Rattle.std.proofs.Common.{Result, Ok, Err, IfOk}
use Rattle.rules.specs.Sheet.{Line, line_at}
use Rattle.rules.specs.Checks.{Limits, figure_limits, patch_limits, sheet_checks, sheet_verdict}
use Rattle.rules.proofs.Verdicts.{verdict_number}
use Rattle.rules.proofs.Accepted.{sheet_numbered, tens}
use Rattle.sheet.specs.declared.fields.SheetLine.{SheetLine}
use Rattle.sheet.specs.declared.fields.SheetCounts.{SheetCounts}
use Rattle.sheet.specs.declared.fault.LineFault.{LineFault}
use Rattle.sheet.specs.declared.fault.LineFault.TheVariants.{Unfit, Unordered}
use Rattle.sheet.specs.declared.fault.Fault.{Fault}
use Rattle.sheet.specs.declared.fault.Fault.TheVariants.{Length, Counts, Filling, At}
use Rattle.sheet.specs.Fields.{line_of}
use Rattle.sheet.specs.Check.{line_digit, fault_verdict, check_verdict}
use Rattle.sheet.proofs.Verdicts.{passes, fault_stands}
use Rattle.sheet.proofs.Words.{field_lt}

-- a check answers 0, exactly where the sheet is as its checks want it (`sheet_accepted` of rules), or one of its five numbers
pub check_numbers : (L : Limits) (sheet : List ℕ) → ((sheet_verdict L sheet).number ≡ 0) ⊎ Memᴰ (sheet_verdict L sheet).number ((L.ten + 1) ∷ (L.ten + 2) ∷ (L.ten + 3) ∷ (L.ten + 4) ∷ (L.ten + 5) ∷ [])
unfolding sheet_verdict
check_numbers L sheet = verdict_number (sheet_checks L sheet) (sheet_numbered L (tens L.ten (Memᴰ.head refl) (Memᴰ.tail (Memᴰ.head refl)) (Memᴰ.tail (Memᴰ.tail (Memᴰ.head refl))) (Memᴰ.tail (Memᴰ.tail (Memᴰ.tail (Memᴰ.head refl)))) (Memᴰ.tail (Memᴰ.tail (Memᴰ.tail (Memᴰ.tail (Memᴰ.head refl)))))) sheet)

-- the numbers of a line that is read fit their bits
pub line_at_small : (sheet : List ℕ) (i : ℕ) → ((line_at sheet i).type < 4) × ((line_at sheet i).first < 512) × ((line_at sheet i).second < 512)
unfolding line_at
line_at_small sheet i = (field_lt sheet i 2, field_lt sheet (i + 2) 9, field_lt sheet (i + 11) 9)

-- two results that the contract of `field` or `kind_at` allows
pub field_once : (x r r' : ℕ) → r ≡ x → r' ≡ x → r ≡ r'
field_once x r r' e f = e ∙ sym f

-- of `line_at`
pub line_at_once : (l : Line) (r r' : SheetLine) → line_of r ≡ l → line_of r' ≡ l → r ≡ r'
line_at_once l r r' e f = let g = e ∙ sym f in λ i. record { sort = (g i).type; first = (g i).first; second = (g i).second }

-- of `counts`
pub counts_once : (n m : ℕ) (r r' : SheetCounts) → (r.vertices ≡ n) × (r.lines ≡ m) → (r'.vertices ≡ n) × (r'.lines ≡ m) → r ≡ r'
counts_once n m r r' e f = let v = e.0 ∙ sym f.0 in let l = e.1 ∙ sym f.1 in λ i. record { vertices = v i; lines = l i }

-- the fault that a number and a line say, by how far the number is past the ten
abbrev fault_of : (digit line : ℕ) → Fault
fault_of (suc (suc zero)) line = Counts
fault_of (suc (suc (suc zero))) line = Filling
fault_of (suc (suc (suc (suc zero)))) line = At (record { line = line; fault = Unfit })
fault_of (suc (suc (suc (suc (suc zero))))) line = At (record { line = line; fault = Unordered })
fault_of _ line = Length

bad_line_back : (ten line : ℕ) (k : LineFault) → fault_of (ten + line_digit k - ten) line ≡ At (record { line = line; fault = k })
bad_line_back ten line Unfit = let e : ten + 4 - ten ≡ 4 = omega arith in rw e
bad_line_back ten line Unordered = let e : ten + 5 - ten ≡ 5 = omega arith in rw e

fault_back : (ten : ℕ) (f : Fault) → fault_of ((fault_verdict ten f).number - ten) (fault_verdict ten f).line ≡ f
fault_back ten Length = let e : ten + 1 - ten ≡ 1 = omega arith in rw e
fault_back ten Counts = let e : ten + 2 - ten ≡ 2 = omega arith in rw e
fault_back ten Filling = let e : ten + 3 - ten ≡ 3 = omega arith in rw e
fault_back ten (At b) = bad_line_back ten b.line b.fault

-- two faults that are answered alike
pub fault_once : (ten : ℕ) (f g : Fault) → fault_verdict ten f ≡ fault_verdict ten g → f ≡ g
fault_once ten f g e = sym (fault_back ten f) ∙ ap (λ v. fault_of (v.number - ten) v.line) e ∙ fault_back ten g

-- of `Sheet::check`
check_once : (L : Limits) (sheet : List ℕ) (r r' : Result (List ℕ) Fault) → check_verdict L.ten r ≡ sheet_verdict L sheet → IfOk r (λ s. s ≡ sheet) → check_verdict L.ten r' ≡ sheet_verdict L sheet → IfOk r' (λ s. s ≡ sheet) → r ≡ r'
check_once L sheet (Ok s) (Ok s') e i f j = ap Ok (i ∙ sym j)
check_once L sheet (Ok s) (Err g) e i f j = absurd (fault_stands L.ten g f (passes e refl))
check_once L sheet (Err h) (Ok s) e i f j = absurd (fault_stands L.ten h e (passes f refl))
check_once L sheet (Err h) (Err g) e i f j = ap Err (fault_once L.ten h g (e ∙ sym f))

pub check_figure_once : (sheet : List ℕ) (r r' : Result (List ℕ) Fault) → check_verdict 10 r ≡ sheet_verdict figure_limits sheet → IfOk r (λ s. s ≡ sheet) → check_verdict 10 r' ≡ sheet_verdict figure_limits sheet → IfOk r' (λ s. s ≡ sheet) → r ≡ r'
check_figure_once = check_once figure_limits

pub check_patch_once : (sheet : List ℕ) (r r' : Result (List ℕ) Fault) → check_verdict 20 r ≡ sheet_verdict patch_limits sheet → IfOk r (λ s. s ≡ sheet) → check_verdict 20 r' ≡ sheet_verdict patch_limits sheet → IfOk r' (λ s. s ≡ sheet) → r ≡ r'
check_patch_once = check_once patch_limits
