-- What the reader's contract says: two results that it allows coincide, a refusal changes nothing, and an acceptance changes only what it counts.
use Prim.Native.Nat.{ℕ, ◌*◌}
use mathlib.Core.Path.{◌≡◌, ap, sym, ◌∙◌}
use mathlib.Core.Logic.{⊎_elim}
use mathlib.Core.List.{List}
use native.Mathlib.Omega.{arith}
use lib.ListN.{drop}
use Rattle.std.proofs.Common.{Result, Ok, Err, refl}
use Rattle.rules.specs.Sheet.{vertex_count, line_count}
use Rattle.rules.specs.Calls.{ReaderHanded, reader}
use Rattle.rules.proofs.ReadWrite.{reader_taken, reader_either, reader_untouched}
use Rattle.sheet.proofs.Verdicts.{fault_most}
use Rattle.sheet.proofs.Theorems.{fault_once, counts_once}
use Rattle.sheet.specs.declared.fields.SheetCounts.{SheetCounts}
use Rattle.sheet_reader.specs.declared.Refusal.{Refusal}
use Rattle.sheet_reader.specs.declared.Refusal.TheVariants.{Sheet, Room}
use Rattle.sheet_reader.specs.Answers.{refusal_verdict, as_read}
use Rattle.sheet_reader.proofs.Reading.{refusal_positive}

-- two refusals that are answered alike
pub refusal_once : (r q : Refusal) → refusal_verdict r ≡ refusal_verdict q → r ≡ q
refusal_once (Sheet f) (Sheet g) e = ap Sheet (fault_once 20 f g e)
refusal_once (Sheet f) Room e = absurd (omega (arith, fault_most 20 f, ap (λ v. v.number) e))
refusal_once Room (Sheet g) e = absurd (omega (arith, fault_most 20 g, ap (λ v. v.number) e))
refusal_once Room Room e = refl

-- two results, with their lists, that read alike
pub as_read_once : (r q : Result SheetCounts Refusal) (ks ls kq lq : List ℕ) → as_read r ks ls ≡ as_read q kq lq → (r ≡ q) × (ks ≡ kq) × (ls ≡ lq)
as_read_once (Ok c) (Ok d) ks ls kq lq e = (ap Ok (counts_once d.vertices d.lines c d (ap (λ t. t.vertices) e, ap (λ t. t.lines) e) (refl, refl)), ap (λ t. t.kind_list) e, ap (λ t. t.line_list) e)
as_read_once (Ok c) (Err g) ks ls kq lq e = absurd (omega (arith, refusal_positive g, ap (λ t. t.number) e))
as_read_once (Err f) (Ok d) ks ls kq lq e = absurd (omega (arith, refusal_positive f, ap (λ t. t.number) e))
as_read_once (Err f) (Err g) ks ls kq lq e = (ap Err (refusal_once f g (λ i. record { number = (e i).number; line = (e i).line })), ap (λ t. t.kind_list) e, ap (λ t. t.line_list) e)

-- what a call of `read` came to: its result and the two lists afterwards
module _ (sheet ks ls ks' ls' : List ℕ) where
  -- another result that the contract allows
  pub read_once : (r q : Result SheetCounts Refusal) (kq lq : List ℕ) → as_read r ks' ls' ≡ reader sheet ks ls → as_read q kq lq ≡ reader sheet ks ls → (r ≡ q) × (ks' ≡ kq) × (ls' ≡ lq)
  read_once r q kq lq e f = as_read_once r q ks' ls' kq lq (e ∙ sym f)

  -- a refusal changes nothing
  pub read_refused : (f : Refusal) → as_read (Err f) ks' ls' ≡ reader sheet ks ls → (ks' ≡ ks) × (ls' ≡ ls)
  read_refused f e = ⊎_elim (λ t. absurd (omega (arith, refusal_positive f, ap (λ q. q.number) (e ∙ t.1)))) (λ t. let g = e ∙ t.1 in (ap (λ q. q.kind_list) g, ap (λ q. q.line_list) g)) (reader_either sheet ks ls)

  -- what is handed rightly is read: n and m come back, and only the first n and 3m numbers change
  pub read_taken : (r : Result SheetCounts Refusal) → as_read r ks' ls' ≡ reader sheet ks ls → ReaderHanded sheet ks ls → (c : SheetCounts) × (r ≡ Ok c) × (c.vertices ≡ vertex_count sheet) × (c.lines ≡ line_count sheet) × (drop c.vertices ks' ≡ drop c.vertices ks) × (drop (3 * c.lines) ls' ≡ drop (3 * c.lines) ls)
  read_taken (Ok c) e H = let g = e ∙ reader_taken sheet ks ls H in let u = rw (sym e) at (reader_untouched sheet ks ls H) in (c, refl, ap (λ q. q.vertices) g, ap (λ q. q.lines) g, u.0, u.1)
  read_taken (Err f) e H = absurd (omega (arith, refusal_positive f, ap (λ q. q.number) (e ∙ reader_taken sheet ks ls H)))
