-- What the sheet of a text is, as the rules have it. Assumes nothing: these are definitions.
use Rattle.std.specs.Prelude.{ℕ, ◌≡◌, List, take, drop, Result, Ok, Err, IfOk, OnErr}
use Rattle.rules.specs.Checks.{patch_limits, Accepted}
use Rattle.rules.specs.Calls.{Written}
use Rattle.text.specs.declared.fault.Refusal.{Refusal}
use Rattle.text.specs.Faults.{reason_number}

-- document 01's number of an answer, or the text's own: 0, or that of the refusal
abbrev pub number_of : Result ℕ Refusal → ℕ
number_of (Ok _) = 0
number_of (Err r) = reason_number r.reason

-- the bytes that an answer counts: none with a refusal
abbrev pub count_of : Result ℕ Refusal → ℕ
count_of (Ok count) = count
count_of (Err _) = 0

-- number, count and bytes are what the writer gave; the line is the text's, of which the rules know nothing
pub record Wrote (w : Written) (r : Result ℕ Refusal) (left : List ℕ) : Type 0 where
  pub number : number_of r ≡ w.number
  pub count : count_of r ≡ w.count
  pub bytes : left ≡ w.bytes

-- the bytes that are counted are a patch sheet that the checks accept, a refusal has a number and changes nothing, and what is not counted is untouched
pub record Made (r : Result ℕ Refusal) (lent left : List ℕ) : Type 0 where
  pub accepted : IfOk r (λ count. Accepted patch_limits (take count left))
  pub refused : OnErr r ((number_of r ≡ 0 → ⊥) × (left ≡ lent))
  pub rest : drop (count_of r) left ≡ drop (count_of r) lent
