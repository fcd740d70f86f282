-- What the writer leaves: what it counts is within the bytes and is an accepted sheet, the rest is as it was. Assumes nothing.
use Prim.Native.Nat.{ℕ, ◌/◌, ◌≤◌}
use mathlib.Core.Path.{◌≡◌, refl, sym, ap, ◌∙◌}
use mathlib.Core.Logic.{⊎_elim}
use mathlib.Core.List.{List}
use native.Mathlib.Omega.{arith}
use lib.ListN.{length, take, drop}
use lib.Seq.{length-take-le, take_at}
use Rattle.std.proofs.Common.{IfOk, Result, Ok, Err}
use Rattle.std.specs.Result.{result_unwrap_or}
use Rattle.rules.specs.Sheet.{byte_length, written}
use Rattle.rules.specs.Checks.{patch_limits, Accepted}
use Rattle.rules.specs.Calls.{Written, sheet_of, writer}
use Rattle.rules.proofs.Verdicts.{from_11}
use Rattle.rules.proofs.RoundTrip.{written_long, written_accepted}
use Rattle.rules.proofs.ReadWrite.{length_lines_of, writer_either, writer_untouched}
use Rattle.sheet_writer.specs.declared.Refusal as of_writer
use Rattle.sheet_writer.specs.Answers.{as_written}
use Rattle.streams.specs.Counts.{IsPrefixLen}
use Rattle.sheet_writer.specs.declared.Refusal.TheVariants.{Uneven, Counts, Kind, At, Room}
use Rattle.text.specs.declared.fault.TextFault.TheVariants.{Item, Number, Word, Misfit, More, Turn, Length}
use Rattle.text.specs.declared.fault.Reason.{Reason}
use Rattle.text.specs.declared.fault.Reason.TheVariants.{Text, Sheet}
use Rattle.text.specs.declared.fault.Refusal.{Refusal}
use Rattle.text.specs.Faults.{reason_number}
use Rattle.text.specs.Sheets.{Wrote, Made}

count_fits : (ks ls out : List ℕ) → (writer ks ls out).count ≤ length out
count_fits ks ls out = ⊎_elim (λ t. rw t.1 t.0.space) (λ t. rw t.1 (omega arith)) (writer_either ks ls out)

-- what is counted is within the bytes
pub fits : (ks ls out : List ℕ) (n : ℕ) (left : List ℕ) → n ≡ (writer ks ls out).count → length left ≡ length out → IsPrefixLen n left
fits ks ls out n left k h =
    let c : n ≤ length left = omega (arith, h, k, count_fits ks ls out) in
    (c, sym (length-take-le _ left c))

-- and so the count that a call of `write` gives, or 0 in its place
pub fits_or : (ks ls out : List ℕ) (r : Result ℕ of_writer.Refusal) (n : ℕ) (left : List ℕ) → as_written r left ≡ writer ks ls out → n ≡ result_unwrap_or r 0 → length left ≡ length out → IsPrefixLen n left
fits_or ks ls out (Ok _) n left e k h = fits ks ls out n left (k ∙ ap (λ w. w.count) e) h
fits_or ks ls out (Err _) n left e k h = fits ks ls out n left (k ∙ ap (λ w. w.count) e) h

-- and so the count of a text's sheet
pub counted : (ks ls out : List ℕ) (r : Result ℕ Refusal) (left : List ℕ) → Wrote (writer ks ls out) r left → length left ≡ length out → IfOk r (λ count. IsPrefixLen count left)
counted ks ls out (Ok count) left W h = fits ks ls out count left W.count h
counted ks ls out (Err _) left W h = tt

-- the bytes that were lent, after the writer
record Left (w : Written) (out : List ℕ) : Type 0 where
  accepted : w.number ≡ 0 → Accepted patch_limits (take w.count w.bytes)
  refused : (w.number ≡ 0 → ⊥) → w.bytes ≡ out
  rest : drop w.count w.bytes ≡ drop w.count out

left_by : (ks ls out : List ℕ) → Left (writer ks ls out) out
left_by ks ls out = ⊎_elim
    (λ t. record {
      accepted = λ z. rw (t.1, take_at (written (sheet_of ks ls)) (drop (length (written (sheet_of ks ls))) out) (byte_length (length ks) (length ls / 3)) (written_long (sheet_of ks ls) t.0.sheet ∙ ap (byte_length (length ks)) (length_lines_of ls))) (written_accepted (sheet_of ks ls) t.0.sheet);
      refused = λ f. absurd (f (ap (λ w. w.number) t.1));
      rest = writer_untouched ks ls out t.0;
    })
    (λ t. record {
      accepted = λ z. absurd (omega (arith, from_11 refl t.0, ap (λ w. w.number) t.1));
      refused = λ f. ap (λ w. w.bytes) t.1;
      rest = rw t.1;
    })
    (writer_either ks ls out)

-- a reason has a number, and it is not 0
pub numbered : (r : Reason) → reason_number r ≡ 0 → ⊥
numbered (Text Item) z = cc
numbered (Text Number) z = cc
numbered (Text Word) z = cc
numbered (Text Misfit) z = cc
numbered (Text More) z = cc
numbered (Text Turn) z = cc
numbered (Text Length) z = cc
numbered (Sheet Uneven) z = cc
numbered (Sheet Counts) z = cc
numbered (Sheet Kind) z = cc
numbered (Sheet (At b)) z = omega arith
numbered (Sheet Room) z = cc

-- what is made of lists by the writer is what a text's sheet is to be
pub made : (ks ls out : List ℕ) (r : Result ℕ Refusal) (left : List ℕ) → Wrote (writer ks ls out) r left → Made r out left
made ks ls out (Ok count) left W = let L = left_by ks ls out in record {
  accepted = rw (W.count, W.bytes) (L.accepted (sym W.number));
  refused = tt;
  rest = rw (W.count, W.bytes) L.rest;
}
made ks ls out (Err r) left W =
    let same : left ≡ out = W.bytes ∙ (left_by ks ls out).refused (λ z. numbered r.reason (W.number ∙ z)) in
    record { accepted = tt; refused = (numbered r.reason, same); rest = same }
