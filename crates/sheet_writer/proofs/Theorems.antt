-- What the writer's contract says, by itself and with the reader's: two results that it allows coincide, a refusal changes nothing, an acceptance changes only what it counts, and both round trips.
use Prim.Native.Nat.{ℕ, ◌+◌, ◌*◌, ◌/◌, ◌≤◌}
use mathlib.Core.Path.{◌≡◌, refl, ap, sym, ◌∙◌}
use mathlib.Core.Logic.{⊎_elim}
use mathlib.Core.Bool.{cond}
use mathlib.Core.List.{List}
use lib.Dec.{eqb}
use lib.ListN.{length, take, drop}
use Rattle.std.specs.Prelude.{Result}
use Rattle.std.specs.Prelude.{Ok, Err}
use Rattle.rules.specs.Sheet.{Bytes}
use Rattle.rules.specs.Checks.{Verdict}
use Rattle.rules.specs.Calls.{over, ReaderHanded, WriterHanded, reader, writer}
use Rattle.rules.proofs.ReadWrite.{reader_writer, writer_taken, writer_either, writer_reader, writer_untouched}
use Rattle.sheet.specs.Check.{line_digit}
use Rattle.sheet.specs.declared.fault.LineFault.{LineFault}
use Rattle.sheet.specs.declared.fault.LineFault.TheVariants.{Unfit, Unordered}
use Rattle.sheet.specs.declared.fields.SheetCounts.{SheetCounts}
use Rattle.sheet_reader.specs.declared.Refusal.{Refusal as Unread}
use Rattle.sheet_reader.specs.Answers.{as_read}
use Rattle.sheet_reader.proofs.Theorems.{as_read_once}
use Rattle.sheet_writer.specs.declared.Refusal.{Refusal}
use Rattle.sheet_writer.specs.declared.Refusal.TheVariants.{Uneven, Counts, Kind, At, Room}
use Rattle.sheet_writer.specs.Answers.{refusal_verdict, as_written}
use Rattle.sheet_writer.proofs.Writing.{refusal_number}

-- the refusal that document 01's number and line say
abbrev refusal_said : Verdict → Refusal
refusal_said v = cond (eqb v.number 34) Uneven (cond (eqb v.number 22) Counts (cond (eqb v.number 35) Kind (cond (eqb v.number 33) Room (At (record { line = v.line; fault = cond (eqb v.number 24) Unfit Unordered })))))

at_again : (l : ℕ) (f : LineFault) → refusal_said (record { number = 20 + line_digit f; line = l }) ≡ At (record { line = l; fault = f })
at_again l Unfit = refl
at_again l Unordered = refl

said_again : (r : Refusal) → refusal_said (refusal_verdict r) ≡ r
said_again Uneven = refl
said_again Counts = refl
said_again Kind = refl
said_again (At b) = at_again b.line b.fault
said_again Room = refl

-- the numbers tell the result
pub as_written_once : (r q : Result ℕ Refusal) (b d : List ℕ) → as_written r b ≡ as_written q d → (r ≡ q) × (b ≡ d)
as_written_once (Ok n) (Ok k) b d e = (ap (λ w. Ok w.count) e, ap (λ w. w.bytes) e)
as_written_once (Ok n) (Err q) b d e = absurd (refusal_number q (sym (ap (λ w. w.number) e)))
as_written_once (Err r) (Ok k) b d e = absurd (refusal_number r (ap (λ w. w.number) e))
as_written_once (Err r) (Err q) b d e = (ap Err (sym (said_again r) ∙ ap (λ w. refusal_said (record { number = w.number; line = w.line })) e ∙ said_again q), ap (λ w. w.bytes) e)

-- what an accepted call of `read` came to: its counts and the two lists afterwards
module _ (sheet ks ls : List ℕ) (n : SheetCounts) (ks' ls' : List ℕ) (e : as_read (Ok n) ks' ls' ≡ reader sheet ks ls) where
  -- a sheet that is read and written again is the same bytes
  pub read_then_write : Bytes sheet → ReaderHanded sheet ks ls → (out : List ℕ) → length sheet ≤ length out → (w : Result ℕ Refusal) (out' : List ℕ) → as_written w out' ≡ writer (take n.vertices ks') (take (3 * n.lines) ls') out → (w ≡ Ok (length sheet)) × (out' ≡ over sheet out)
  read_then_write small H out h w out' f = as_written_once w (Ok (length sheet)) out' (over sheet out) (f ∙ (rw (sym e) at (reader_writer sheet ks ls small H out h)))

-- what a call of `write` came to: its result and the bytes afterwards
module _ (ks ls out : List ℕ) (r : Result ℕ Refusal) (out' : List ℕ) (e : as_written r out' ≡ writer ks ls out) where
  -- another result that the contract allows
  pub write_once : (q : Result ℕ Refusal) (oq : List ℕ) → as_written q oq ≡ writer ks ls out → (r ≡ q) × (out' ≡ oq)
  write_once q oq f = as_written_once r q out' oq (e ∙ sym f)

  -- a refusal changes nothing
  pub write_refused : (q : Refusal) → r ≡ Err q → out' ≡ out
  write_refused q u = let g = rw u at e in ⊎_elim (λ t. absurd (refusal_number q (ap (λ w. w.number) (g ∙ t.1)))) (λ t. ap (λ w. w.bytes) (g ∙ t.1)) (writer_either ks ls out)

  -- what is handed rightly is written, and only the bytes that are counted change
  pub write_taken : WriterHanded ks ls out → (count : ℕ) × (r ≡ Ok count) × (drop count out' ≡ drop count out)
  write_taken H = let g = (as_written_once r (Ok _) out' _ (e ∙ writer_taken ks ls out H)).0 in (_, g, rw g at (rw (sym e) at (writer_untouched ks ls out H)))

  -- lists that are written and read again are the same lists
  pub write_then_read : WriterHanded ks ls out → (count : ℕ) → r ≡ Ok count → (kl ll : List ℕ) → length ks ≤ length kl → length ls ≤ length ll → (q : Result SheetCounts Unread) (kl' ll' : List ℕ) → as_read q kl' ll' ≡ reader (take count out') kl ll → (q ≡ Ok (record { vertices = length ks; lines = length ls / 3 })) × (kl' ≡ over ks kl) × (ll' ≡ over ls ll)
  write_then_read H count u kl ll h k q kl' ll' f = as_read_once q (Ok (record { vertices = length ks; lines = length ls / 3 })) kl' ll' (over ks kl) (over ls ll) (f ∙ (rw u at (rw (sym e) at (writer_reader ks ls out H kl ll h k))))
