-- What the reader returns, by the first of its checks to fail.
use Prim.Native.Nat.{ℕ, ◌*◌, ◌≤◌, ◌<◌}
use mathlib.Core.Path.{◌≡◌, refl, sym, ◌∙◌}
use mathlib.Core.Logic.{inl, inr}
use mathlib.Core.Bool.{◌&&◌, and-eq-true_iff}
use mathlib.Core.List.{List, [], ◌∷◌}
use native.Mathlib.Omega.{arith}
use borrow.Author.Tests.{leb-true}
use lib.Dec.{leb}
use lib.ListN.{length}
use Rattle.std.proofs.Common.{Ok, Err}
use Rattle.laws.proofs.Lists.{split}
use Rattle.rules.specs.Sheet.{vertex_count, line_count, kinds_held, lines_held}
use Rattle.rules.specs.Checks.{lineless, Check, verdict, patch_limits, sheet_verdict, Accepted}
use Rattle.rules.specs.Calls.{over, triples, reader_checks, reader}
use Rattle.rules.proofs.Verdicts.{checked_fails, verdict_fails}
use Rattle.rules.proofs.Accepted.{sheet_first, sheet_rest, sheet_accepted}
use Rattle.rules.proofs.ReadWrite.{reader_taken}
use Rattle.sheet.specs.Check.{fault_verdict}
use Rattle.sheet.specs.declared.fault.Fault.{Fault}
use Rattle.sheet.proofs.Verdicts.{fault_positive, fault_stands}
use Rattle.sheet_reader.specs.declared.Refusal.{Refusal}
use Rattle.sheet_reader.specs.declared.Refusal.TheVariants.{Sheet, Room}
use Rattle.sheet_reader.specs.Answers.{refusal_verdict, as_read}

-- a refusal is never answered 0
pub refusal_positive : (r : Refusal) → 0 < (refusal_verdict r).number
refusal_positive (Sheet f) = fault_positive 20 f
refusal_positive Room = omega arith

module _ (bytes ks ls : List ℕ) where
  abbrev space : Check
  space = (leb (vertex_count bytes) (length ks) && leb (3 * line_count bytes) (length ls), lineless 33)

  -- a refusal by the first check to fail
  refused : (r : Refusal) → verdict (reader_checks bytes ks ls) ≡ refusal_verdict r → as_read (Err r) ks ls ≡ reader bytes ks ls
  unfolding reader
  refused r e = sym (rw e (checked_fails (refusal_verdict r) _ _ (λ z. omega (arith, refusal_positive r, z))))

  pub by_sheet : (f : Fault) → fault_verdict 20 f ≡ sheet_verdict patch_limits bytes → as_read (Err (Sheet f)) ks ls ≡ reader bytes ks ls
  by_sheet f e = refused (Sheet f) (sym (sheet_first patch_limits bytes (space ∷ []) e (fault_stands 20 f refl)))

  module _ (A : Accepted patch_limits bytes) where
    pub by_room : (vertex_count bytes ≤ length ks → 3 * line_count bytes ≤ length ls → ⊥) → as_read (Err Room) ks ls ≡ reader bytes ks ls
    by_room f = elim (split space.0) [
      | inl e ↦ let t = (and-eq-true_iff _ _).0 e in absurd (f (leb-true _ _ t.0) (leb-true _ _ t.1))
      | inr e ↦ refused Room (sheet_rest patch_limits bytes (space ∷ []) ((sheet_accepted patch_limits bytes).1 A) ∙ verdict_fails space [] e)
    ]

    -- what the two lists are written with
    pub by_counts : {n m : ℕ} {ks' ls' : List ℕ} → n ≡ vertex_count bytes → m ≡ line_count bytes → n ≤ length ks → 3 * m ≤ length ls → ks' ≡ over (kinds_held bytes (vertex_count bytes)) ks → ls' ≡ over (triples (lines_held bytes (vertex_count bytes) (line_count bytes))) ls → as_read (Ok (record { vertices = n; lines = m })) ks' ls' ≡ reader bytes ks ls
    by_counts a b h k p q = (λ i. as_read (Ok (record { vertices = a i; lines = b i })) (p i) (q i)) ∙ sym (reader_taken bytes ks ls (record { sheet = A; kinds = omega arith; lines = omega arith }))
