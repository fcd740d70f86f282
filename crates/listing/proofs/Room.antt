-- A reader that is lent room for any patch answers what the check of the sheet answers. Assumes nothing.
use Prim.Native.Nat.{ℕ, ◌≤◌, ◌<◌}
use mathlib.Core.Path.{◌≡◌, refl, sym, ap, ◌∙◌}
use mathlib.Core.Logic.{inl, inr}
use mathlib.Core.List.{List, [], ◌∷◌}
use native.Mathlib.Decide.{ℕ_discrete}
use native.Mathlib.Omega.{arith}
use lib.ListN.{length}
use Rattle.std.proofs.Common.{ltb, ltb-true}
use Rattle.laws.proofs.Lists.{has_out, all_out}
use Rattle.rules.specs.Checks.{Verdict, verdict, patch_limits, sheet_checks, sheet_verdict}
use Rattle.rules.specs.Calls.{Read, reader_checks, unread, reader}
use Rattle.rules.proofs.Verdicts.{checked_fails, verdict_number}
use Rattle.rules.proofs.Accepted.{tens, sheet_numbered, sheet_first, sheet_accepted, sheet_passed}
use Rattle.rules.proofs.ReadWrite.{reader_taken}

-- the answer of a call of the reader
abbrev pub told : Read → Verdict
told r = record { number = r.number; line = r.line }

-- what such a reader answers, and the counts that it returns, which are within a patch's limits
pub record Roomy (bytes : List ℕ) (r : Read) : Type 0 where
  pub same : told r ≡ sheet_verdict patch_limits bytes
  pub vertices : r.vertices ≤ 512
  pub lines : r.lines ≤ 2_048

roomy : (bytes ks ls : List ℕ) → 512 ≤ length ks → 6_144 ≤ length ls → Roomy bytes (reader bytes ks ls)
unfolding reader
roomy bytes ks ls h k = elim (ℕ_discrete (sheet_verdict patch_limits bytes).number 0) [
  | yes z ↦
      let A = (sheet_accepted patch_limits bytes).0 z in
      let e = reader_taken bytes ks ls (record { sheet = A; kinds = omega (arith, A.vertices); lines = omega (arith, A.lines) }) in
      record { same = ap told e ∙ sym (sheet_passed patch_limits bytes z); vertices = rw e (omega (arith, A.vertices)); lines = rw e (omega (arith, A.lines)) }
  | no f ↦
      let first : sheet_verdict patch_limits bytes ≡ verdict (reader_checks bytes ks ls) = sheet_first patch_limits bytes _ refl f in
      let e : reader bytes ks ls ≡ unread (verdict (reader_checks bytes ks ls)) ks ls = checked_fails (verdict (reader_checks bytes ks ls)) _ _ (λ z. f (ap (λ v. v.number) first ∙ z)) in
      record { same = ap told e ∙ sym first; vertices = rw e (omega arith); lines = rw e (omega arith) }
]

-- and so what a call of `read` came to
pub read_roomy : (bytes ks ls : List ℕ) (r : Read) → r ≡ reader bytes ks ls → 512 ≤ length ks → 6_144 ≤ length ls → Roomy bytes r
read_roomy bytes ks ls r e h k = rw e (roomy bytes ks ls h k)

-- no check of a patch sheet has the number 33, by which a reader refuses short lists
pub no_33 : (bytes : List ℕ) → (sheet_verdict patch_limits bytes).number < 33
unfolding sheet_verdict
no_33 bytes = elim (verdict_number {ns = 21 ∷ 22 ∷ 23 ∷ 24 ∷ 25 ∷ []} (sheet_checks patch_limits bytes) (sheet_numbered patch_limits (tens 20 (has_out 21 _ refl) (has_out 22 _ refl) (has_out 23 _ refl) (has_out 24 _ refl) (has_out 25 _ refl)) bytes)) [
  | inl z ↦ omega arith
  | inr m ↦ ltb-true _ 33 (all_out (λ k. ltb k 33) m refl)
]
