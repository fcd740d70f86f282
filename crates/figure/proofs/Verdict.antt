-- What a figure's checks answer, from its sheet's and from the test for a connected figure. Assumes nothing.
use Prim.Native.Nat.{ℕ}
use mathlib.Core.Path.{◌≡◌, refl, ap, sym, ◌∙◌}
use mathlib.Core.Bool.{true, false, false≢true}
use mathlib.Core.List.{List, [], ◌∷◌}
use Rattle.std.specs.Prelude.{Result, Ok, Err}
use Rattle.std.specs.Result.{IsErr, IsErrAnd}
use Rattle.sheet.specs.Check.{fault_verdict}
use Rattle.sheet.specs.declared.fault.Fault.{Fault}
use Rattle.sheet.proofs.Verdicts.{fault_stands}
use Rattle.figure.specs.declared.FigureArrays.{FigureArrays}
use Rattle.figure.specs.declared.checked.Refusal.{Refusal}
use Rattle.figure.specs.declared.checked.Refusal.TheVariants.{Sheet}
use Rattle.figure.specs.Checked.{CheckedArrays, refusal_verdict}
use Rattle.rules.specs.Checks.{Verdict, lineless, verdict, sheet_verdict, figure_limits, Accepted}
use Rattle.rules.specs.Calls.{connected, figure_of, figure_checks}
use Rattle.rules.proofs.Verdicts.{verdict_passes, verdict_fails, verdict_none}
use Rattle.rules.proofs.Accepted.{sheet_first, sheet_rest, sheet_accepted}

-- the figure's checks after its sheet's verdict
module _ (bytes : List ℕ) where
  pub sheet_fails : {v : Verdict} → v ≡ sheet_verdict figure_limits bytes → (v.number ≡ 0 → ⊥) → v ≡ verdict (figure_checks bytes)
  sheet_fails = sheet_first figure_limits bytes ((connected (figure_of bytes), lineless 16) ∷ [])

  module _ (A : Accepted figure_limits bytes) where
    good : (sheet_verdict figure_limits bytes).number ≡ 0
    good = (sheet_accepted figure_limits bytes).1 A

    -- 16, or none
    pub in_parts : connected (figure_of bytes) ≡ false → lineless 16 ≡ verdict (figure_checks bytes)
    in_parts e = sym (sheet_rest figure_limits bytes _ good ∙ verdict_fails (connected (figure_of bytes), lineless 16) [] e)

    pub in_one_part : connected (figure_of bytes) ≡ true → lineless 0 ≡ verdict (figure_checks bytes)
    in_one_part e = sym (sheet_rest figure_limits bytes _ good ∙ verdict_passes (connected (figure_of bytes), lineless 16) [] e ∙ verdict_none)

-- a sheet that something is wrong with is refused for it
pub refused : (bytes : List ℕ) (f : Fault) (r : Result FigureArrays Refusal) → IsErr r × IsErrAnd r (λ e. e ≡ Sheet f) → fault_verdict 10 f ≡ sheet_verdict figure_limits bytes → CheckedArrays bytes r
refused bytes f (Err e) h says = record { answers = ap refusal_verdict h.1 ∙ sheet_fails bytes says (fault_stands 10 f refl); holds = tt }
refused bytes f (Ok a) h says = absurd (false≢true h.0)
