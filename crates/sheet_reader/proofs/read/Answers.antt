-- `read` meets its contract: each return is what `reader` gives where that check is the first to fail. Assumes nothing.
use Prim.Native.Nat.{◌*◌, ◌≤◌}
use mathlib.Core.Path.{ap, ◌∙◌}
use native.Mathlib.Omega.{arith}
use Rattle.std.proofs.Common.{Err}
use Rattle.std.proofs.lemmas.Result.{err_from_is_err_and}
use lib.ListN.{length}
use Rattle.rules.specs.Sheet.{vertex_count, line_count}
use Rattle.rules.specs.Calls.{reader}
use Rattle.sheet_reader.specs.Answers.{as_read}
use Rattle.sheet_reader.proofs.Reading.{by_sheet, by_room, by_counts}
use Rattle.sheet_reader.proofs.read.Goals.{then-kinds-n-via-then-kinds-n, then-kinds-n-via-else-kinds-n+then-lines-m}
use Rattle.sheet_reader.proofs.read.Goals as goal

pub returns-in_err-checked : goal.returns-in_err-checked
returns-in_err-checked c = let a = c.args in
    let t = err_from_is_err_and c.from_residual.result c.from_residual.ensures.1 in
    ap (λ r. as_read r a.kinds.now a.lines.now) (t.1 ∙ ap Err t.2) ∙ by_sheet a.sheet.now a.kinds.now a.lines.now c.in_err-checked.field-0.0 c.in_err-checked.ensures.says

pub returns-then-kinds-n : goal.returns-then-kinds-n
returns-then-kinds-n c = let a = c.args in
    let s = c.in_ok-checked.checked in
    let short : vertex_count s ≤ length a.kinds.now → 3 * line_count s ≤ length a.lines.now → ⊥ = λ h k. elim c.then-kinds-n.branch [ then-kinds-n-via-then-kinds-n w ↦ omega arith | then-kinds-n-via-else-kinds-n+then-lines-m w ↦ omega arith ] in
    by_room s a.kinds.now a.lines.now c.vertices-n.ensures.accepted short ∙ ap (λ b. reader b a.kinds.now a.lines.now) c.in_ok-checked.ensures.same

pub returns : goal.returns
returns c = let a = c.args in by_counts c.in_ok-checked.checked a.kinds.now a.lines.now c.vertices-n.ensures.accepted c.vertices-n.ensures.value c.lines-m.ensures.value (omega arith) (omega arith) c.read_kinds.ensures c.read_lines.ensures ∙ ap (λ b. reader b a.kinds.now a.lines.now) c.in_ok-checked.ensures.same
