-- `read_lines` meets its contract: the goals that the check leaves open. Assumes nothing.
use Prim.Native.Nat.{ℕ, ◌+◌, ◌*◌, ◌-◌}
use mathlib.Core.List.{map, ◌++◌}
use mathlib.Core.Path.{◌≡◌, refl, ◌∙◌, ap}
use native.Mathlib.Omega.{arith}
use lib.ListN.{drop}
use Rattle.laws.proofs.Lists.{length_map_upto}
use Rattle.laws.specs.Lists.{upto}
use Rattle.rules.proofs.ReadWrite.{length_triples}
use Rattle.rules.specs.Calls.{triples}
use Rattle.rules.specs.Sheet.{Line, line_at, vertex_count, line_count, lines_held}
use Rattle.sheet.specs.Fields.{line_of}
use Rattle.sheet_reader.proofs.Stores.{line_put, over_at}
use Rattle.sheet_reader.proofs.read_lines.Goals as goal

pub loop-j-init : goal.loop-j-init
unfolding triples
loop-j-init c = refl

pub loop-j-preserved : goal.loop-j-preserved
loop-j-preserved c = let a = c.args in
    let l = c.loop-j in
    line_put (λ k. line_at a.sheet.now (22 + 6 * vertex_count a.sheet.now + 20 * k)) a.lines.now l.lines c.copy_from_slice.new.self l.j (3 * l.j + 3 - 3 * l.j) (line_of c.line-line.result) c.line-line.ensures c.copy_from_slice.ensures.after (omega arith) l.invariant

pub returns : goal.returns
unfolding lines_held
returns c = let a = c.args in
    let l = c.loop-j in
    let g : ℕ → Line = λ k. line_at a.sheet.now (22 + 6 * vertex_count a.sheet.now + 20 * k) in
    let m = line_count a.sheet.now in
    let e : l.j ≡ m = omega arith in
    l.invariant ∙ ap (λ k. triples (map g (upto k 0)) ++ drop (3 * k) a.lines.now) e ∙ over_at (triples (map g (upto m 0))) a.lines.now (3 * m) (length_triples (map g (upto m 0)) ∙ ap (λ k. 3 * k) (length_map_upto g m 0))
