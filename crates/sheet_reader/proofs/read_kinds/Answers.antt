-- `read_kinds` meets its contract: the goals that the check leaves open. Assumes nothing.
use Prim.Native.Nat.{ℕ, ◌+◌, ◌*◌}
use mathlib.Core.Path.{◌∙◌, ap}
use mathlib.Core.List.{map}
use native.Mathlib.Omega.{arith}
use Rattle.laws.specs.Lists.{upto}
use Rattle.rules.specs.Calls.{over}
use Rattle.rules.specs.Sheet.{field, kinds_held}
use Rattle.sheet_reader.proofs.Stores.{number_put, numbers_over}
use Rattle.sheet_reader.proofs.read_kinds.Goals as goal

pub loop-v-preserved : goal.loop-v-preserved
loop-v-preserved c = let a = c.args in let l = c.loop-v in number_put (λ k. field a.sheet.now (22 + 6 * k) 6) _ l.kind-items l.v c.kind.result c.kind.ensures c.loop-v-test.true l.invariant

pub returns : goal.returns
unfolding kinds_held
returns c = let a = c.args in
    let l = c.loop-v in
    let g : ℕ → ℕ = λ k. field a.sheet.now (22 + 6 * k) 6 in
    numbers_over g a.kinds.now l.kind-items c.vertices-n.result l.v (omega arith) l.auto.v-end c.loop-v-test.false l.invariant ∙ ap (λ n. over (map g (upto n 0)) a.kinds.now) c.vertices-n.ensures.value
