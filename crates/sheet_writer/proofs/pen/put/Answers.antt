-- `pen::put` meets its contract: the goals that the check leaves open. Assumes nothing.
use Prim.Native.Nat.{◌+◌}
use mathlib.Core.Path.{ap}
use native.Mathlib.Omega.{arith}
use Rattle.sheet_writer.proofs.Pens.{field_in, nothing, put_down, moved_up, moved_fits}
use Rattle.sheet_writer.proofs.pen.put.Goals as goal

pub overflow_add-next : goal.overflow_add-next
overflow_add-next c = let a = c.args in let p = c.requires in omega (arith, moved_up a.pen a.width p.0 p.1 p.3.low, moved_fits a.pen a.value a.width p.0 p.1 p.3.low p.2)

pub loop-next-init : goal.loop-next-init
loop-next-init c = let a = c.args in
    let p = c.requires in
    (omega arith, nothing _ a.bytes.now (rw (moved_up a.pen a.width p.0 p.1 p.3.low) (field_in a.pen a.bytes.now a.value a.width p.2 p.3.low).low))

pub returns : goal.returns
returns c = let a = c.args in
    let p = c.requires in
    (omega arith, put_down a.pen a.bytes.now a.value a.width _ p.2 p.3.low (ap (λ k. k + a.value) (moved_up a.pen a.width p.0 p.1 p.3.low)) c.loop-next.invariant.1)
