-- `write_kinds` meets its contract: the goals that the check leaves open. Assumes nothing.
use Prim.Native.Nat.{◌≤◌}
use mathlib.Core.Path.{◌≡◌}
use native.Mathlib.Omega.{arith}
use lib.Seq.{length-take-le}
use lib.ListN.{length, get_or, take}
use Rattle.rules.specs.Sheet.{kind_bits}
use Rattle.sheet_writer.proofs.Lines.{kind_next}
use Rattle.rules.proofs.RoundTrip.{length_kinds}
use Rattle.sheet_writer.proofs.Pens.{nothing, added_then}
use Rattle.sheet_writer.proofs.write_kinds.Goals as goal

pub loop-kind-init : goal.loop-kind-init
unfolding kind_bits
loop-kind-init c = (c.requires.0, nothing c.args.pen c.args.bytes.now c.requires.2.low)

pub put-pen-requires : goal.put-pen-requires
put-pen-requires c = let l = c.loop-kind in
    let i = l.kind-index in
    let k = c.args.kinds.now in
    let fit : get_or k i 0 ≤ 63 = c.requires.1 i (omega arith) in
    let few : length (take i k) ≡ i = length-take-le i k (omega arith) in
    (l.invariant.0, omega arith, omega (arith, c.from.ensures), record { low = l.invariant.1.low; room = omega (arith, l.invariant.1.along, l.invariant.1.same, length_kinds (take i k), c.requires.2.room) })

pub loop-kind-preserved : goal.loop-kind-preserved
loop-kind-preserved c = let l = c.loop-kind in
    (c.put-pen.ensures.0, rw (kind_next c.args.kinds.now l.kind-index (omega arith)) (added_then l.invariant.1 (rw c.from.ensures at c.put-pen.ensures.1)))
