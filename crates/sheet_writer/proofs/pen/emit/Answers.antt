-- `pen::emit` meets its contract: the byte that goes out is the next eight bits, and the pen holds the rest. Assumes nothing.
use Prim.Native.Nat.{◌+◌, ◌-◌}
use mathlib.Core.Path.{◌≡◌}
use native.Mathlib.Omega.{arith}
use lib.Pow.{shr_lt}
use Rattle.sheet_writer.proofs.Pens.{byte_out}
use Rattle.sheet.proofs.Words.{masked}
use Rattle.sheet_writer.proofs.pen.emit.Goals as goal

pub overflow_cast-bytes-2 : goal.overflow_cast-bytes-2
overflow_cast-bytes-2 c = let p = c.args.pen in
    let e : p.count ≡ 8 + (p.count - 8) = omega arith in
    record { fits = shr_lt {n = p.held} 8 (p.count - 8) (rw e at c.requires.2.low) }

pub returns : goal.returns
returns c = let a = c.args in
    let rest = a.pen.count - 8 in
    (omega arith, rw (masked 32 a.pen.held rest (omega arith)) (byte_out a.pen a.bytes.now rest (omega arith) (omega arith)))
