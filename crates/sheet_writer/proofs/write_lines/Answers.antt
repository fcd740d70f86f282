-- `write_lines` meets its contract: the goals that the check leaves open. Assumes nothing.
use Prim.Native.Nat.{◌/◌}
use mathlib.Core.List.{map}
use mathlib.Core.Path.{◌≡◌, sym}
use native.Mathlib.Omega.{arith}
use lib.ListN.{length}
use Rattle.laws.proofs.Lists.{length_map_upto}
use Rattle.laws.specs.Lists.{upto}
use Rattle.rules.specs.Sheet.{line_bits}
use Rattle.sheet_writer.specs.Writing.{line_in}
use Rattle.sheet.specs.Fields.{line_of}
use Rattle.sheet_writer.proofs.Lines.{lines_by, line_next, fits_read}
use Rattle.rules.proofs.RoundTrip.{length_lines}
use Rattle.sheet_writer.proofs.Pens.{nothing, added_then}
use Rattle.sheet_writer.proofs.write_lines.Goals as goal

pub loop-j-init : goal.loop-j-init
unfolding line_bits
loop-j-init c = (c.requires.0, nothing c.args.pen c.args.bytes.now c.requires.2.low)

pub put-pen-requires : goal.put-pen-requires
put-pen-requires c = let l = c.loop-j in
    let g = line_in c.args.lines.now in
    (l.invariant.0, omega arith, c.line_word.ensures.1, record { low = l.invariant.1.low; room = omega (arith, l.invariant.1.along, l.invariant.1.same, length_lines (map g (upto l.j 0)), length_map_upto g l.j 0, c.requires.2.room) })

pub loop-j-preserved : goal.loop-j-preserved
loop-j-preserved c = let l = c.loop-j in
    let g = line_in c.args.lines.now in
    let x = line_of c.line_in.result in
    (c.put-pen.ensures.0, rw (line_next g l.j x c.line_word.result c.line_in.ensures c.line_word.ensures.0 (fits_read x (g l.j) c.line_in.ensures (c.requires.1 l.j (omega arith)))) (added_then l.invariant.1 c.put-pen.ensures.1))

pub returns : goal.returns
returns c = let l = c.loop-j in
    let a = c.args in
    let e : l.j ≡ length a.lines.now / 3 = omega arith in
    (l.invariant.0, rw (lines_by a.lines.now, sym e) l.invariant.1)
