-- `write_sheet` meets its contract: each part has room after the parts before it, and the filled bytes are those of the layout. Assumes nothing.
use Prim.Native.Nat.{◌*◌, ◌-◌, ◌/◌, ◌%◌}
use native.Mathlib.Omega.{arith}
use lib.Pow.{pow_pos}
use lib.ListN.{length, length-append}
use Rattle.rules.proofs.Fields.{length_bits}
use Rattle.sheet_writer.proofs.Writing.{able_after, laid_out_lem, length_laid, finished}
use Rattle.rules.proofs.RoundTrip.{length_kinds}
use Rattle.sheet_writer.proofs.Pens.{added_then}
use Rattle.sheet_writer.proofs.write_sheet.Goals as goal

pub put-counts-requires : goal.put-counts-requires
put-counts-requires c = (c.put-vertices.ensures.0, omega arith, c.requires.1, able_after c.put-vertices.ensures.1 12 (rw length_bits (omega (arith, c.requires.4))))

pub write_kinds-labels-requires : goal.write_kinds-labels-requires
write_kinds-labels-requires c = let a = c.args in
    (c.put-counts.ensures.0, c.requires.2, able_after (added_then c.put-vertices.ensures.1 c.put-counts.ensures.1) (6 * length a.kinds.now) (simp (length-append, length_bits) (omega (arith, c.requires.4))))

pub write_lines-ends-requires : goal.write_lines-ends-requires
write_lines-ends-requires c = let a = c.args in
    (c.write_kinds-labels.ensures.0, c.requires.3, able_after (added_then (added_then c.put-vertices.ensures.1 c.put-counts.ensures.1) c.write_kinds-labels.ensures.1) (20 * (length a.lines.now / 3)) (simp (length-append, length_bits, length_kinds) (omega (arith, c.requires.4))))

pub put-requires : goal.put-requires
put-requires c = let a = c.args in
    let A = laid_out_lem a.kinds.now a.lines.now a.bytes.now c.put-vertices.ensures.1 c.put-counts.ensures.1 c.write_kinds-labels.ensures.1 c.write_lines-ends.ensures.1 in
    let w = (8 - c.write_lines-ends.result.count) % 8 in
    (c.write_lines-ends.ensures.0, omega arith, pow_pos w, able_after A w (omega (arith, A.along, length_laid a.kinds.now a.lines.now a.bytes.now, c.requires.4)))

pub returns : goal.returns
returns c = let a = c.args in
    let A = laid_out_lem a.kinds.now a.lines.now a.bytes.now c.put-vertices.ensures.1 c.put-counts.ensures.1 c.write_kinds-labels.ensures.1 c.write_lines-ends.ensures.1 in
    finished a.kinds.now a.lines.now a.bytes.now c.write_lines-ends.result c.put.result A c.write_lines-ends.ensures.0 c.put.ensures.1 c.put.ensures.0
