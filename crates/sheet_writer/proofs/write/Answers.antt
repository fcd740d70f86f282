-- `write` meets its contract: each return is what `writer` gives where that check is the first to fail. Assumes nothing.
use native.Mathlib.Omega.{arith}
use mathlib.Core.Path.{ap, sym, ◌∙◌}
use Rattle.sheet_writer.specs.Answers.{check_verdict}
use Rattle.sheet_writer.proofs.Writing.{told, lists_small, by_lists, by_room, kinds_fit, lines_fit, by_bytes}
use Rattle.sheet_writer.proofs.write.Goals as goal

pub returns-in_err-check_lists : goal.returns-in_err-check_lists
returns-in_err-check_lists c = let a = c.args in
    let e = ap check_verdict (sym c.in_err-check_lists.was) ∙ c.check_lists.ensures in
    rw (told c.from_residual.result c.from_residual.ensures) (by_lists a.kinds.now a.lines.now a.bytes.now c.in_err-check_lists.field-0.0 e)

pub bit_length-requires : goal.bit_length-requires
bit_length-requires c = omega (arith, lists_small c.args.kinds.now c.args.lines.now (sym c.in_ok-check_lists.ensures))

pub returns-then-bytes-count : goal.returns-then-bytes-count
returns-then-bytes-count c = let a = c.args in
    by_room a.kinds.now a.lines.now a.bytes.now (sym c.in_ok-check_lists.ensures) (omega (arith, c.div_ceil-count.ensures, c.bit_length.ensures))

pub write_sheet-requires : goal.write_sheet-requires
write_sheet-requires c = let a = c.args in
    let e = sym c.in_ok-check_lists.ensures in
    let t = lists_small a.kinds.now a.lines.now e in
    (omega arith, omega arith, kinds_fit a.kinds.now a.lines.now a.bytes.now e (omega arith), lines_fit a.kinds.now a.lines.now a.bytes.now e (omega arith), omega arith)

pub returns : goal.returns
returns c = let a = c.args in by_bytes a.kinds.now a.lines.now a.bytes.now (sym c.in_ok-check_lists.ensures) (omega arith) _ _ (omega arith) c.write_sheet.ensures
