-- `stands_before` meets its contract: two rows of a list are equally long. Assumes nothing.
use Rattle.std.proofs.Common.{ap, sym, ◌∙◌, length, arith}
use native.Mathlib.Nat.{suc-mul, mul-le-mul_right}
use Rattle.row_tests.proofs.Rows.{row_long}
use Rattle.row_tests.proofs.equal.stands_before.Goals as goal

pub same_row-requires : goal.same_row-requires
same_row-requires c =
    let a = c.args in
    let earlier = row_long a.n c.loop-j.j a.rows.now (omega (arith, suc-mul c.loop-j.j a.n, mul-le-mul_right a.n c.loop-j-test.true, c.requires)) in
    ap length c.row_of.ensures ∙ earlier ∙ sym (ap length c.row_of-row.ensures ∙ row_long a.n a.i a.rows.now c.requires)
