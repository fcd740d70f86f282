-- `check_lists` meets its contract: the first test to fail gives the refusal. Assumes nothing.
use mathlib.Core.Path.{ap, sym, ◌∙◌}
use native.Mathlib.Omega.{arith}
use Rattle.sheet.specs.Check.{lines_verdict}
use Rattle.sheet_writer.proofs.Writing.{lists_threes, lists_uncounted, lists_kinds, lists_drawn}
use Rattle.sheet_writer.proofs.check_lists.Goals as goal

pub returns-then-lines-ne0 : goal.returns-then-lines-ne0
returns-then-lines-ne0 c = let a = c.args in sym (lists_threes a.kinds.now a.lines.now c.if-lines-ne0.true)

pub returns-then-n-eq0 : goal.returns-then-n-eq0
returns-then-n-eq0 c = let a = c.args in sym (lists_uncounted a.kinds.now a.lines.now (omega arith) (λ x y z. omega arith))

pub returns-then-not-kinds_fit : goal.returns-then-not-kinds_fit
returns-then-not-kinds_fit c = let a = c.args in sym (lists_kinds a.kinds.now a.lines.now (omega arith) (λ z. omega arith, omega arith, omega arith) (sym c.kinds_fit.ensures ∙ c.if-not-kinds_fit.true))

pub returns-in-Err : goal.returns-in-Err
returns-in-Err c = let a = c.args in
    let d = lists_drawn a.kinds.now a.lines.now (omega arith) (λ z. omega arith, omega arith, omega arith) (sym c.kinds_fit.ensures ∙ c.if-not-kinds_fit.false) in
    ap (lines_verdict 20) (sym c.in-Err.is) ∙ c.check_line_list.ensures ∙ sym d

pub returns : goal.returns
returns c = let a = c.args in
    let d = lists_drawn a.kinds.now a.lines.now (omega arith) (λ z. omega arith, omega arith, omega arith) (sym c.kinds_fit.ensures ∙ c.if-not-kinds_fit.false) in
    ap (lines_verdict 20) (sym c.in_default.is) ∙ c.check_line_list.ensures ∙ sym d
