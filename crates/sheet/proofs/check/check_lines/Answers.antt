-- `check::check_lines` meets its contract: of each list of lines that the function gives, the first test of a line to fail says. Assumes nothing.
use mathlib.Core.Path.{◌≡◌, sym, ◌∙◌, ap}
use native.Mathlib.Omega.{arith}
use borrow.Author.Rules.{rules}
use Rattle.sheet.specs.declared.fault.LineFault.TheVariants.{Unfit, Unordered}
use Rattle.sheet.specs.Fields.{line_of}
use Rattle.sheet.specs.Check.{bad_line_verdict}
use Rattle.sheet.proofs.Verdicts.{turns_begin, turn_unfit, turn_late, turn_passed, turns_over}
use Rattle.sheet.proofs.check.check_lines.Goals as goal

pub loop-j-init : goal.loop-j-init
loop-j-init g c = λ ten ls G. turns_begin ten c.args.n ls

pub returns-then-not-line_fits : goal.returns-then-not-line_fits
returns-then-not-line_fits g c = λ ten ls G. let l = c.loop-j in
    let e : c.bad.result ≡ record { line = l.j; fault = Unfit } = search rules in
    ap (bad_line_verdict ten) e ∙ sym (l.invariant ten ls G ∙ turn_unfit G ten c.args.n l.j (line_of l.before) (omega arith) c.line-next.ensures (cc))

pub returns-then-not-comes_after : goal.returns-then-not-comes_after
returns-then-not-comes_after g c = λ ten ls G. let l = c.loop-j in
    let e : c.bad-then-not-comes_after.result ≡ record { line = l.j; fault = Unordered } = search rules in
    ap (bad_line_verdict ten) e ∙ sym (l.invariant ten ls G ∙ turn_late G ten c.args.n l.j (line_of l.before) (omega arith) c.line-next.ensures (cc) (cc))

pub loop-j-preserved : goal.loop-j-preserved
loop-j-preserved g c = λ ten ls G. let l = c.loop-j in
    l.invariant ten ls G ∙ turn_passed G ten c.args.n l.j (line_of l.before) (omega arith) c.line-next.ensures (cc) (cc)

pub returns : goal.returns
returns g c = λ ten ls G. let l = c.loop-j in sym (l.invariant ten ls G ∙ turns_over G ten c.args.n l.j (line_of l.before) (omega arith))
