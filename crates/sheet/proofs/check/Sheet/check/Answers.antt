-- `check::Sheet::check` meets its contract: the first test to fail says, the filling is one field, and a sheet whose checks all pass is accepted. Assumes nothing.
use Rattle.std.proofs.Common.{Ok, Err}
use mathlib.Core.Path.{refl, sym, ◌∙◌, ap}
use native.Mathlib.Omega.{arith}
use borrow.Author.Rules.{rules}
use lib.Arith.{le-zero}
use Rattle.rules.proofs.Accepted.{sheet_accepted}
use Rattle.std.proofs.lemmas.Result.{err_from_is_err_and}
use Rattle.sheet.specs.Check.{check_verdict}
use Rattle.sheet.proofs.Verdicts.{passes, field_same, sheet_short, sheet_uncounted, sheet_long, sheet_filled, sheet_drawn}
use Rattle.sheet.proofs.check.Sheet.check.Goals as goal

good : goal.returns-clause-says
good g c = sheet_drawn _ c.args.bytes.now (omega arith) (omega arith, omega arith, omega arith) (omega arith) c.counts-c.ensures.0 c.counts-c.ensures.1 (Ok c.in_ok-check_lines.field-0) (field_same c.args.bytes.now (omega arith) (omega arith) ∙ sym c.field.ensures ∙ le-zero c.if-field-gt0.false) c.in_ok-check_lines.ensures (λ j l k p. search rules)

pub returns-then-bytes-lt3-clause-says : goal.returns-then-bytes-lt3-clause-says
returns-then-bytes-lt3-clause-says g c = sym (sheet_short _ c.args.bytes.now (omega arith))

pub returns-then-c-eq0-clause-says : goal.returns-then-c-eq0-clause-says
returns-then-c-eq0-clause-says g c = sym (sheet_uncounted _ c.args.bytes.now (omega arith) (λ h. omega arith))

pub returns-then-bytes-div_ceil-clause-says : goal.returns-then-bytes-div_ceil-clause-says
returns-then-bytes-div_ceil-clause-says g c = sym (sheet_long _ c.args.bytes.now (omega arith) (omega arith, omega arith, omega arith) (λ z. omega arith))

pub returns-then-field-gt0-clause-says : goal.returns-then-field-gt0-clause-says
returns-then-field-gt0-clause-says g c = sym (sheet_filled _ c.args.bytes.now (omega arith) (omega arith, omega arith, omega arith) (omega arith) (λ z. omega (arith, c.if-field-gt0.true, c.field.ensures ∙ field_same c.args.bytes.now (omega arith) (omega arith) ∙ z)))

pub returns-in_err-check_lines-clause-says : goal.returns-in_err-check_lines-clause-says
returns-in_err-check_lines-clause-says g c = let t = err_from_is_err_and c.from_residual.result c.from_residual.ensures.1 in
    ap (check_verdict g.row.TEN) (t.1 ∙ ap Err t.2) ∙ sheet_drawn _ c.args.bytes.now (omega arith) (omega arith, omega arith, omega arith) (omega arith) c.counts-c.ensures.0 c.counts-c.ensures.1 (Err c.in_err-check_lines.field-0.0) (field_same c.args.bytes.now (omega arith) (omega arith) ∙ sym c.field.ensures ∙ le-zero c.if-field-gt0.false) c.in_err-check_lines.ensures (λ j l k p. search rules)

pub invariant_of-result : goal.invariant_of-result
invariant_of-result g c = ((sheet_accepted _ c.args.bytes.now).0 (passes (good g c) refl), c.counts-c.ensures.0, c.counts-c.ensures.1)

pub returns-clause-says : goal.returns-clause-says
returns-clause-says = good
