-- A refusal's number is that of a call that the contract of `find` allows. Assumes nothing.
use mathlib.Core.Path.{sym, ap, subst}
use Rattle.rules.specs.Checks.{Verdict}
use Rattle.show.specs.Numbers.{Known}
use Rattle.show.proofs.Numbers.{known}
use Rattle.show.proofs.find_and_print.Goals as goal

pub returns-then-ne : goal.returns-then-ne
returns-then-ne g c = subst Known (sym (ap (λ (v : Verdict). v.number) c.from-verdict.ensures)) (known _ _ _ _ _ _ _ _ c.in-Err.ensures)

pub returns-else-ne : goal.returns-else-ne
returns-else-ne g c = subst Known (sym (ap (λ (v : Verdict). v.number) c.from-verdict.ensures)) (known _ _ _ _ _ _ _ _ c.in-Err.ensures)
