-- The number of a call that the contract of `find` allows is one of document 01's. Assumes nothing.
use Prim.Native.Nat.{ℕ}
use mathlib.Core.Path.{sym, ap, subst}
use mathlib.Core.List.{List}
use Rattle.rules.proofs.Demands.{taken_or_refused}
use Rattle.find.specs.Answers.{Finds, Said}
use Rattle.show.specs.Numbers.{Known}

pub known : (f p w l : List ℕ) (a : ℕ) (r : Said) (l' w' : List ℕ) → Finds f p w l a r l' w' → Known r.number
known f p w l a r l' w' e = subst Known (sym (ap (λ s. s.number) e)) (taken_or_refused f p w l a)
