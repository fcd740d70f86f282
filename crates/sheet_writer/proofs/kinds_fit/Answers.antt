-- `kinds_fit` meets its contract: the chain over the kinds stops at the first that is too large. Assumes nothing.
use mathlib.Core.List.{[], ◌∷◌, List}
use mathlib.Core.Path.{◌≡◌, refl, ap, ◌∙◌}
use mathlib.Core.Bool.{Bool, ◌&&◌}
use Rattle.std.proofs.Common.{rules, tests, leb}
use Rattle.std.specs.List.{list_all}
use Rattle.std.proofs.lemmas.Iterator.{YieldsList-from_slice}
use Rattle.std.proofs.lemmas.Iterator.Search.{all_from_yields_List}
use Rattle.laws.specs.Lists.{all}
use Rattle.sheet_writer.proofs.kinds_fit.Goals as goal

same_all : {A : Type 0} (p : A → Bool) (xs : List A) → list_all p xs ≡ all p xs
same_all p [] = refl
same_all p (x ∷ xs) = ap (λ b. p x && b) (same_all p xs)

pub returns : goal.returns
returns c = all_from_yields_List (λ k. leb k 63) _ _ _ c.all.ensures.ran (YieldsList-from_slice c.args.kinds.now cc) (λ x b q k. search (rules, tests)) ∙ same_all _ c.args.kinds.now
