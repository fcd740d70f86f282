-- What a true yes or no says. Assumes nothing.
use mathlib.Core.Path.{◌≡◌, subst}
use mathlib.Core.Bool.{Bool, true, false}
use Rattle.row_tests.specs.Says.{Says}

pub says_yes : (Q : Type 0) (b : Bool) → Says b Q → b ≡ true → Q
says_yes Q b s e = subst (λ a. Says a Q) e s

pub says_no : (Q : Type 0) (b : Bool) → Says b Q → b ≡ false → Q → ⊥
says_no Q b s e = subst (λ a. Says a Q) e s

-- of one thing, and so of another that holds where it does
pub says_of : (Q R : Type 0) (b : Bool) → Says b Q → (Q → R) → (R → Q) → Says b R
says_of Q R true s f g = f s
says_of Q R false s f g = λ r. s (g r)
