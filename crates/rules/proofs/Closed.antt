-- Every failing set holds, with each vertex, its parents.
use Prim.Native.Nat.{ℕ, zero, suc}
use mathlib.Core.Path.{sym, ◌∙◌}
use mathlib.Core.Logic.{⊎_elim}
use mathlib.Core.List.{List, [], ◌∷◌}
use mathlib.Core.Bool.{false≢true}
use mathlib.Core.Option.{Option}
use lib.Bits.{bit_or}
use Rattle.rules.specs.Tries.{Plan, Level, level, after, takeable, first_set, last_set}
use Rattle.rules.specs.Place.{Placed}
use Rattle.rules.proofs.Lawful.{Lawful, Closed}
use Rattle.laws.proofs.Masks.{in_zero, in_left, in_right, in_parts}
use Rattle.rules.proofs.Steps.{try_cases, past, hit, miss, Siblings, done, skip, turn, level_steps}

module _ (S : Plan) where
  closed_zero : Closed S 0
  closed_zero w p h m = absurd (false≢true (sym (in_zero w) ∙ h))

  closed_or : (s t : ℕ) → Closed S s → Closed S t → Closed S (bit_or s t)
  closed_or s t f g w p h m = ⊎_elim (λ i. in_left p s t (f w p i m)) (λ i. in_right p s t (g w p i m)) (in_parts w s t h)

  -- of a level whose tries' sets do
  siblings_closed : {one : ℕ → Level} {u : ℕ} {vs : List ℕ} {s : Option ℕ} {l : Level} → Siblings one u vs s l → ((v : ℕ) → Closed S (one v).failing) → Closed S (last_set s) → Closed S l.failing
  unfolding after last_set
  siblings_closed done each c = c
  siblings_closed (skip {v = v} n o) each c = each v
  siblings_closed (turn past d) each c = siblings_closed d each c
  siblings_closed (turn (hit e) d) each c = siblings_closed d each closed_zero
  siblings_closed (turn {v = v} (miss n i) d) each c = siblings_closed d each (closed_or _ _ c (each v))

  -- of every level
  pub level_closed : Lawful S → (k : ℕ) (M : Placed) → Closed S (level S k M).failing
  unfolding level first_set last_set after
  level_closed L zero M = closed_zero
  level_closed L (suc k) M = siblings_closed (level_steps S k M) (λ v. try_cases (λ l. Closed S l.failing) S k M v (λ w e. closed_or _ _ (L.closed u) (L.closed w)) (λ e. level_closed L k ((u, v) ∷ M))) (first (takeable S M u))
    where
      u : ℕ
      u = S.next M

      first : (vs : List ℕ) → Closed S (first_set S u vs)
      first [] = L.closed u
      first (v ∷ vs) = closed_zero
