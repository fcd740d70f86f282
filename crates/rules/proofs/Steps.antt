-- The cases of the search: a try is a conflict or goes on, and a level's tries end, skip the rest or take their turn.
use Prim.Native.Nat.{ℕ, suc}
use mathlib.Core.Path.{◌≡◌, refl}
use mathlib.Core.Logic.{◌≢◌, inl, inr}
use mathlib.Core.List.{List, [], ◌∷◌}
use mathlib.Core.Bool.{true, false}
use mathlib.Core.Option.{Option, some, none}
use borrow.Author.Tests.{eqb-true, eqb-false}
use lib.Dec.{eqb}
use lib.Bits.{bit_or}
use Rattle.rules.specs.Tries.{Plan, Level, level, takeable, first_set, siblings, skips, join_set, last_set, attempt, conflict, opening, after, user}
use Rattle.rules.specs.Place.{Placed}
use Rattle.laws.specs.Masks.{in_mask}
use Rattle.rules.proofs.Lawful.{try_of}
use Rattle.laws.proofs.Lists.{split}

-- what holds where v has a user and where it has none holds of the try of v
pub try_cases : (P : Level → Type 0) (S : Plan) (k : ℕ) (M : Placed) (v : ℕ) → ((w : ℕ) → user M v ≡ some w → P (conflict S (S.next M) w)) → (user M v ≡ none → P (after (opening k) (level S k ((S.next M, v) ∷ M)))) → P (try_of S k M v)
unfolding attempt
try_cases P S k M v clash free = step (user M v) refl
  where
    step : (o : Option ℕ) → user M v ≡ o → P (try_of S k M v)
    step none e = rw (e, attempt) (free e)
    step (some w) e = rw (e, attempt) (clash w e)

-- what a try whose set is f makes of the union so far, where it does not skip the rest
pub data Turn (u f : ℕ) : Option ℕ → Option ℕ → Type 0 where
  past : Turn u f none none
  hit : {s : ℕ} → f ≡ 0 → Turn u f (some s) none
  miss : {s : ℕ} → f ≢ 0 → in_mask u f ≡ true → Turn u f (some s) (some (bit_or s f))

-- how `siblings` comes to its level
pub data Siblings (one : ℕ → Level) (u : ℕ) : List ℕ → Option ℕ → Level → Type 0 where
  done : {s : Option ℕ} → Siblings one u [] s (record { tries = []; failing = last_set s })
  skip : {v : ℕ} {vs : List ℕ} {s : ℕ} → (one v).failing ≢ 0 → in_mask u (one v).failing ≡ false → Siblings one u (v ∷ vs) (some s) (one v)
  turn : {v : ℕ} {vs : List ℕ} {s t : Option ℕ} {l : Level} → Turn u (one v).failing s t → Siblings one u vs t l → Siblings one u (v ∷ vs) s (after (one v).tries l)

-- and it comes so to every level
siblings_steps : (one : ℕ → Level) (u : ℕ) (vs : List ℕ) (s : Option ℕ) → Siblings one u vs s (siblings one u vs s)
unfolding siblings skips join_set
siblings_steps one u [] s = done
siblings_steps one u (v ∷ vs) none = turn past (siblings_steps one u vs none)
siblings_steps one u (v ∷ vs) (some s) = elim (split (eqb (one v).failing 0)) [
  | inl e ↦ rw (e, siblings, e) (turn (hit (eqb-true _ _ e)) (siblings_steps one u vs none))
  | inr e ↦ elim (split (in_mask u (one v).failing)) [
    | inl h ↦ rw (e, siblings, h, e) (turn (miss (eqb-false _ _ e) h) (siblings_steps one u vs _))
    | inr h ↦ rw (e, siblings, h) (skip (eqb-false _ _ e) h)
  ]
]

pub level_steps : (S : Plan) (k : ℕ) (M : Placed) → let u = S.next M in Siblings (try_of S k M) u (takeable S M u) (some (first_set S u (takeable S M u))) (level S (suc k) M)
unfolding level
level_steps S k M = siblings_steps (try_of S k M) (S.next M) (takeable S M (S.next M)) _
