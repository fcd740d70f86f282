-- Everything that fits is listed.
use Prim.Native.Nat.{ℕ, zero, suc, ◌+◌}
use mathlib.Core.Path.{◌≡◌, refl, ap, sym, ◌∙◌}
use mathlib.Core.Logic.{◌≢◌, ⊎_elim}
use mathlib.Core.List.Memᴰ
use mathlib.Core.List.{List, [], ◌∷◌, map, Memᴰ}
use mathlib.Core.Bool.{true, false, true≢false, false≢true}
use mathlib.Core.Option.{Option, some}
use native.Mathlib.Nat.{zero-add}
use native.Mathlib.Omega.{arith}
use lib.ListN.{length}
use Rattle.laws.specs.Lists.{upto}
use Rattle.rules.specs.Tries.{Plan, Level, Try, level, after, opening, takeable, row_of}
use Rattle.rules.specs.Place.{Placed, placed, image}
use Rattle.laws.specs.Masks.{in_mask}
use Rattle.rules.proofs.Lawful.{try_of, Grown, start, more, Lawful, Fits}
use Rattle.rules.proofs.Steps.{try_cases, Siblings, done, skip, turn, level_steps}
use Rattle.laws.proofs.Lists.{map_upto}
use Rattle.rules.proofs.Full.{whole}
use Rattle.rules.proofs.Placements.{placed_cases, kept}
use Rattle.rules.proofs.Nogood.{agrees_more, takes, no_conflict, try_refutes}

-- a level lists what the try of one of its vertices lists, if no try skips the rest
siblings_list : {one : ℕ → Level} {u : ℕ} {vs : List ℕ} {s : Option ℕ} {l : Level} {t : Try} {x : ℕ} → Siblings one u vs s l → ((v : ℕ) → Memᴰ v vs → (one v).failing ≢ 0 → in_mask u (one v).failing ≡ false → ⊥) → Memᴰ t (one x).tries → Memᴰ x vs → Memᴰ t l.tries
unfolding after
siblings_list done c m i = absurd (Memᴰ.not-nil i)
siblings_list {one} (turn {v = v} {l = l} e d) c m i = ⊎_elim (λ q. Memᴰ.append_left l.tries (rw q at m)) (λ j. Memᴰ.append_right (one v).tries (siblings_list d (λ y k. c y (Memᴰ.tail k)) m j)) (Memᴰ.cases_cons i)
siblings_list (skip {v = v} n o) c m i = absurd (c v (Memᴰ.head refl) n o)

module _ (S : Plan) (L : Lawful S) (r : ℕ → ℕ) (F : Fits S r) where
  -- with k vertices left, of what agrees with all that is placed
  pub level_lists : (k : ℕ) {M : Placed} → Grown S M → length M + k ≡ S.figure.graph.size → ((w : ℕ) → placed M w ≡ true → r w ≡ image M w) → Memᴰ (some (map r (upto S.figure.graph.size 0))) (level S k M).tries
  unfolding level row_of after
  level_lists zero g n a = Memᴰ.head (ap some (map_upto r _ S.figure.graph.size 0 (λ u i h. a u (whole S L g (omega arith) u (omega arith)))))
  level_lists (suc k) {M} g n a = siblings_list (level_steps S k M) (λ v t z o. try_refutes S L r F k g n v t z (agrees_more r M u v _ (λ w h i. a w h) (λ i. absurd (true≢false (sym i ∙ o))))) (goes (λ h b. level_lists k h (omega arith) b)) taken
    where
      u : ℕ
      u = S.next M

      row : Try
      row = some (map r (upto S.figure.graph.size 0))

      taken : Memᴰ (r u) (takeable S M u)
      taken = takes S L r F g (omega arith) (λ p m. a p (L.ready g (omega arith) p m))

      goes : (Grown S ((u, r u) ∷ M) → ((w : ℕ) → placed ((u, r u) ∷ M) w ≡ true → r w ≡ image ((u, r u) ∷ M) w) → Memᴰ row (level S k ((u, r u) ∷ M)).tries) → Memᴰ row (try_of S k M (r u)).tries
      goes f = try_cases (λ l. Memᴰ row l.tries) S k M (r u) (λ w e. absurd (no_conflict S L r F g (omega arith) (r u) w e refl (a w ((kept S L g).users (r u) w e).0))) (λ e. Memᴰ.append_right (opening k) (f (more g (omega arith) taken e) (λ w h. ⊎_elim (λ c. ap r (sym c.0) ∙ sym c.1) (λ c. a w c.0 ∙ sym c.1) (placed_cases M u (r u) w h))))

  -- from the start
  pub search_lists : Memᴰ (some (map r (upto S.figure.graph.size 0))) (level S S.figure.graph.size []).tries
  unfolding placed
  search_lists = level_lists S.figure.graph.size start (zero-add _) (λ w h. absurd (false≢true h))
