-- Every row that is listed fits: it is that of a full placement that the search reaches.
use Prim.Native.Nat.{ℕ, zero, suc, ◌+◌}
use mathlib.Core.Path.{◌≡◌, refl}
use mathlib.Core.Logic.{⊎_elim}
use mathlib.Core.List.Memᴰ
use mathlib.Core.List.{List, [], ◌∷◌, map, Memᴰ}
use mathlib.Core.Option.{Option, some, none}
use native.Mathlib.Nat.{zero-add}
use native.Mathlib.Omega.{arith}
use lib.ListN.{length}
use Rattle.laws.specs.Lists.{upto}
use Rattle.rules.specs.Tries.{Plan, Level, Try, level, after, opening, user, takeable, row_of}
use Rattle.rules.specs.Place.{Placed, image}
use Rattle.rules.proofs.Lawful.{try_of, Grown, start, more, Lawful, Fits}
use Rattle.rules.proofs.Steps.{try_cases, Siblings, done, skip, turn, level_steps}
use Rattle.rules.proofs.Full.{whole}
use Rattle.rules.proofs.Placements.{kept}

-- what a level lists, one of its tries lists
pub siblings_from : {one : ℕ → Level} {u : ℕ} {vs : List ℕ} {s : Option ℕ} {l : Level} {t : Try} → Siblings one u vs s l → Memᴰ t l.tries → (v : ℕ) × Memᴰ v vs × Memᴰ t (one v).tries
unfolding after
siblings_from done m = absurd (Memᴰ.not-nil m)
siblings_from {one} (turn {v = v} e d) m = ⊎_elim (λ i. (v, Memᴰ.head refl, i)) (λ i. let x = siblings_from d i in (x.0, Memᴰ.tail x.1, x.2)) (Memᴰ.append_cases (one v).tries m)
siblings_from (skip {v = v} n o) m = (v, Memᴰ.head refl, m)

no_row : {row : List ℕ} → Memᴰ (some row) (none ∷ []) → ⊥
no_row m = let e = Memᴰ.eq_of_singleton m in let z : ◌≡◌ {A = ℕ} 0 1 = cc in omega arith

pub unopened : (k : ℕ) {row : List ℕ} → Memᴰ (some row) (opening k) → ⊥
unfolding opening
unopened zero m = Memᴰ.not-nil m
unopened (suc k) m = no_row m

-- a try that lists a row took a vertex without user, and the level below lists the row
pub try_from : (S : Plan) (k : ℕ) (M : Placed) (v : ℕ) {row : List ℕ} → Memᴰ (some row) (try_of S k M v).tries → (user M v ≡ none) × Memᴰ (some row) (level S k ((S.next M, v) ∷ M)).tries
unfolding after
try_from S k M v {row} = try_cases (λ l. Memᴰ (some row) l.tries → (user M v ≡ none) × Memᴰ (some row) (level S k ((S.next M, v) ∷ M)).tries) S k M v (λ w e i. absurd (no_row i)) (λ e i. ⊎_elim (λ j. absurd (unopened k j)) (λ j. (e, j)) (Memᴰ.append_cases (opening k) i))

-- a row that a level lists is listed below a try of its, on a vertex without user
pub level_from : (S : Plan) (k : ℕ) (M : Placed) {row : List ℕ} → Memᴰ (some row) (level S (suc k) M).tries → (v : ℕ) × Memᴰ v (takeable S M (S.next M)) × (user M v ≡ none) × Memᴰ (some row) (level S k ((S.next M, v) ∷ M)).tries
level_from S k M m = let x = siblings_from (level_steps S k M) m in let y = try_from S k M x.0 x.2 in (x.0, x.1, y.0, y.1)

-- the row of a full placement
pub record Reached (S : Plan) (row : List ℕ) : Type 0 where
  pub at : Placed
  pub grown : Grown S at
  pub full : length at ≡ S.figure.graph.size
  pub same : row ≡ row_of S.figure at

-- with k vertices left
pub level_reaches : (S : Plan) (k : ℕ) {M : Placed} {row : List ℕ} → Grown S M → length M + k ≡ S.figure.graph.size → Memᴰ (some row) (level S k M).tries → Reached S row
unfolding level
level_reaches S zero {M} g n m = let e = Memᴰ.eq_of_singleton m in record { at = M; grown = g; full = omega arith; same = cc }
level_reaches S (suc k) {M} g n m = let x = level_from S k M m in level_reaches S k (more g (omega arith) x.1 x.2) (omega arith) x.3

-- the images of a full placement fit
pub full_fits : (S : Plan) (L : Lawful S) {M : Placed} → Grown S M → length M ≡ S.figure.graph.size → Fits S (image M)
full_fits S L g n = record {
  listed = λ u h. (kept S L g).listed u (whole S L g n u h);
  apart = λ u w h k. (kept S L g).apart u w (whole S L g n u h) (whole S L g n w k);
  lines = λ u p h m. (kept S L g).lines u p (whole S L g n u h) m;
}

-- from the start
pub search_sound : (S : Plan) (L : Lawful S) {row : List ℕ} → Memᴰ (some row) (level S S.figure.graph.size []).tries → (r : ℕ → ℕ) × Fits S r × (row ≡ map r (upto S.figure.graph.size 0))
unfolding row_of
search_sound S L m = let x = level_reaches S S.figure.graph.size start (zero-add _) m in (image x.at, full_fits S L x.grown x.full, x.same)
