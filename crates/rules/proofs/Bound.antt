-- The tries of a search are no more than the partial placements, which are counted with no word of the search.
use Prim.Native.Nat.{ℕ, zero, suc, ◌+◌, ◌≤◌, ◌<◌}
use mathlib.Core.Path.{◌≡◌, refl, subst, sym}
use mathlib.Core.Logic.{⊎_elim}
use mathlib.Core.List.{List, [], ◌∷◌, ◌++◌, Memᴰ}
use mathlib.Core.Option.{Option}
use native.Mathlib.Omega.{arith}
use lib.ListN.{length, length-append, get_or, take, drop}
use lib.Seq.{drop-cons}
use Rattle.laws.specs.Lists.{keep}
use Rattle.rules.specs.Candidates.{Sets, set_of}
use Rattle.rules.specs.Tries.{Plan, Level, level, opening, after, takeable}
use Rattle.rules.specs.Place.{Figure, Patch, Placed}
use Rattle.rules.specs.Partials.{placings, line_kept, is_partial, partials_up_to}
use Rattle.rules.proofs.Lawful.{try_of, Grown, start, more, Lawful, Faithful}
use Rattle.laws.proofs.Lists.{all_in, guarded, total, total_zero, total_add, total_le, total_keep, keep_each}
use Rattle.rules.proofs.Lines.{joined_sym}
use Rattle.rules.proofs.Steps.{try_cases, Siblings, done, skip, turn, level_steps}
use Rattle.rules.proofs.Placements.{try_lines, grown_distinct}

-- a level makes no more tries than its tries and those below them
siblings_total : {one : ℕ → Level} {u : ℕ} {vs : List ℕ} {s : Option ℕ} {l : Level} → Siblings one u vs s l → length l.tries ≤ total (λ v. length (one v).tries) vs
unfolding after
siblings_total done = omega arith
siblings_total (skip n o) = omega arith
siblings_total {one} (turn {v = v} {l = l} t d) = omega (arith, length-append (one v).tries l.tries, siblings_total d)

module _ (F : Figure) (P : Patch) (C : Sets) where
  -- the partial placements that put the vertices us after M
  layer : List ℕ → Placed → ℕ
  layer us M = length (keep (is_partial F P) (placings C us M))

  -- those of the first 1, 2, …, k of them
  layers : List ℕ → Placed → ℕ → ℕ
  layers us M zero = 0
  layers us M (suc k) = layer (take (suc k) us) M + layers us M k

  layer_first : (u : ℕ) (us : List ℕ) (M : Placed) → layer (u ∷ us) M ≡ total (λ v. layer us ((u, v) ∷ M)) (set_of C u)
  unfolding layer placings
  layer_first u us M = keep_each (is_partial F P) (λ v. placings C us ((u, v) ∷ M)) (set_of C u)

  -- counted by the image of the first of them
  layers_first : (u : ℕ) (us : List ℕ) (M : Placed) (k : ℕ) → layers (u ∷ us) M (suc k) ≡ total (λ v. layer [] ((u, v) ∷ M) + layers us ((u, v) ∷ M) k) (set_of C u)
  unfolding layers
  layers_first u us M zero = omega (arith, layer_first u [] M, total_add (λ v. layer [] ((u, v) ∷ M)) (λ v. 0) (set_of C u), total_zero (set_of C u))
  layers_first u us M (suc k) =
      let s : List ℕ = set_of C u in
      let now : ℕ → ℕ = λ v. layer (take (suc k) us) ((u, v) ∷ M) in
      let first : ℕ → ℕ = λ v. layer [] ((u, v) ∷ M) in
      let rest : ℕ → ℕ = λ v. layers us ((u, v) ∷ M) k in
      omega (arith, layer_first u (take (suc k) us) M, layers_first u us M k, total_add first rest s, total_add first (λ v. now v + rest v) s, total_add now rest s)

  -- from the start they are the partial placements
  layers_start : (o : List ℕ) (k : ℕ) → layers o [] k ≡ length (partials_up_to F P C o k)
  unfolding layers layer partials_up_to
  layers_start o zero = refl
  layers_start o (suc k) = rw (layers_start o k, length-append)

module _ (S : Plan) (L : Lawful S) (A : Faithful S) where
  -- every try, also a conflict, is a partial placement
  try_partial : {M : Placed} {v : ℕ} → Grown S M → length M < S.figure.graph.size → Memᴰ v (takeable S M (S.next M)) → layer S.figure S.patch S.sets [] ((S.next M, v) ∷ M) ≡ 1
  unfolding layer placings is_partial line_kept
  try_partial {M} {v} g lt t = rw (grown_distinct S L g, all_in (line_kept S.patch ((S.next M, v) ∷ M)) S.figure.graph.lines (λ l m. guarded _ _ _ (λ a b. ⊎_elim (λ p. try_lines S L g lt t l.1 l.0 b p) (λ p. joined_sym S.patch.graph _ _ (try_lines S L g lt t l.0 l.1 a p)) (A.parted l m))))

  takeable_total : (u : ℕ) (M : Placed) (f : ℕ → ℕ) → total f (takeable S M u) ≤ total f (set_of S.sets u)
  unfolding takeable
  takeable_total u M f = total_keep _ f (set_of S.sets u)

  module _ (o : List ℕ) (whole : length o ≡ S.figure.graph.size) (next-is : (M : Placed) → S.next M ≡ get_or o (length M) 0) where
    level_layers : (k : ℕ) {M : Placed} → Grown S M → length M + k ≡ S.figure.graph.size → length (opening k ++ (level S k M).tries) ≤ 1 + layers S.figure S.patch S.sets (drop (length M) o) M k
    unfolding level opening layers after
    level_layers zero g n = omega arith
    level_layers (suc k) {M} g n =
        let u : ℕ = S.next M in
        let lt : length M < S.figure.graph.size = omega arith in
        let rest : List ℕ = drop (suc (length M)) o in
        let most : ℕ → ℕ = λ v. layer S.figure S.patch S.sets [] ((u, v) ∷ M) + layers S.figure S.patch S.sets rest ((u, v) ∷ M) k in
        let bound : total (λ v. length (try_of S k M v).tries) (takeable S M u) ≤ total most (takeable S M u) = total_le _ most (takeable S M u) (λ v t. rw (try_partial g lt t) (try_cases (λ l. length l.tries ≤ 1 + layers S.figure S.patch S.sets rest ((u, v) ∷ M) k) S k M v (λ w e. omega arith) (λ e. level_layers k (more g lt t e) (omega arith)))) in
        let e : drop (length M) o ≡ u ∷ rest = rw (drop-cons o (length M) 0 (rw whole lt), ← next-is M) refl in
        let within : length (opening (suc k) ++ (level S (suc k) M).tries) ≤ 1 + layers S.figure S.patch S.sets (u ∷ rest) M (suc k) = omega (arith, siblings_total (level_steps S k M), bound, takeable_total u M most, layers_first S.figure S.patch S.sets u rest M k) in
        subst (λ d. length (opening (suc k) ++ (level S (suc k) M).tries) ≤ 1 + layers S.figure S.patch S.sets d M (suc k)) (sym e) within

    -- a search from the start, of a figure that is not empty
    pub level_partials : 0 < S.figure.graph.size → length (level S S.figure.graph.size []).tries ≤ length (partials_up_to S.figure S.patch S.sets o S.figure.graph.size)
    unfolding opening
    level_partials some-vertex = sized S.figure.graph.size refl some-vertex
      where
        sized : (n : ℕ) → n ≡ S.figure.graph.size → 0 < n → length (level S n []).tries ≤ length (partials_up_to S.figure S.patch S.sets o n)
        sized zero e h = absurd (omega arith)
        sized (suc k) e h = omega (arith, layers_start S.figure S.patch S.sets o (suc k), level_layers (suc k) start (omega arith))
