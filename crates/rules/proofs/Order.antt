-- The rows come in the order of their entries, taken in matching order.
use Prim.Native.Nat.{ℕ, zero, suc, ◌+◌, ◌<◌}
use mathlib.Core.Path.{◌≡◌, refl, ap, sym, ◌∙◌}
use mathlib.Core.List.Memᴰ
use mathlib.Core.List.{List, ◌∷◌, ◌++◌, map, Memᴰ}
use mathlib.Core.Bool.{true}
use mathlib.Core.Option.{Option, some, none}
use native.Mathlib.Omega.{arith}
use lib.ListN.{length, get_or, drop}
use lib.Seq.{drop-cons}
use Rattle.laws.specs.Lists.{Ordered, nil, cons, Lesser, first, next}
use Rattle.rules.specs.Place.{entry, Placed, placed, image}
use Rattle.rules.specs.Candidates.{set_of}
use Rattle.rules.specs.Tries.{Plan, Level, Try, level, after, opening, user, takeable, row_of}
use Rattle.rules.proofs.Lawful.{try_of, Grown, more, Lawful, Earlier, here, later, InOrder}
use Rattle.rules.proofs.Steps.{try_cases, Siblings, done, skip, turn, level_steps}
use Rattle.laws.proofs.Lists.{single_ordered, append_ordered, weaken_ordered, get_or_first}
use Rattle.rules.proofs.Placements.{takeable_ordered, latest, older, kept}
use Rattle.rules.proofs.Sound.{siblings_from, unopened, try_from, level_from}

-- where the search goes by an order o, the earlier is the lesser along what is left of o
earlier_open : {S : Plan} {r q : ℕ → ℕ} {M : Placed} → Earlier S r q M → length M < S.figure.graph.size
earlier_open (here lt h) = lt
earlier_open (later {M = M} {v = v} i j e) = omega (arith, earlier_open e)

pub earlier_lesser : {S : Plan} (o : List ℕ) → length o ≡ S.figure.graph.size → ((M : Placed) → S.next M ≡ get_or o (length M) 0) → {r q : ℕ → ℕ} {M : Placed} → Earlier S r q M → Lesser (map r (drop (length M) o)) (map q (drop (length M) o))
earlier_lesser o whole next-is (here {M = M} lt h) = rw (drop-cons o (length M) 0 (rw whole lt)) (first (rw next-is at h))
earlier_lesser o whole next-is (later {M = M} i j e) = let lt = earlier_open (later i j e) in rw (drop-cons o (length M) 0 (rw whole lt)) (next (rw next-is at (i ∙ sym j)) (earlier_lesser o whole next-is e))

-- nothing is less than itself
pub lesser_apart : {xs ys : List ℕ} → Lesser xs ys → xs ≡ ys → ⊥
lesser_apart (first {a = a} {b = b} lt) e = let i : a ≡ b = cc in omega arith
lesser_apart (next {xs = xs} {ys = ys} i l) e = lesser_apart l (cc)

-- nor two lists less than each other
pub lesser_both : {xs ys : List ℕ} → Lesser xs ys → Lesser ys xs → ⊥
lesser_both (first a) (first b) = omega arith
lesser_both (first a) (next e l) = omega arith
lesser_both (next e k) (first b) = omega arith
lesser_both (next e k) (next f l) = lesser_both k l

-- a level's tries are in order where each try's are, and those of a lesser vertex before those of a greater
siblings_ordered : {one : ℕ → Level} {u : ℕ} {vs : List ℕ} {s : Option ℕ} {l : Level} {R : Try → Try → Type 0} → Siblings one u vs s l → Ordered ◌<◌ vs → ((v : ℕ) → Memᴰ v vs → Ordered R (one v).tries) → ((v w : ℕ) → Memᴰ v vs → Memᴰ w vs → v < w → (s t : Try) → Memᴰ s (one v).tries → Memᴰ t (one w).tries → R s t) → Ordered R l.tries
unfolding after
siblings_ordered done o each across = nil
siblings_ordered (skip {v = v} n i) o each across = each v (Memᴰ.head refl)
siblings_ordered (turn {v = v} e d) (cons f o) each across = append_ordered (each v (Memᴰ.head refl)) (siblings_ordered d o (λ w m. each w (Memᴰ.tail m)) (λ x y i j. across x y (Memᴰ.tail i) (Memᴰ.tail j))) (λ s t i j. let x = siblings_from d j in across v x.0 (Memᴰ.head refl) (Memᴰ.tail x.1) (f x.0 x.1) s t i x.2)

opening_ordered : {R : Try → Try → Type 0} (k : ℕ) → Ordered R (opening k)
unfolding opening
opening_ordered zero = nil
opening_ordered (suc k) = single_ordered none

module _ (S : Plan) (L : Lawful S) where
  -- the rows below a placement give its vertices their images
  pub level_keeps : (k : ℕ) {M : Placed} {row : List ℕ} → Grown S M → length M + k ≡ S.figure.graph.size → Memᴰ (some row) (level S k M).tries → (w : ℕ) → placed M w ≡ true → entry row w ≡ image M w
  unfolding level row_of
  level_keeps zero {M} {row} g n m w h =
      let e = Memᴰ.eq_of_singleton m in
      let same : row ≡ row_of S.figure M = cc in
      ap (λ l. entry l w) same ∙ get_or_first (image M) 0 S.figure.graph.size w ((kept S L g).inside w h)
  level_keeps (suc k) {M} g n m w h =
      let x = level_from S k M m in
      let o = older M (S.next M) x.0 w (L.fresh g (omega arith)) h in
      level_keeps k (more g (omega arith) x.1 x.2) (omega arith) x.3 w o.0 ∙ o.1

  -- with k vertices left, where every set ascends
  pub level_ordered : ((u : ℕ) → u < S.figure.graph.size → Ordered ◌<◌ (set_of S.sets u)) → (k : ℕ) {M : Placed} → Grown S M → length M + k ≡ S.figure.graph.size → Ordered (InOrder S M) (level S k M).tries
  unfolding level after
  level_ordered asc zero g n = single_ordered _
  level_ordered asc (suc k) {M} g n = siblings_ordered (level_steps S k M) (takeable_ordered S M u (asc u (L.inside g (omega arith)))) (λ v t. try_cases (λ l. Ordered (InOrder S M) l.tries) S k M v (λ w e. single_ordered none) (λ e. below v t e (level_ordered asc k (more g (omega arith) t e) (omega arith)))) across
    where
      u : ℕ
      u = S.next M

      own : (v : ℕ) → Memᴰ v (takeable S M u) → user M v ≡ none → {row : List ℕ} → Memᴰ (some row) (level S k ((u, v) ∷ M)).tries → entry row u ≡ v
      own v t e m = level_keeps k (more g (omega arith) t e) (omega arith) m u (latest M u v).0 ∙ (latest M u v).1

      below : (v : ℕ) → Memᴰ v (takeable S M u) → user M v ≡ none → Ordered (InOrder S ((u, v) ∷ M)) (level S k ((u, v) ∷ M)).tries → Ordered (InOrder S M) (opening k ++ (level S k ((u, v) ∷ M)).tries)
      below v t e o = append_ordered (opening_ordered k) (weaken_ordered o (λ x y i j r a b p q. later (own v t e (Memᴰ.cast (sym p) i)) (own v t e (Memᴰ.cast (sym q) j)) (r a b p q))) (λ x y i j a b p q. absurd (unopened k (Memᴰ.cast (sym p) i)))

      across : (v w : ℕ) → Memᴰ v (takeable S M u) → Memᴰ w (takeable S M u) → v < w → (s t : Try) → Memᴰ s (try_of S k M v).tries → Memᴰ t (try_of S k M w).tries → InOrder S M s t
      across v w i j lt s t m o a b p q =
          let x = try_from S k M v (Memᴰ.cast (sym p) m) in
          let y = try_from S k M w (Memᴰ.cast (sym q) o) in
          here {M = M} (omega arith) (rw (own v i x.0 x.1, own w j y.0 y.1) lt)
