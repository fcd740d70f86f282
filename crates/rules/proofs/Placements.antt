-- Placements that the search reaches: every placed vertex keeps to its set, its own image and its parents' lines.
use Prim.Native.Nat.{ℕ, ◌<◌}
use mathlib.Core.Path.{◌≡◌, refl, ap, sym, ◌∙◌}
use mathlib.Core.Logic.{◌⊎◌, inl, inr, ⊎_elim}
use mathlib.Core.List.{[], ◌∷◌, Memᴰ}
use lib.ListN.{length}
use mathlib.Core.Bool.{true, false, true≢false, false≢true, or-true}
use mathlib.Core.Option.{some, none}
use native.Mathlib.Omega.{arith}
use borrow.Author.Tests.{eqb-true, eqb-false, eq-eqb, ne_eqb}
use lib.Dec.{eqb}
use Rattle.laws.specs.Lists.{has, distinct, Ordered}
use Rattle.rules.specs.Graph.{joined}
use Rattle.rules.specs.Candidates.{set_of}
use Rattle.rules.specs.Tries.{Plan, user, takeable}
use Rattle.rules.specs.Place.{Placed, placed, image, images}
use Rattle.rules.proofs.Lawful.{Grown, start, more, Lawful}
use Rattle.laws.proofs.Lists.{split, keep_in, keep_out, keep_ordered, all_in, all_out}

-- what may be taken: of the vertex's set, beside the images of its parents
module _ (S : Plan) (M : Placed) (u : ℕ) where
  pub takeable_in : {v : ℕ} → Memᴰ v (set_of S.sets u) → ((p : ℕ) → Memᴰ p (S.parents u) → joined S.patch.graph (image M p) v ≡ true) → Memᴰ v (takeable S M u)
  unfolding takeable
  takeable_in m f = keep_in _ m (all_in _ _ f)

  pub takeable_out : {v : ℕ} → Memᴰ v (takeable S M u) → Memᴰ v (set_of S.sets u) × ((p : ℕ) → Memᴰ p (S.parents u) → joined S.patch.graph (image M p) v ≡ true)
  unfolding takeable
  takeable_out {v} m = ((keep_out _ (set_of S.sets u) m).0, λ p i. all_out (λ p. joined S.patch.graph (image M p) v) i (keep_out _ (set_of S.sets u) m).1)

  pub takeable_ordered : {R : ℕ → ℕ → Type 0} → Ordered R (set_of S.sets u) → Ordered R (takeable S M u)
  unfolding takeable
  takeable_ordered o = keep_ordered _ o

-- a placed vertex is the latest, or an older one with the image that it had
pub placed_cases : (M : Placed) (u v w : ℕ) → placed ((u, v) ∷ M) w ≡ true → ((u ≡ w) × (image ((u, v) ∷ M) w ≡ v)) ⊎ ((placed M w ≡ true) × (image ((u, v) ∷ M) w ≡ image M w))
unfolding placed image
placed_cases M u v w h = elim (split (eqb u w)) [ inl e ↦ inl (eqb-true u w e, rw e) | inr e ↦ inr (rw e at h, rw e) ]

-- the latest is placed, on its image
pub latest : (M : Placed) (u v : ℕ) → (placed ((u, v) ∷ M) u ≡ true) × (image ((u, v) ∷ M) u ≡ v)
unfolding placed image
latest M u v = (rw (eq-eqb u u refl), rw (eq-eqb u u refl))

-- what is placed stays placed
pub still : (m : ℕ × ℕ) (M : Placed) (w : ℕ) → placed M w ≡ true → placed (m ∷ M) w ≡ true
unfolding placed
still m M w h = rw (h, or-true)

-- on its image
pub older : (M : Placed) (u v w : ℕ) → placed M u ≡ false → placed M w ≡ true → (placed ((u, v) ∷ M) w ≡ true) × (image ((u, v) ∷ M) w ≡ image M w)
unfolding placed image
older M u v w f h = (still (u, v) M w h, rw (ne_eqb u w (λ i. true≢false (sym h ∙ ap (placed M) (sym i) ∙ f))))

-- what has no user is no image
pub unused : (M : Placed) (v w : ℕ) → user M v ≡ none → placed M w ≡ true → image M w ≡ v → ⊥
unfolding user placed
unused [] v w e h i = false≢true h
unused ((x, y) ∷ M) v w e h i = elim (split (eqb y v)) [
  | inl b ↦ let c : some x ≡ none = rw b at e in let z : ◌≡◌ {A = ℕ} 0 1 = cc in omega arith
  | inr b ↦ ⊎_elim (λ t. eqb-false y v b (sym t.1 ∙ i)) (λ t. unused M v w (rw b at e) t.0 (sym t.1 ∙ i)) (placed_cases M x y w h)
]

free_image : (M : Placed) (v : ℕ) → user M v ≡ none → has v (images M) ≡ false
unfolding user
free_image [] v e = refl
free_image (m ∷ M) v e = elim (split (eqb m.1 v)) [
  | inl b ↦ let c : some m.0 ≡ none = rw b at e in let z : ◌≡◌ {A = ℕ} 0 1 = cc in absurd (omega arith)
  | inr b ↦ rw (ne_eqb v m.1 (λ q. eqb-false _ _ b (sym q))) (free_image M v (rw b at e))
]

-- what every placed vertex keeps to
pub record Kept (S : Plan) (M : Placed) : Type 0 where
  pub inside : (w : ℕ) → placed M w ≡ true → w < S.figure.graph.size
  pub ready : (w p : ℕ) → placed M w ≡ true → Memᴰ p (S.parents w) → placed M p ≡ true
  pub listed : (w : ℕ) → placed M w ≡ true → Memᴰ (image M w) (set_of S.sets w)
  pub apart : (w x : ℕ) → placed M w ≡ true → placed M x ≡ true → image M w ≡ image M x → w ≡ x
  pub lines : (w p : ℕ) → placed M w ≡ true → Memᴰ p (S.parents w) → joined S.patch.graph (image M p) (image M w) ≡ true
  pub users : (v w : ℕ) → user M v ≡ some w → (placed M w ≡ true) × (image M w ≡ v)

module _ (S : Plan) where
  kept_start : Kept S []
  unfolding placed user
  kept_start = record {
    inside = λ w h. absurd (false≢true h);
    ready = λ w p h m. absurd (false≢true h);
    listed = λ w h. absurd (false≢true h);
    apart = λ w x h k e. absurd (false≢true h);
    lines = λ w p h m. absurd (false≢true h);
    users = λ v w e. let z : ◌≡◌ {A = ℕ} 0 1 = cc in absurd (omega arith);
  }

  module _ (M : Placed) (u v : ℕ) (in-figure : u < S.figure.graph.size) (fresh : placed M u ≡ false) (ready : (p : ℕ) → Memᴰ p (S.parents u) → placed M p ≡ true) (t : Memᴰ v (takeable S M u)) (K : Kept S M) where
    stays : (p : ℕ) → placed M p ≡ true → (placed ((u, v) ∷ M) p ≡ true) × (image ((u, v) ∷ M) p ≡ image M p)
    stays p h = older M u v p fresh h

    before : (w p : ℕ) → placed ((u, v) ∷ M) w ≡ true → Memᴰ p (S.parents w) → placed M p ≡ true
    before w p h m = ⊎_elim (λ c. ready p (rw (sym c.0) at m)) (λ c. K.ready w p c.0 m) (placed_cases M u v w h)

    -- also where v is used
    pub lines_more : (w p : ℕ) → placed ((u, v) ∷ M) w ≡ true → Memᴰ p (S.parents w) → joined S.patch.graph (image ((u, v) ∷ M) p) (image ((u, v) ∷ M) w) ≡ true
    lines_more w p h m = rw (stays p (before w p h m)).1 (⊎_elim (λ c. rw c.1 ((takeable_out S M u t).1 p (rw (sym c.0) at m))) (λ c. rw c.1 (K.lines w p c.0 m)) (placed_cases M u v w h))

    users_more : (x w : ℕ) → user ((u, v) ∷ M) x ≡ some w → (placed ((u, v) ∷ M) w ≡ true) × (image ((u, v) ∷ M) w ≡ x)
    unfolding user
    users_more x w e = elim (split (eqb v x)) [
      | inl b ↦ let c : some u ≡ some w = rw b at e in let i : u ≡ w = cc in rw (sym i) ((latest M u v).0, (latest M u v).1 ∙ eqb-true v x b)
      | inr b ↦ let k = K.users x w (rw b at e) in ((stays w k.0).0, (stays w k.0).1 ∙ k.1)
    ]

    kept_more : user M v ≡ none → Kept S ((u, v) ∷ M)
    kept_more none_yet = record {
      inside = λ w h. ⊎_elim (λ c. rw (sym c.0) in-figure) (λ c. K.inside w c.0) (placed_cases M u v w h);
      ready = λ w p h m. (stays p (before w p h m)).0;
      listed = λ w h. ⊎_elim (λ c. rw c.1 (rw (sym c.0) (takeable_out S M u t).0)) (λ c. rw c.1 (K.listed w c.0)) (placed_cases M u v w h);
      apart = λ w x h k e. ⊎_elim (λ c. ⊎_elim (λ d. sym c.0 ∙ d.0) (λ d. absurd (unused M v x none_yet d.0 (sym d.1 ∙ sym e ∙ c.1))) (placed_cases M u v x k)) (λ c. ⊎_elim (λ d. absurd (unused M v w none_yet c.0 (sym c.1 ∙ e ∙ d.1))) (λ d. K.apart w x c.0 d.0 (sym c.1 ∙ e ∙ d.1)) (placed_cases M u v x k)) (placed_cases M u v w h);
      lines = lines_more;
      users = users_more;
    }

module _ (S : Plan) (L : Lawful S) where
  -- of every placement that the search reaches
  pub kept : {M : Placed} → Grown S M → Kept S M
  kept start = kept_start S
  kept (more {M = M} {v = v} g lt t e) = kept_more S M (S.next M) v (L.inside g lt) (L.fresh g lt) (L.ready g lt) t (kept g) e

  -- and so are the lines of a try, also of a conflict
  pub try_lines : {M : Placed} {v : ℕ} → Grown S M → length M < S.figure.graph.size → Memᴰ v (takeable S M (S.next M)) → (w p : ℕ) → placed ((S.next M, v) ∷ M) w ≡ true → Memᴰ p (S.parents w) → joined S.patch.graph (image ((S.next M, v) ∷ M) p) (image ((S.next M, v) ∷ M) w) ≡ true
  try_lines {M} {v} g lt t = lines_more S M (S.next M) v (L.inside g lt) (L.fresh g lt) (L.ready g lt) t (kept g)

  -- its images differ
  pub grown_distinct : {M : Placed} → Grown S M → distinct (images M) ≡ true
  grown_distinct start = refl
  grown_distinct (more {M = M} {v = v} g lt t e) = rw (free_image M v e, grown_distinct g)
