-- After as many placements as the figure has vertices, every vertex is placed.
use Prim.Native.Nat.{ℕ, zero, suc, ◌≤◌, ◌<◌}
use mathlib.Core.Path.{◌≡◌, ap, sym, ◌∙◌}
use mathlib.Core.Logic.{inl, inr}
use mathlib.Core.List.{◌∷◌}
use mathlib.Core.Bool.{Bool, true, false, cond}
use native.Mathlib.Omega.{arith}
use native.Mathlib.Decide.{ℕ_discrete}
use lib.ListN.{length}
use Rattle.rules.specs.Tries.{Plan}
use Rattle.rules.specs.Place.{Placed, placed}
use Rattle.rules.proofs.Lawful.{Grown, start, more, Lawful}
use Rattle.laws.proofs.Lists.{split}
use Rattle.rules.proofs.Placements.{latest, still}

-- how many numbers below n pass
abbrev count : (ℕ → Bool) → ℕ → ℕ
count p zero = 0
count p (suc n) = cond (p n) (suc (count p n)) (count p n)

count_le : (p : ℕ → Bool) (n : ℕ) → count p n ≤ n
count_le p zero = omega arith
count_le p (suc n) = elim (split (p n)) [ inl e ↦ rw e (omega (arith, count_le p n)) | inr e ↦ rw e (omega (arith, count_le p n)) ]

count_full : (p : ℕ → Bool) (n : ℕ) → count p n ≡ n → (u : ℕ) → u < n → p u ≡ true
count_full p zero e u h = absurd (omega arith)
count_full p (suc n) e u h = elim (split (p n)) [
  | inl b ↦ let c : suc (count p n) ≡ suc n = rw b at e in elim (ℕ_discrete u n) [ yes i ↦ ap p i ∙ b | no i ↦ count_full p n (omega arith) u (omega arith) ]
  | inr b ↦ let c : count p n ≡ suc n = rw b at e in absurd (omega (arith, count_le p n))
]

-- where more pass, more are counted
module _ (p q : ℕ → Bool) (also : (w : ℕ) → p w ≡ true → q w ≡ true) where
  count_mono : (n : ℕ) → count p n ≤ count q n
  count_mono zero = omega arith
  count_mono (suc n) = elim (split (p n)) [
    | inl e ↦ rw (e, also n e) (omega (arith, count_mono n))
    | inr e ↦ elim (split (q n)) [ inl f ↦ rw (e, f) (omega (arith, count_mono n)) | inr f ↦ rw (e, f) (count_mono n) ]
  ]

  count_more : (u : ℕ) → p u ≡ false → q u ≡ true → (n : ℕ) → u < n → count p n < count q n
  count_more u out within zero h = absurd (omega arith)
  count_more u out within (suc n) h = elim (ℕ_discrete u n) [
    | yes i ↦ rw (ap p (sym i) ∙ out, ap q (sym i) ∙ within) (omega (arith, count_mono n))
    | no i ↦ elim (split (p n)) [
      | inl e ↦ rw (e, also n e) (omega (arith, count_more u out within n (omega arith)))
      | inr e ↦ elim (split (q n)) [ inl f ↦ rw (e, f) (omega (arith, count_more u out within n (omega arith))) | inr f ↦ rw (e, f) (count_more u out within n (omega arith)) ]
    ]
  ]

module _ (S : Plan) (L : Lawful S) where
  grown_count : {M : Placed} → Grown S M → length M ≤ count (placed M) S.figure.graph.size
  grown_count start = omega arith
  grown_count (more {M = M} {v = v} g lt t e) = let l = count_more (placed M) (placed ((S.next M, v) ∷ M)) (still (S.next M, v) M) (S.next M) (L.fresh g lt) (latest M (S.next M) v).0 S.figure.graph.size (L.inside g lt) in omega (arith, grown_count g)

  -- a full placement places all
  pub whole : {M : Placed} → Grown S M → length M ≡ S.figure.graph.size → (u : ℕ) → u < S.figure.graph.size → placed M u ≡ true
  whole {M} g n = count_full (placed M) S.figure.graph.size (omega (arith, grown_count g, count_le (placed M) S.figure.graph.size))
