-- The root is what it is to be: the vertex with the least |C(u)| / degree(u), the lowest number on a tie.
use Prim.Native.Nat.{ℕ, zero, suc, ◌+◌, ◌*◌, ◌≤◌, ◌<◌}
use mathlib.Core.Path.{◌≡◌, refl, sym}
use mathlib.Core.Logic.{inl, inr}
use mathlib.Core.List.Memᴰ
use mathlib.Core.List.{List, [], ◌∷◌, Memᴰ}
use mathlib.Core.Bool.{Bool, true, false, cond}
use native.Mathlib.Nat.{mul_right_comm, mul-lt-mul_of_pos_right, mul-le-mul_right, lt_of_mul-lt-mul_right}
use native.Mathlib.Decide.{ℕ_discrete}
use native.Mathlib.Omega.{arith}
use borrow.Author.Tests.{ltb-true, ltb-false}
use lib.ListN.{length}
use Rattle.laws.specs.Lists.{upto}
use Rattle.rules.specs.Graph.{Graph, degree, Way, stay, onward, Connected}
use Rattle.rules.specs.Place.{Figure, Checked}
use Rattle.rules.specs.Candidates.{Sets, set_of, less_than, Least, root_from, root}
use Rattle.laws.proofs.Lists.{split}

-- a connected graph of two vertices or more has a line at each
no_longer_there : {G : Graph} {u w : ℕ} → Way G u w → (u ≡ w → ⊥) → 0 < degree G u
no_longer_there stay away = absurd (away refl)
no_longer_there {G} {u} (onward {w = w} p m) away = elim (ℕ_discrete u w) [ yes e ↦ some (rw (sym e) at m) | no e ↦ no_longer_there p e ]
  where
    some : {x : ℕ} {l : List ℕ} → Memᴰ x l → 0 < length l
    some {l = []} m = absurd (Memᴰ.not-nil m)
    some {l = y ∷ l} m = omega arith

pub degree_positive : (G : Graph) → Connected G → 1 < G.size → (u : ℕ) → u < G.size → 0 < degree G u
degree_positive G linked two u h = elim (ℕ_discrete u 0) [ yes e ↦ no_longer_there (linked u 1 h two) (λ i. omega arith) | no e ↦ no_longer_there (linked u 0 h (omega arith)) e ]

-- less than what is not more is less, of fractions compared by cross-multiplying
less_carried : (a b c p q r : ℕ) → 0 < q → 0 < r → a * q < b * p → b * r ≤ c * q → a * r < c * p
less_carried a b c p q r hq hr less more = lt_of_mul-lt-mul_right q (omega (arith, mul-lt-mul_of_pos_right {m = a * q} {n = b * p} {k = r} less hr, mul-le-mul_right {m = b * r} {n = c * q} p more, mul_right_comm a q r, mul_right_comm b p r, mul_right_comm c q p))

module _ (F : Figure) (C : Sets) (positive : (u : ℕ) → u < F.graph.size → 0 < degree F.graph u) where
  abbrev c : ℕ → ℕ
  c u = length (set_of C u)

  abbrev d : ℕ → ℕ
  d u = degree F.graph u

  -- b leads among the vertices below i
  record Leads (i b : ℕ) : Type 0 where
    least : (u : ℕ) → u < i → c b * d u ≤ c u * d b
    lowest : (u : ℕ) → u < b → c b * d u < c u * d b

  leads_on : (k i b : ℕ) → i + k ≡ F.graph.size → b < F.graph.size → b ≤ i → Leads i b → Least F C (root_from F C b (upto k i))
  unfolding root_from
  leads_on zero i b e h below L = record { inside = h; least = λ u l. L.least u (omega arith); lowest = L.lowest }
  leads_on (suc k) i b e h below L = elim (split (less_than F C i b)) [
    | inl t ↦
        let less : (u : ℕ) → u < i → c i * d u < c u * d i = λ u l. less_carried (c i) (c b) (c u) (d i) (d b) (d u) (positive b h) (positive u (omega arith)) (ltb-true _ _ t) (L.least u l) in
        rw (root_from, t) (leads_on k (suc i) i (omega arith) (omega arith) (omega arith) (record { least = λ u l. elim (ℕ_discrete u i) [ yes q ↦ rw q (omega arith) | no q ↦ omega (arith, less u (omega arith)) ]; lowest = less }))
    | inr t ↦ rw (root_from, t) (leads_on k (suc i) b (omega arith) h (omega arith) (record { least = λ u l. elim (ℕ_discrete u i) [ yes q ↦ rw q (ltb-false _ _ t) | no q ↦ L.least u (omega arith) ]; lowest = L.lowest }))
  ]

-- the root of a connected figure of two vertices or more
pub root_least : (F : Figure) (C : Sets) → Checked F → 1 < F.graph.size → Least F C (root F C)
unfolding root
root_least F C K two = leads_on F C (degree_positive F.graph K.connected two) F.graph.size 0 0 (omega arith) (omega arith) (omega arith) (record { least = λ u l. absurd (omega arith); lowest = λ u l. absurd (omega arith) })

-- a figure of one vertex has root 0
pub root_single : (F : Figure) (C : Sets) → F.graph.size ≡ 1 → root F C ≡ 0
unfolding root root_from
root_single F C e = rw e (same (less_than F C 0 0))
  where
    same : (t : Bool) → ◌≡◌ {A = ℕ} (cond t 0 0) 0
    same true = refl
    same false = refl
