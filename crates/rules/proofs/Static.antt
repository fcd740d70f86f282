-- A plan that places the vertices in one order, each once, is lawful.
use Prim.Native.Nat.{ℕ, suc, ◌<◌}
use mathlib.Core.Path.{◌≡◌, refl, ap, sym, ◌∙◌}
use mathlib.Core.Logic.{⊎_elim}
use mathlib.Core.List.{List, Memᴰ}
use mathlib.Core.Bool.{Bool, true, false, false≢true}
use native.Mathlib.Omega.{arith}
use native.Mathlib.Decide.{ℕ_discrete}
use lib.ListN.{length, get_or, take, drop}
use lib.Seq.{split_at}
use Rattle.rules.specs.Graph.{near}
use Rattle.rules.specs.Candidates.{before, parents, ancestors, order_of}
use Rattle.rules.specs.Tries.{Plan, plan_of}
use Rattle.rules.specs.Place.{Figure, Patch, Placed, placed}
use Rattle.rules.proofs.Lawful.{Arranged, Grown, start, more, Lawful}
use Rattle.laws.proofs.Lists.{keep_out, get_or_in, take_out, ordered_get_or}
use Rattle.rules.proofs.Placements.{placed_cases, latest, still}
use Rattle.rules.proofs.Ancestors.{before_out, ancestors_own, ancestors_closed}

module _ (S : Plan) (o : List ℕ) (next-is : (M : Placed) → S.next M ≡ get_or o (length M) 0) where
  -- what is placed is the first of the order
  placed_out : {M : Placed} → Grown S M → (w : ℕ) → placed M w ≡ true → (i : ℕ) × (i < length M) × (w ≡ get_or o i 0)
  unfolding placed
  placed_out start w h = absurd (false≢true h)
  placed_out (more {M = M} {v = v} g lt t e) w h = ⊎_elim (λ c. (length M, omega arith, sym c.0 ∙ next-is M)) (λ c. let x = placed_out g w c.0 in (x.0, omega arith, x.2)) (placed_cases M (S.next M) v w h)

  placed_in : {M : Placed} → Grown S M → (i : ℕ) → i < length M → placed M (get_or o i 0) ≡ true
  placed_in start i h = absurd (omega arith)
  placed_in (more {M = M} {v = v} g lt t e) i h = elim (ℕ_discrete i (length M)) [
    | yes p ↦ rw (p, ← next-is M) (latest M (S.next M) v).0
    | no p ↦ still (S.next M, v) M _ (placed_in g i (omega arith))
  ]

  module _ (a : Arranged S.figure.graph.size o) (parents_are : (u : ℕ) → S.parents u ≡ parents S.figure o u) (ancestors-are : (u : ℕ) → S.ancestors u ≡ get_or (ancestors S.figure o) u 0) where
    in_order : (u : ℕ) → Memᴰ u o → u < length o
    in_order u m = rw a.whole (a.inside u m)

    -- with the parents and ancestors of that order
    pub order_lawful : Lawful S
    unfolding parents
    order_lawful = record {
      inside = λ {M} g lt. rw next-is (a.inside _ (get_or_in 0 o (length M) (rw a.whole lt)));
      fresh = λ {M} g lt. not_placed g lt (placed M (S.next M)) refl;
      ready = ready_at;
      own = λ u h. rw ancestors-are (ancestors_own S.figure o in_order u (a.covers u h));
      closed = λ u w p h m. rw ancestors-are (ancestors_closed S.figure o in_order u w p (rw ancestors-are at h) (rw parents_are at m));
    }
      where
        not_placed : {M : Placed} → Grown S M → length M < S.figure.graph.size → (b : Bool) → placed M (S.next M) ≡ b → b ≡ false
        not_placed {M} g lt true e = let x = placed_out g (S.next M) e in absurd (ordered_get_or 0 a.once x.0 (length M) x.1 (rw a.whole lt) (sym x.2 ∙ next-is M))
        not_placed g lt false e = refl

        ready_at : {M : Placed} → Grown S M → length M < S.figure.graph.size → (p : ℕ) → Memᴰ p (S.parents (S.next M)) → placed M p ≡ true
        ready_at {M} g lt p m =
            let h = (keep_out (λ w. before o w (get_or o (length M) 0)) (near S.figure.graph (get_or o (length M) 0)) (rw (parents_are, next-is) at m)).1 in
            let x = take_out 0 (length M) o (before_out (take (length M) o) (drop (suc (length M)) o) p (get_or o (length M) 0) (ap (λ l. before l p (get_or o (length M) 0)) (sym (split_at o (length M) 0 (rw a.whole lt))) ∙ h)) in
            rw x.2 (placed_in g x.0 x.1)

-- and so is that of the rules, where the order that they find is one
pub plan_of_lawful : (F : Figure) (P : Patch) → Arranged F.graph.size (order_of F P) → Lawful (plan_of F P)
unfolding plan_of
plan_of_lawful F P a = order_lawful (plan_of F P) (order_of F P) (λ M. refl) a (λ u. refl) (λ u. refl)
