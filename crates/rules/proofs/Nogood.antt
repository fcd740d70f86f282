-- A failing set that is not empty refutes: nothing that fits agrees with the placement on it.
use Prim.Native.Nat.{ℕ, zero, suc, ◌+◌, ◌<◌}
use mathlib.Core.Path.{◌≡◌, refl, ap, sym, ◌∙◌}
use mathlib.Core.Logic.{◌≢◌, ◌⊎◌, inl, inr, ⊎_elim}
use mathlib.Core.List.{List, [], ◌∷◌, Memᴰ}
use mathlib.Core.Bool.{true, false, true≢false}
use mathlib.Core.Option.{Option, some, none}
use native.Mathlib.Omega.{arith}
use lib.Bits.{bit_or}
use lib.ListN.{length}
use Rattle.rules.specs.Tries.{Plan, Level, level, first_set, last_set, after, user, takeable}
use Rattle.rules.specs.Place.{Placed, placed, image}
use Rattle.laws.specs.Masks.{in_mask}
use Rattle.rules.proofs.Lawful.{try_of, Grown, more, Lawful, Fits, Agrees, Refutes}
use Rattle.laws.proofs.Masks.{in_left, in_right}
use Rattle.rules.proofs.Steps.{try_cases, past, hit, miss, Siblings, done, skip, turn, level_steps}
use Rattle.rules.proofs.Closed.{level_closed}
use Rattle.rules.proofs.Placements.{takeable_in, placed_cases, latest, older, kept}

-- one mask lies within another
abbrev Within : ℕ → ℕ → Type 0
Within s t = (w : ℕ) → in_mask w s ≡ true → in_mask w t ≡ true

-- a level fails by one try whose set lacks the level's vertex, or by all its tries together
record Skip (one : ℕ → Level) (u : ℕ) (vs : List ℕ) (s : ℕ) : Type 0 where
  at : ℕ
  listed : Memᴰ at vs
  fails : (one at).failing ≢ 0
  same : s ≡ (one at).failing
  lacks : in_mask u s ≡ false

record Whole (one : ℕ → Level) (u : ℕ) (vs : List ℕ) (acc s : ℕ) : Type 0 where
  earlier : Within acc s
  has_own : (v : ℕ) → Memᴰ v vs → in_mask u s ≡ true
  fails : (v : ℕ) → Memᴰ v vs → (one v).failing ≢ 0
  within : (v : ℕ) → Memᴰ v vs → Within (one v).failing s

-- and in no other way, nor once a set was empty
abbrev Failed : (ℕ → Level) → ℕ → List ℕ → Option ℕ → ℕ → Type 0
Failed one u vs none f = ⊥
Failed one u vs (some acc) f = Skip one u vs f ⊎ Whole one u vs acc f

failed : {one : ℕ → Level} {u : ℕ} {vs : List ℕ} {s : Option ℕ} {l : Level} → Siblings one u vs s l → l.failing ≢ 0 → Failed one u vs s l.failing
unfolding after last_set
failed (done {s = none}) z = z refl
failed (done {s = some s}) z = inr (record { earlier = λ w h. h; has_own = λ v m. absurd (mathlib.Core.List.Memᴰ.not-nil m); fails = λ v m. absurd (mathlib.Core.List.Memᴰ.not-nil m); within = λ v m. absurd (mathlib.Core.List.Memᴰ.not-nil m) })
failed (turn past d) z = failed d z
failed (turn (hit e) d) z = absurd (failed d z)
failed (skip {v = v} {s = s} n o) z = inl (record { at = v; listed = mathlib.Core.List.Memᴰ.head refl; fails = n; same = refl; lacks = o })
failed {one} {u} (turn {v = v} {vs = vs} {l = l} (miss {s = s} n i) d) z = ⊎_elim skipped together (failed d z)
  where
    skipped : Skip one u vs l.failing → Failed one u (v ∷ vs) (some s) l.failing
    skipped c = inl (record { at = c.at; listed = mathlib.Core.List.Memᴰ.tail c.listed; fails = c.fails; same = c.same; lacks = c.lacks })

    together : Whole one u vs (bit_or s (one v).failing) l.failing → Failed one u (v ∷ vs) (some s) l.failing
    together c = inr (record {
      earlier = λ w h. c.earlier w (in_left w s _ h);
      has_own = λ x m. c.earlier u (in_right u s _ i);
      fails = λ x m. ⊎_elim (λ e. rw e n) (λ k. c.fails x k) (mathlib.Core.List.Memᴰ.cases_cons m);
      within = λ x m. ⊎_elim (λ e. rw e (λ w h. c.earlier w (in_right w s _ h))) (λ k. c.within x k) (mathlib.Core.List.Memᴰ.cases_cons m);
    })

-- what agrees, agrees with one more placed that is not of the set or has that image
pub agrees_more : (r : ℕ → ℕ) (M : Placed) (u v s : ℕ) → Agrees r M s → (in_mask u s ≡ true → r u ≡ v) → Agrees r ((u, v) ∷ M) s
agrees_more r M u v s a f w h i = ⊎_elim (λ c. ap r (sym c.0) ∙ f (rw (sym c.0) at i) ∙ sym c.1) (λ c. a w c.0 i ∙ sym c.1) (placed_cases M u v w h)

module _ (S : Plan) (L : Lawful S) (r : ℕ → ℕ) (F : Fits S r) where
  -- what agrees with M on the parents of the next vertex takes what may be taken
  pub takes : {M : Placed} → Grown S M → length M < S.figure.graph.size → ((p : ℕ) → Memᴰ p (S.parents (S.next M)) → r p ≡ image M p) → Memᴰ (r (S.next M)) (takeable S M (S.next M))
  takes {M} g lt a = takeable_in S M (S.next M) (F.listed _ (L.inside g lt)) (λ p m. rw (sym (a p m)) (F.lines (S.next M) p (L.inside g lt) m))

  -- and is no conflict
  pub no_conflict : {M : Placed} → Grown S M → length M < S.figure.graph.size → (v w : ℕ) → user M v ≡ some w → r (S.next M) ≡ v → r w ≡ image M w → ⊥
  no_conflict {M} g lt v w e i j =
      let p = (kept S L g).users v w e in
      true≢false (sym p.0 ∙ ap (placed M) (F.apart w (S.next M) ((kept S L g).inside w p.0) (L.inside g lt) (j ∙ p.1 ∙ sym i)) ∙ L.fresh g lt)

  -- a try refutes with its vertex placed, by the conflict or by the level below
  try_step : (k : ℕ) {M : Placed} (v : ℕ) → Grown S M → length M < S.figure.graph.size → Memᴰ v (takeable S M (S.next M)) → (Grown S ((S.next M, v) ∷ M) → Refutes r ((S.next M, v) ∷ M) (level S k ((S.next M, v) ∷ M))) → Refutes r ((S.next M, v) ∷ M) (try_of S k M v)
  unfolding after
  try_step k {M} v g lt t deeper = try_cases (Refutes r ((u, v) ∷ M)) S k M v clash (λ e. deeper (more g lt t e))
    where
      u : ℕ
      u = S.next M

      clash : (w : ℕ) → user M v ≡ some w → bit_or (S.ancestors u) (S.ancestors w) ≢ 0 → Agrees r ((u, v) ∷ M) (bit_or (S.ancestors u) (S.ancestors w)) → ⊥
      clash w e z a =
          let p = ((kept S L g).users v w e).0 in
          let o = older M u v w (L.fresh g lt) p in
          no_conflict g lt v w e (a u (latest M u v).0 (in_left u (S.ancestors u) _ (L.own u (L.inside g lt))) ∙ (latest M u v).1) (a w o.0 (in_right w (S.ancestors u) (S.ancestors w) (L.own w ((kept S L g).inside w p))) ∙ o.1)

  -- a level whose tries refute refutes
  level_step : (k : ℕ) {M : Placed} → Grown S M → length M < S.figure.graph.size → ((v : ℕ) → Memᴰ v (takeable S M (S.next M)) → Refutes r ((S.next M, v) ∷ M) (try_of S k M v)) → Refutes r M (level S (suc k) M)
  unfolding first_set
  level_step k {M} g lt each z a = ⊎_elim by_skip by_all (failed (level_steps S k M) z)
    where
      u : ℕ
      u = S.next M

      s : ℕ
      s = (level S (suc k) M).failing

      by_skip : Skip (try_of S k M) u (takeable S M u) s → ⊥
      by_skip c = each c.at c.listed c.fails (rw c.same at (agrees_more r M u c.at s a (λ i. absurd (true≢false (sym i ∙ c.lacks)))))

      own_in : (vs : List ℕ) → Whole (try_of S k M) u vs (first_set S u vs) s → in_mask u s ≡ true
      own_in [] c = c.earlier u (L.own u (L.inside g lt))
      own_in (v ∷ vs) c = c.has_own v (mathlib.Core.List.Memᴰ.head refl)

      by_all : Whole (try_of S k M) u (takeable S M u) (first_set S u (takeable S M u)) s → ⊥
      by_all c =
          let t : Memᴰ (r u) (takeable S M u) = takes g lt (λ p m. a p (L.ready g lt p m) (level_closed S L (suc k) M u p (own_in (takeable S M u) c) m)) in
          each (r u) t (c.fails (r u) t) (agrees_more r M u (r u) _ (λ w h i. a w h (c.within (r u) t w i)) (λ i. refl))

  -- a level with k vertices left refutes
  pub level_refutes : (k : ℕ) {M : Placed} → Grown S M → length M + k ≡ S.figure.graph.size → Refutes r M (level S k M)
  unfolding level
  level_refutes zero g n z a = z refl
  level_refutes (suc k) g n z a = level_step k g (omega arith) (λ v t. try_step k v g (omega arith) t (λ h. level_refutes k h (omega arith))) z a

  -- and so does each of its tries
  pub try_refutes : (k : ℕ) {M : Placed} → Grown S M → length M + suc k ≡ S.figure.graph.size → (v : ℕ) → Memᴰ v (takeable S M (S.next M)) → Refutes r ((S.next M, v) ∷ M) (try_of S k M v)
  try_refutes k g n v t = try_step k v g (omega arith) t (λ h. level_refutes k h (omega arith))
