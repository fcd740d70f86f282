-- The list of partial placements holds each of them once and nothing else, so that its length is their number.
use Prim.Native.Nat.{ℕ, zero, suc, ◌≤◌, ◌<◌}
use mathlib.Core.Path.{◌≡◌, refl, ap, sym, subst, ◌∙◌}
use mathlib.Core.Logic.{◌≢◌, ◌↔◌, ◌⊎◌, inl, inr, ⊎_elim}
use mathlib.Core.List.Memᴰ
use mathlib.Core.List.{List, [], ◌∷◌, map, reverse, reverse_aux, reverse_aux-eq, Memᴰ}
use mathlib.Core.Bool.{true, false, and-eq-true_iff, false≢true}
use native.Mathlib.Nat.{min-eq_left}
use native.Mathlib.Omega.{arith}
use borrow.Author.Tests.{eqb-true, eq-eqb, ne_eqb}
use lib.Dec.{eqb}
use native.Mathlib.Decide.{ℕ_discrete, dec_lt}
use lib.ListN.{length, take, drop, length-map, length-take, length-reverse, take-append-drop, get_or-eq_default}
use lib.Seq.{drop_at, drop-length}
use Rattle.laws.specs.Lists.{any, keep, null, Ordered, nil, cons}
use Rattle.rules.specs.Graph.{joined}
use Rattle.rules.specs.Place.{Figure, Patch, Placed, image, placed, images, Checked}
use Rattle.rules.specs.Candidates.{Sets, set_of, order_of, sets_of}
use Rattle.rules.specs.Partials.{Partial, placings, line_kept, is_partial, partials_up_to, partials_of}
use Rattle.rules.proofs.Lawful.{Arranged}
use Rattle.rules.proofs.Breadth.{connected_arranged}
use Rattle.rules.proofs.Sets.{sets_good, sets_length}
use Rattle.laws.proofs.Lists.{split, guarded, keep_in, keep_out, keep_ordered, all_in, all_out, append_ordered, begun_ordered, weaken_ordered, single_ordered, each_in, each_out, each_once, distinct_once, once_distinct}

-- the vertices of an assignment, the latest first
abbrev vertices : Placed → List ℕ
vertices M = map (λ m. m.0) M

-- each vertex of an assignment stands on a candidate
abbrev OnCandidates : Sets → Placed → Type 0
OnCandidates C M = (u v : ℕ) → Memᴰ (u, v) M → Memᴰ v (set_of C u)

module _ (C : Sets) where
  -- what a way to go on from N is
  record Goes (us : List ℕ) (N M : Placed) : Type 0 where
    from : drop (length us) M ≡ N
    along : vertices M ≡ reverse_aux us (vertices N)
    candidates : OnCandidates C N → OnCandidates C M

  placings_out : {M : Placed} (us : List ℕ) (N : Placed) → Memᴰ M (placings C us N) → Goes us N M
  unfolding placings
  placings_out {M} [] N m = let e = one (Memᴰ.cases_cons m) in record { from = e; along = ap vertices e; candidates = λ f. subst (OnCandidates C) (sym e) f }
    where
      one : (M ≡ N) ⊎ Memᴰ M [] → M ≡ N
      one (inl e) = e
      one (inr i) = absurd (Memᴰ.not-nil i)
  placings_out {M} (u ∷ us) N m =
      let t = each_out (λ v. placings C us ((u, v) ∷ N)) (set_of C u) m in
      let G = placings_out us ((u, t.0) ∷ N) t.2 in
      record { from = after (length us) M G.from; along = G.along; candidates = λ f. G.candidates (λ w x i. ⊎_elim (λ e. subst (λ q. Memᴰ q.1 (set_of C q.0)) (sym e) t.1) (f w x) (Memᴰ.cases_cons i)) }
    where
      after : (k : ℕ) (M : Placed) {x : ℕ × ℕ} {N : Placed} → drop k M ≡ x ∷ N → drop (suc k) M ≡ N
      after zero [] e = let z : ◌≡◌ {A = ℕ} 0 1 = cc in absurd (omega arith)
      after zero (y ∷ M) e = cc
      after (suc k) [] e = let z : ◌≡◌ {A = ℕ} 0 1 = cc in absurd (omega arith)
      after (suc k) (y ∷ M) e = after k M e

  placings_in : (us : List ℕ) (N M : Placed) → drop (length us) M ≡ N → vertices M ≡ reverse_aux us (vertices N) → OnCandidates C M → Memᴰ M (placings C us N)
  unfolding placings
  placings_in [] N M from along cand = Memᴰ.head from
  placings_in (u ∷ us) N M from along cand = next (λ v here. placings_in us ((u, v) ∷ N) M here along cand) (drop (length us) M) refl (drop_map (length us) M ∙ ap (drop (length us)) along ∙ drop_reversed us (u ∷ vertices N))
    where
      drop_map : (k : ℕ) (M : Placed) → vertices (drop k M) ≡ drop k (vertices M)
      drop_map zero M = refl
      drop_map (suc k) [] = refl
      drop_map (suc k) (m ∷ M) = drop_map k M

      drop_reversed : (us r : List ℕ) → drop (length us) (reverse_aux us r) ≡ r
      drop_reversed us r = ap (drop (length us)) (reverse_aux-eq us r) ∙ drop_at (reverse us) r (length us) (length-reverse us)

      tail_of : (k : ℕ) (M : Placed) → drop 1 (drop k M) ≡ drop (suc k) M
      tail_of zero M = refl
      tail_of (suc k) [] = refl
      tail_of (suc k) (m ∷ M) = tail_of k M

      of_drop : (k : ℕ) (M : Placed) {x : ℕ × ℕ} → Memᴰ x (drop k M) → Memᴰ x M
      of_drop zero M m = m
      of_drop (suc k) [] m = m
      of_drop (suc k) (y ∷ M) m = Memᴰ.tail (of_drop k M m)

      next : ((v : ℕ) → drop (length us) M ≡ (u, v) ∷ N → Memᴰ M (placings C us ((u, v) ∷ N))) → (D : Placed) → D ≡ drop (length us) M → vertices D ≡ u ∷ vertices N → Memᴰ M (placings C (u ∷ us) N)
      next again [] e f = let z : ◌≡◌ {A = ℕ} 0 1 = cc in absurd (omega arith)
      next again ((w, v) ∷ D) e f =
          let is : w ≡ u = cc in
          let rest : D ≡ N = ap (drop 1) e ∙ tail_of (length us) M ∙ from in
          let here : drop (length us) M ≡ (u, v) ∷ N = sym e ∙ (λ i. (is i, v) ∷ rest i) in
          each_in (λ v. placings C us ((u, v) ∷ N)) (cand u v (of_drop (length us) M (subst (Memᴰ (u, v)) (sym here) (Memᴰ.head refl)))) (again v here)

  placings_once : ((u : ℕ) → Ordered ◌≢◌ (set_of C u)) → (us : List ℕ) (N : Placed) → Ordered ◌≢◌ (placings C us N)
  unfolding placings
  placings_once sets [] N = single_ordered N
  placings_once sets (u ∷ us) N = each_once (λ v. placings C us ((u, v) ∷ N)) (sets u) (λ v. placings_once sets us ((u, v) ∷ N)) (λ v w M i j. ap second (sym (placings_out us ((u, v) ∷ N) i).from ∙ (placings_out us ((u, w) ∷ N) j).from))
    where
      second : Placed → ℕ
      second [] = 0
      second (m ∷ M) = m.1

-- an assignment that holds each vertex once gives it the image that stands beside it
image_at : (M : Placed) → Ordered ◌≢◌ (vertices M) → (u v : ℕ) → Memᴰ (u, v) M → (placed M u ≡ true) × (image M u ≡ v)
unfolding placed image
image_at [] o u v m = absurd (Memᴰ.not-nil m)
image_at (m ∷ M) (cons f o) u v i = ⊎_elim (λ e. let h = eq-eqb m.0 u (ap (λ (q : ℕ × ℕ). q.0) (sym e)) in (rw h, rw h (ap (λ (q : ℕ × ℕ). q.1) (sym e)))) (λ j. let h = ne_eqb m.0 u (f u (Memᴰ.map (λ (q : ℕ × ℕ). q.0) j)) in let t = image_at M o u v j in (rw (h, t.0), rw h t.1)) (Memᴰ.cases_cons i)

placed_at : (M : Placed) (u : ℕ) → placed M u ≡ true → Memᴰ (u, image M u) M
unfolding placed image
placed_at [] u h = absurd (false≢true h)
placed_at (m ∷ M) u h = elim (split (eqb m.0 u)) [ inl e ↦ rw e (Memᴰ.head (λ i. (sym (eqb-true m.0 u e) i, m.1))) | inr e ↦ rw e (Memᴰ.tail (placed_at M u (rw e at h))) ]

-- the test is what is said of lines and of different values
abbrev LinesKept : Figure → Patch → Placed → Type 0
LinesKept F P M = (u w v x : ℕ) → Memᴰ (u, w) F.graph.lines → Memᴰ (u, v) M → Memᴰ (w, x) M → joined P.graph v x ≡ true

module _ (F : Figure) (P : Patch) (M : Placed) (once : Ordered ◌≢◌ (vertices M)) where
  test_out : is_partial F P M ≡ true → (0 < length M) × LinesKept F P M × Ordered ◌≢◌ (drop 1 (images M))
  unfolding is_partial line_kept
  test_out = by_cases M once
    where
      by_cases : (M : Placed) → Ordered ◌≢◌ (vertices M) → is_partial F P M ≡ true → (0 < length M) × LinesKept F P M × Ordered ◌≢◌ (drop 1 (images M))
      by_cases [] o h = absurd (false≢true h)
      by_cases (m ∷ N) o h =
          let b = (and-eq-true_iff _ _).0 h in
          (omega arith, (λ u w v x l i j. let s = image_at (m ∷ N) o u v i in let t = image_at (m ∷ N) o w x j in rw (s.0, t.0, s.1, t.1) at (all_out (line_kept P (m ∷ N)) l b.1)), distinct_once (images N) b.0)

  test_in : 0 < length M → LinesKept F P M → Ordered ◌≢◌ (drop 1 (images M)) → is_partial F P M ≡ true
  unfolding is_partial line_kept
  test_in = by_cases M
    where
      by_cases : (M : Placed) → 0 < length M → LinesKept F P M → Ordered ◌≢◌ (drop 1 (images M)) → is_partial F P M ≡ true
      by_cases [] h lines o = absurd (omega arith)
      by_cases (m ∷ N) h lines o = rw (once_distinct o) (all_in (line_kept P (m ∷ N)) F.graph.lines (λ l i. guarded _ _ _ (λ a b. lines l.0 l.1 _ _ i (placed_at (m ∷ N) l.0 a) (placed_at (m ∷ N) l.1 b))))

-- the other way round, what stands once stands once
reversed_once : {us r : List ℕ} → Ordered ◌≢◌ us → Ordered ◌≢◌ r → ((x y : ℕ) → Memᴰ x us → Memᴰ y r → x ≢ y) → Ordered ◌≢◌ (reverse_aux us r)
reversed_once nil p apart = p
reversed_once (cons {x = x} {l = us} f o) p apart = reversed_once o (cons (λ y m e. apart x y (Memᴰ.head refl) m e) p) (λ a b i j e. ⊎_elim (λ k. f a i (sym k ∙ sym e)) (λ k. apart a b (Memᴰ.tail i) k e) (Memᴰ.cases_cons j))

module _ (F : Figure) (P : Patch) (C : Sets) (o : List ℕ) (once : Ordered ◌≢◌ o) where
  first_once : (k : ℕ) → Ordered ◌≢◌ (reverse (take k o))
  first_once k = reversed_once (begun_ordered (take k o) (drop k o) (subst (Ordered ◌≢◌) (sym (take-append-drop k o)) once)) nil (λ x y i j. absurd (Memᴰ.not-nil j))

  first_long : (k : ℕ) → k ≤ length o → length (take k o) ≡ k
  first_long k h = length-take k o ∙ min-eq_left h

  -- those of k vertices
  layer_out : (k : ℕ) → k ≤ length o → (M : Placed) → Memᴰ M (keep (is_partial F P) (placings C (take k o) [])) → Partial F P C o M × (length M ≡ k)
  layer_out k h M m =
      let q = keep_out (is_partial F P) (placings C (take k o) []) m in
      let G = placings_out C (take k o) [] q.0 in
      let long : length M ≡ k = sym (length-map M (λ m. m.0)) ∙ ap length G.along ∙ length-reverse (take k o) ∙ first_long k h in
      let t = test_out F P M (subst (Ordered ◌≢◌) (sym G.along) (first_once k)) q.1 in
      (record { one = t.0; vertices = G.along ∙ ap (λ n. reverse (take n o)) (sym long); candidates = G.candidates (λ u v i. absurd (Memᴰ.not-nil i)); lines = t.1; different = t.2 }, long)

  layer_in : (M : Placed) → Partial F P C o M → Memᴰ M (keep (is_partial F P) (placings C (take (length M) o) []))
  layer_in M p =
      let long : length M ≡ length (take (length M) o) = sym (length-map M (λ m. m.0)) ∙ ap length p.vertices ∙ length-reverse (take (length M) o) in
      keep_in (is_partial F P) (placings_in C (take (length M) o) [] M (ap (λ n. drop n M) (sym long) ∙ drop-length M) p.vertices p.candidates) (test_in F P M (subst (Ordered ◌≢◌) (sym p.vertices) (first_once (length M))) p.one p.lines p.different)

  partial_short : (M : Placed) → Partial F P C o M → length M ≤ length o
  partial_short M p = omega (arith, length-map M (λ m. m.0), ap length p.vertices, length-reverse (take (length M) o), length-take (length M) o)

  -- those of up to k vertices
  upto_out : (k : ℕ) → k ≤ length o → (M : Placed) → Memᴰ M (partials_up_to F P C o k) → Partial F P C o M × (length M ≤ k)
  unfolding partials_up_to
  upto_out zero h M m = absurd (Memᴰ.not-nil m)
  upto_out (suc k) h M m = ⊎_elim (λ i. let t = layer_out (suc k) h M i in (t.0, omega (arith, t.1))) (λ i. let t = upto_out k (omega arith) M i in (t.0, omega (arith, t.1))) (Memᴰ.append_cases (keep (is_partial F P) (placings C (take (suc k) o) [])) m)

  upto_in : (k : ℕ) (M : Placed) → Partial F P C o M → length M ≤ k → Memᴰ M (partials_up_to F P C o k)
  unfolding partials_up_to
  upto_in zero M p h = absurd (omega (arith, p.one))
  upto_in (suc k) M p h = elim (ℕ_discrete (length M) (suc k)) [ yes e ↦ Memᴰ.append_left (partials_up_to F P C o k) (rw e at (layer_in M p)) | no e ↦ Memᴰ.append_right (keep (is_partial F P) (placings C (take (suc k) o) [])) (upto_in k M p (omega arith)) ]

  upto_once : ((u : ℕ) → Ordered ◌≢◌ (set_of C u)) → (k : ℕ) → k ≤ length o → Ordered ◌≢◌ (partials_up_to F P C o k)
  unfolding partials_up_to
  upto_once sets zero h = nil
  upto_once sets (suc k) h = append_ordered (keep_ordered (is_partial F P) (placings_once C sets (take (suc k) o) [])) (upto_once sets k (omega arith)) (λ x y i j e. omega (arith, (layer_out (suc k) h x i).1, (upto_out k (omega arith) y j).1, ap length e))

module _ (F : Figure) (P : Patch) (K : Checked F) where
  arranged : Arranged F.graph.size (order_of F P)
  arranged = connected_arranged F P K.vertex K.drawn K.connected

  -- the list holds just the partial placements, where no refined set is empty
  pub partials_exactly : any null (sets_of F P) ≡ false → (M : Placed) → Memᴰ M (partials_of F P) ↔ Partial F P (sets_of F P) (order_of F P) M
  unfolding partials_of
  partials_exactly e M = rw (partials_of, e) (λ m. (upto_out F P (sets_of F P) (order_of F P) arranged.once F.graph.size (omega (arith, arranged.whole)) M m).0, λ p. upto_in F P (sets_of F P) (order_of F P) arranged.once F.graph.size M p (omega (arith, partial_short F P (sets_of F P) (order_of F P) arranged.once M p, arranged.whole)))

  -- and each of them once
  pub partials_once : Ordered ◌≢◌ (partials_of F P)
  unfolding partials_of
  partials_once = elim (split (any null (sets_of F P))) [ inl e ↦ rw (partials_of, e) nil | inr e ↦ rw (partials_of, e) (upto_once F P (sets_of F P) (order_of F P) arranged.once sets F.graph.size (omega (arith, arranged.whole))) ]
    where
      sets : (u : ℕ) → Ordered ◌≢◌ (set_of (sets_of F P) u)
      sets u = elim (dec_lt u F.graph.size) [ yes h ↦ weaken_ordered (sets_good F P u h).0 (λ x y i j l e. omega arith) | no h ↦ rw (get_or-eq_default (sets_of F P) [] {n = u} (omega (arith, sets_length F P))) nil ]
