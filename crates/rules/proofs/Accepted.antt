-- The checks of a sheet pass exactly where it is as they say, and then its graph is drawn.
use Prim.Native.Nat.{ℕ, zero, suc, ◌+◌, ◌*◌, ◌-◌, ◌≤◌, ◌<◌}
use mathlib.Core.Path.{◌≡◌, refl, ap, sym, ◌∙◌}
use mathlib.Core.Logic.{◌≢◌, ◌⊎◌, inl, inr, ⊎_elim, ◌↔◌}
use mathlib.Core.List.Memᴰ
use mathlib.Core.List.{List, [], ◌∷◌, ◌++◌, map, Memᴰ}
use mathlib.Core.Bool.{true, false, or-true, and-eq-true_iff}
use mathlib.Core.Option.{Option, some, none}
use native.Mathlib.Omega.{arith}
use borrow.Author.Tests.{ltb-true, leb-true, eqb-true, lt-ltb, le-leb, eq-eqb}
use lib.Dec.{eqb, ltb, leb}
use lib.ListN.{length}
use Rattle.laws.specs.Lists.{all, Ordered, nil, cons}
use Rattle.rules.specs.Graph.{Drawn, Connected}
use Rattle.rules.specs.Place.{Checked}
use Rattle.rules.specs.Sheet.{Line, vertex_count, line_count, bit_length, byte_length, bit_at, held, kinds_held}
use Rattle.rules.specs.Live.{live}
use Rattle.rules.specs.Checks.{Verdict, lineless, Check, verdict, Limits, figure_limits, patch_limits, counted, cleared, line_fits, comes_after, follows, Drawable, fit_check, order_check, line_checks, sheet_checks, sheet_verdict, Accepted}
use Rattle.rules.specs.Calls.{ends_of, graph_of, figure_of, patch_of, connected, figure_checks, pair_checks, search_checks, search_refusals, Handed}
use Rattle.laws.proofs.Lists.{split, has_out, keep_out, keep_ordered, all_in, all_out, upto_in, upto_out, length_map_upto}
use Rattle.rules.proofs.Breadth.{connected_iff}
use Rattle.rules.proofs.Verdicts.{verdict_passes, verdict_fails, verdict_none, verdict_passed, verdict_cons, Numbered, numbered_cons, numbered_append, numbered_nil, Positive, positive_append, verdict_first, verdict_rest, verdict_append}

-- the numbers of the checks of lines and of a sheet
pub lines_numbered : {ns : List ℕ} (ten n : ℕ) → Memᴰ (ten + 4) ns → Memᴰ (ten + 5) ns → (j : ℕ) (before : Option Line) (ls : List Line) → Numbered ns (line_checks ten n j before ls)
lines_numbered ten n f g j before [] = numbered_nil
lines_numbered ten n f g j before (l ∷ ls) = numbered_cons f (numbered_cons g (lines_numbered ten n f g (suc j) (some l) ls))

pub sheet_numbered : {ns : List ℕ} (L : Limits) → ((i : ℕ) → i < 5 → Memᴰ (L.ten + suc i) ns) → (bytes : List ℕ) → Numbered ns (sheet_checks L bytes)
sheet_numbered L each bytes = numbered_cons (each 0 (omega arith)) (numbered_cons (each 1 (omega arith)) (numbered_cons (each 0 (omega arith)) (numbered_cons (each 2 (omega arith)) (lines_numbered L.ten _ (each 3 (omega arith)) (each 4 (omega arith)) 0 none (held bytes).lines))))

-- none of them is 0
pub lines_positive : (ten n j : ℕ) (before : Option Line) (ls : List Line) → Positive (line_checks ten n j before ls)
lines_positive ten n j before [] = tt
lines_positive ten n j before (l ∷ ls) = (omega arith, (omega arith, lines_positive ten n (suc j) (some l) ls))

pub sheet_positive : (L : Limits) (bytes : List ℕ) → Positive (sheet_checks L bytes)
sheet_positive L bytes = (omega arith, (omega arith, (omega arith, (omega arith, lines_positive L.ten (vertex_count bytes) 0 none (held bytes).lines))))

-- a sheet's checks, and then others: what the sheet's answer stands, and after 0 the others say
module _ (L : Limits) (bytes : List ℕ) (ds : List Check) where
  pub sheet_first : {v : Verdict} → v ≡ sheet_verdict L bytes → (v.number ≡ 0 → ⊥) → v ≡ verdict (sheet_checks L bytes ++ ds)
  unfolding sheet_verdict
  sheet_first e f = e ∙ sym (verdict_first (sheet_checks L bytes) ds (λ z. f (ap (λ w. w.number) e ∙ z)))

  pub sheet_rest : (sheet_verdict L bytes).number ≡ 0 → verdict (sheet_checks L bytes ++ ds) ≡ verdict ds
  unfolding sheet_verdict
  sheet_rest = verdict_rest (sheet_checks L bytes) ds (sheet_positive L bytes)

-- what the test of a line's fit says
fits_iff : (n : ℕ) (l : Line) → (line_fits n l ≡ true) ↔ ((l.type ≤ 2) × (l.first < l.second) × (l.second < n))
fits_iff n l = (there, λ h. rw (le-leb l.type 2 h.0, lt-ltb l.first n (omega arith), lt-ltb l.second n h.2, lt-ltb l.first l.second h.1))
  where
    there : line_fits n l ≡ true → (l.type ≤ 2) × (l.first < l.second) × (l.second < n)
    there e = let a = (and-eq-true_iff (leb l.type 2) _).0 e in let b = (and-eq-true_iff (ltb l.first n) _).0 a.1 in let c = (and-eq-true_iff (ltb l.second n) _).0 b.1 in (leb-true l.type 2 a.0, ltb-true l.first l.second c.1, ltb-true l.second n c.0)

-- what it says that a line comes after another, and that is carried on
pub after_out : (k l : Line) → comes_after k l ≡ true → (k.first < l.first) ⊎ ((k.first ≡ l.first) × (k.second < l.second))
after_out k l e = elim (split (ltb k.first l.first)) [
  | inl t ↦ inl (ltb-true _ _ t)
  | inr t ↦ let b = (and-eq-true_iff (eqb k.first l.first) _).0 (rw t at e) in inr (eqb-true _ _ b.0, ltb-true _ _ b.1)
]

after_in : (k l : Line) → (k.first < l.first) ⊎ ((k.first ≡ l.first) × (k.second < l.second)) → comes_after k l ≡ true
after_in k l (inl h) = rw (lt-ltb _ _ h)
after_in k l (inr h) = rw (eq-eqb _ _ h.0, lt-ltb _ _ h.1, or-true)

after_on : (k l p : Line) → comes_after k l ≡ true → comes_after l p ≡ true → comes_after k p ≡ true
after_on k l p e f = elim (after_out k l e) [
  | inl a ↦ elim (after_out l p f) [ inl b ↦ after_in k p (inl (omega arith)) | inr b ↦ after_in k p (inl (omega arith)) ]
  | inr a ↦ elim (after_out l p f) [ inl b ↦ after_in k p (inl (omega arith)) | inr b ↦ after_in k p (inr (omega arith)) ]
]

-- lines pass their checks exactly where a sheet may have them
module _ (ten n : ℕ) where
  lines_out : (j : ℕ) (before : Option Line) (ls : List Line) → (verdict (line_checks ten n j before ls)).number ≡ 0 → Drawable n ls × ((l : Line) → Memᴰ l ls → follows before l ≡ true)
  lines_out j before [] v = (record { fit = λ l m. absurd (Memᴰ.not-nil m); ascend = nil }, λ l m. absurd (Memᴰ.not-nil m))
  lines_out j before (l ∷ ls) v =
      let a = (verdict_cons (fit_check ten n j l) (order_check ten j before l ∷ line_checks ten n (suc j) (some l) ls) (omega arith)).0 v in
      let b = (verdict_cons (order_check ten j before l) (line_checks ten n (suc j) (some l) ls) (omega arith)).0 a.1 in
      let r = lines_out (suc j) (some l) ls b.1 in (
        record {
          fit = λ k m. ⊎_elim (λ e. rw e ((fits_iff n l).0 a.0)) (r.0.fit k) (Memᴰ.cases_cons m);
          ascend = cons r.1 r.0.ascend;
        },
        λ k m. ⊎_elim (λ e. rw e b.0) (λ i. carried before b.0 k (r.1 k i)) (Memᴰ.cases_cons m),
      )
    where
      carried : (before : Option Line) → follows before l ≡ true → (k : Line) → comes_after l k ≡ true → follows before k ≡ true
      carried none e k f = refl
      carried (some p) e k f = after_on p l k e f

  lines_in : (j : ℕ) (before : Option Line) {ls : List Line} → ((l : Line) → Memᴰ l ls → line_fits n l ≡ true) → Ordered (λ k l. comes_after k l ≡ true) ls → ((l : Line) → Memᴰ l ls → follows before l ≡ true) → (verdict (line_checks ten n j before ls)).number ≡ 0
  unfolding verdict
  lines_in j before fit nil f = refl
  lines_in j before fit (cons {x = l} g o) f = rw (fit l (Memᴰ.head refl), f l (Memᴰ.head refl)) (lines_in (suc j) (some l) (λ k m. fit k (Memᴰ.tail m)) o g)

  pub lines_iff : (ls : List Line) → ((verdict (line_checks ten n 0 none ls)).number ≡ 0) ↔ Drawable n ls
  lines_iff ls = (λ v. (lines_out 0 none ls v).0, λ D. lines_in 0 none (λ l m. (fits_iff n l).1 (D.fit l m)) D.ascend (λ l m. refl))

-- the counts are within the limits exactly where their test passes
pub counted_iff : (L : Limits) (n m : ℕ) → (counted L n m ≡ true) ↔ ((0 < n) × (n ≤ L.vertices) × (m ≤ L.lines))
counted_iff L n m = (λ e. let a = (and-eq-true_iff _ _).0 e in let b = (and-eq-true_iff _ _).0 a.1 in (leb-true _ _ a.0, leb-true _ _ b.0, leb-true _ _ b.1), λ h. rw (le-leb 1 n h.0, le-leb _ _ h.1, le-leb _ _ h.2))

module _ (L : Limits) (bytes : List ℕ) where
  abbrev n : ℕ
  n = vertex_count bytes

  abbrev m : ℕ
  m = line_count bytes

  -- the filling is clear exactly where its test passes
  cleared_iff : (cleared bytes ≡ true) ↔ ((i : ℕ) → bit_length n m ≤ i → i < 8 * length bytes → bit_at bytes i ≡ 0)
  cleared_iff = (λ e i h k. eqb-true _ _ (all_out _ (upto_in (8 * length bytes - bit_length n m) (bit_length n m) h (omega arith)) e), λ f. all_in _ _ (λ i k. let t = upto_out (8 * length bytes - bit_length n m) (bit_length n m) k in eq-eqb _ _ (f i t.0 (omega arith))))

  -- a sheet is accepted exactly where it is as the checks say
  pub accepted_iff : ((verdict (sheet_checks L bytes)).number ≡ 0) ↔ Accepted L bytes
  unfolding verdict
  accepted_iff = (there, back)
    where
      rest₃ : List Check
      rest₃ = line_checks L.ten n 0 none (held bytes).lines

      rest₂ : List Check
      rest₂ = (cleared bytes, lineless (L.ten + 3)) ∷ rest₃

      rest₁ : List Check
      rest₁ = (eqb (length bytes) (byte_length n m), lineless (L.ten + 1)) ∷ rest₂

      there : (verdict (sheet_checks L bytes)).number ≡ 0 → Accepted L bytes
      there v =
          let a = (verdict_cons (leb 3 (length bytes), lineless (L.ten + 1)) ((counted L n m, lineless (L.ten + 2)) ∷ rest₁) (omega arith)).0 v in
          let b = (verdict_cons (counted L n m, lineless (L.ten + 2)) rest₁ (omega arith)).0 a.1 in
          let c = (verdict_cons (eqb (length bytes) (byte_length n m), lineless (L.ten + 1)) rest₂ (omega arith)).0 b.1 in
          let d = (verdict_cons (cleared bytes, lineless (L.ten + 3)) rest₃ (omega arith)).0 c.1 in
          let t = (counted_iff L n m).0 b.0 in
          record { vertex = t.0; vertices = t.1; lines = t.2; long = eqb-true _ _ c.0; filling = cleared_iff.0 d.0; drawn = (lines_iff L.ten n _).0 d.1 }

      back : Accepted L bytes → (verdict (sheet_checks L bytes)).number ≡ 0
      back A = rw (le-leb 3 (length bytes) (omega arith), (counted_iff L n m).1 (A.vertex, A.vertices, A.lines), eq-eqb _ _ A.long, cleared_iff.1 A.filling) ((lines_iff L.ten n _).1 A.drawn)

-- a sheet's check answers 0 exactly where the sheet is accepted
pub sheet_accepted : (L : Limits) (bytes : List ℕ) → ((sheet_verdict L bytes).number ≡ 0) ↔ Accepted L bytes
unfolding sheet_verdict
sheet_accepted L bytes = accepted_iff L bytes

-- and then it names no line
pub sheet_passed : (L : Limits) (bytes : List ℕ) → (sheet_verdict L bytes).number ≡ 0 → sheet_verdict L bytes ≡ lineless 0
unfolding sheet_verdict
sheet_passed L bytes = verdict_passed (sheet_checks L bytes) (sheet_positive L bytes)

-- lines each after the one before it are different as pairs of ends
pairs_once : {ls : List Line} → Ordered (λ k l. comes_after k l ≡ true) ls → Ordered ◌≢◌ (map ends_of ls)
pairs_once nil = nil
pairs_once (cons {x = k} {l = ls} g o) = cons {x = ends_of k} (λ p m e. let t = Memᴰ.of_map ends_of ls m in ⊎_elim (λ h. omega (arith, ap (λ q. q.0) (e ∙ sym t.2))) (λ h. omega (arith, ap (λ q. q.1) (e ∙ sym t.2))) (after_out k t.0 (g t.0 t.1))) (pairs_once o)

module _ {L : Limits} {bytes : List ℕ} (A : Accepted L bytes) where
  held_size : (graph_of (held bytes)).size ≡ vertex_count bytes
  unfolding kinds_held
  held_size = length_map_upto _ (vertex_count bytes) 0

  -- the graph of lines of an accepted sheet, in their order, is drawn
  accepted_drawn : (ls : List Line) → ((l : Line) → Memᴰ l ls → Memᴰ l (held bytes).lines) → Ordered (λ k l. comes_after k l ≡ true) ls → Drawn (graph_of (record { kinds = (held bytes).kinds; lines = ls }))
  accepted_drawn ls among ascend = record {
    lower = λ p m. let t = Memᴰ.of_map ends_of ls m in rw (sym t.2) (A.drawn.fit t.0 (among t.0 t.1)).1;
    inside = λ p m. let t = Memᴰ.of_map ends_of ls m in rw (held_size, sym t.2) (A.drawn.fit t.0 (among t.0 t.1)).2;
    once = pairs_once ascend;
  }

pub figure_drawn : (figure : List ℕ) → Accepted figure_limits figure → (0 < (figure_of figure).graph.size) × Drawn (figure_of figure).graph
unfolding figure_of
figure_drawn figure A = (rw (held_size A) A.vertex, accepted_drawn A (held figure).lines (λ l m. m) A.drawn.ascend)

pub patch_drawn : (patch : List ℕ) → Accepted patch_limits patch → ((patch_of patch).graph.size ≤ 512) × Drawn (patch_of patch).graph
unfolding patch_of
patch_drawn patch A = (rw (held_size A) A.vertices, accepted_drawn A (live (held patch)).lines (λ l m. (keep_out _ (held patch).lines m).0) (keep_ordered _ A.drawn.ascend))

-- five numbers of a list
pub tens : {ns : List ℕ} (ten : ℕ) → Memᴰ (ten + 1) ns → Memᴰ (ten + 2) ns → Memᴰ (ten + 3) ns → Memᴰ (ten + 4) ns → Memᴰ (ten + 5) ns → (i : ℕ) → i < 5 → Memᴰ (ten + suc i) ns
tens ten a b c d e zero h = a
tens ten a b c d e (suc zero) h = b
tens ten a b c d e (suc (suc zero)) h = c
tens ten a b c d e (suc (suc (suc zero))) h = d
tens ten a b c d e (suc (suc (suc (suc zero)))) h = e
tens ten a b c d e (suc (suc (suc (suc (suc i))))) h = absurd (omega arith)

-- the checks of the search, part by part
pub figure_sheet_numbered : (figure : List ℕ) → Numbered search_refusals (sheet_checks figure_limits figure)
figure_sheet_numbered = sheet_numbered figure_limits (tens 10 (has_out 11 _ refl) (has_out 12 _ refl) (has_out 13 _ refl) (has_out 14 _ refl) (has_out 15 _ refl))

pub figure_numbered : (figure : List ℕ) → Numbered search_refusals (figure_checks figure)
figure_numbered figure = numbered_append (sheet_checks figure_limits figure) (figure_sheet_numbered figure) (numbered_cons (has_out 16 _ refl) numbered_nil)

pub figure_positive : (figure : List ℕ) → Positive (figure_checks figure)
figure_positive figure = positive_append (sheet_checks figure_limits figure) _ (sheet_positive figure_limits figure) (omega arith, tt)

pub patch_numbered : (patch : List ℕ) → Numbered search_refusals (sheet_checks patch_limits patch)
patch_numbered = sheet_numbered patch_limits (tens 20 (has_out 21 _ refl) (has_out 22 _ refl) (has_out 23 _ refl) (has_out 24 _ refl) (has_out 25 _ refl))

-- a patch has as many vertices as its sheet says, and a figure too
pub patch_size : (patch : List ℕ) → (patch_of patch).graph.size ≡ vertex_count patch
unfolding patch_of kinds_held
patch_size patch = length_map_upto _ (vertex_count patch) 0

pub figure_size : (figure : List ℕ) → (figure_of figure).graph.size ≡ vertex_count figure
unfolding figure_of kinds_held
figure_size figure = length_map_upto _ (vertex_count figure) 0

-- a search that is handed what the checks say has a figure that passes the test
pub handed_connected : {figure patch memory : List ℕ} → Handed figure patch memory → connected (figure_of figure) ≡ true
handed_connected {figure} H = let D = figure_drawn figure H.figure in (connected_iff (figure_of figure) D.0 D.1).1 H.connected

-- the checks of a figure, of a patch, and then one more
module _ (figure patch : List ℕ) (last : Check) where
  abbrev pair : Verdict
  pair = verdict (pair_checks figure patch last)

  -- the figure's say first
  pub pair_figure : {v : Verdict} → v ≡ verdict (figure_checks figure) → (v.number ≡ 0 → ⊥) → v ≡ pair
  pair_figure e f = e ∙ sym (verdict_first (figure_checks figure) _ (λ z. f (ap (λ w. w.number) e ∙ z)))

  module _ (good : (verdict (figure_checks figure)).number ≡ 0) where
    past_figure : pair ≡ verdict (sheet_checks patch_limits patch ++ last ∷ [])
    past_figure = verdict_rest (figure_checks figure) _ (figure_positive figure) good

    -- then the patch's
    pub pair_patch : {v : Verdict} → v ≡ sheet_verdict patch_limits patch → (v.number ≡ 0 → ⊥) → v ≡ pair
    pair_patch e f = sheet_first patch_limits patch (last ∷ []) e f ∙ sym past_figure

    module _ (sound : (sheet_verdict patch_limits patch).number ≡ 0) where
      past_patch : pair ≡ verdict (last ∷ [])
      past_patch = past_figure ∙ sheet_rest patch_limits patch (last ∷ []) sound

      -- then the last
      pub pair_last : last.0 ≡ false → last.1 ≡ pair
      pair_last e = sym (past_patch ∙ verdict_fails last [] e)

      -- or none
      pub pair_none : last.0 ≡ true → lineless 0 ≡ pair
      pair_none e = sym (past_patch ∙ verdict_passes last [] e ∙ verdict_none)

  -- and they pass exactly where all three do
  pub pair_passes : (pair.number ≡ 0) ↔ (((verdict (figure_checks figure)).number ≡ 0) × ((verdict (sheet_checks patch_limits patch)).number ≡ 0) × ((verdict (last ∷ [])).number ≡ 0))
  pair_passes = (λ z. let a = f.0 z in let b = p.0 a.1 in (a.0, b.0, b.1), λ h. f.1 (h.0, p.1 (h.1, h.2)))
    where
      p : ((verdict (sheet_checks patch_limits patch ++ last ∷ [])).number ≡ 0) ↔ (((verdict (sheet_checks patch_limits patch)).number ≡ 0) × ((verdict (last ∷ [])).number ≡ 0))
      p = verdict_append (sheet_checks patch_limits patch) (last ∷ []) (sheet_positive patch_limits patch)

      f : (pair.number ≡ 0) ↔ (((verdict (figure_checks figure)).number ≡ 0) × ((verdict (sheet_checks patch_limits patch ++ last ∷ [])).number ≡ 0))
      f = verdict_append (figure_checks figure) _ (figure_positive figure)

-- a figure's checks pass exactly where its sheet is accepted and the figure is connected
pub figure_iff : (figure : List ℕ) → ((verdict (figure_checks figure)).number ≡ 0) ↔ (Accepted figure_limits figure × Connected (figure_of figure).graph)
unfolding verdict
figure_iff figure = (
  λ v. let b = s.0 v in let F = (accepted_iff figure_limits figure).0 b.0 in (F, (linked F).0 ((verdict_cons (connected (figure_of figure), lineless 16) [] (omega arith)).0 b.1).0),
  λ h. s.1 ((accepted_iff figure_limits figure).1 h.0, rw ((linked h.0).1 h.1)),
)
  where
    linked : Accepted figure_limits figure → (connected (figure_of figure) ≡ true) ↔ Connected (figure_of figure).graph
    linked A = let D = figure_drawn figure A in connected_iff (figure_of figure) D.0 D.1

    s : ((verdict (figure_checks figure)).number ≡ 0) ↔ (((verdict (sheet_checks figure_limits figure)).number ≡ 0) × ((verdict ((connected (figure_of figure), lineless 16) ∷ [])).number ≡ 0))
    s = verdict_append (sheet_checks figure_limits figure) _ (sheet_positive figure_limits figure)

module _ (figure patch memory : List ℕ) where
  pub search_numbered : Numbered search_refusals (search_checks figure patch memory)
  search_numbered = numbered_append (figure_checks figure) (figure_numbered figure) (numbered_append (sheet_checks patch_limits patch) (patch_numbered patch) (numbered_cons (has_out 31 _ refl) numbered_nil))

  -- a search is not refused exactly where it is handed what the checks say
  pub handed_iff : ((verdict (search_checks figure patch memory)).number ≡ 0) ↔ Handed figure patch memory
  unfolding verdict
  handed_iff = (
    λ v. let h = all.0 v in let F = (figure_iff figure).0 h.0 in record { figure = F.0; connected = F.1; patch = (accepted_iff patch_limits patch).0 h.1; memory = leb-true 22_528 _ ((verdict_cons (leb 22_528 (length memory), lineless 31) [] (omega arith)).0 h.2).0 },
    λ H. all.1 ((figure_iff figure).1 (H.figure, H.connected), (accepted_iff patch_limits patch).1 H.patch, rw (le-leb 22_528 _ H.memory)),
  )
    where
      all : ((verdict (search_checks figure patch memory)).number ≡ 0) ↔ (((verdict (figure_checks figure)).number ≡ 0) × ((verdict (sheet_checks patch_limits patch)).number ≡ 0) × ((verdict ((leb 22_528 (length memory), lineless 31) ∷ [])).number ≡ 0))
      all = pair_passes figure patch (leb 22_528 (length memory), lineless 31)

-- and then the figure is what the demands ask for
pub handed_checked : {figure patch memory : List ℕ} → Handed figure patch memory → Checked (figure_of figure)
handed_checked {figure} H = let D = figure_drawn figure H.figure in record { vertex = D.0; drawn = D.1; connected = H.connected }
