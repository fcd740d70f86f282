-- A row is a place exactly where its kinds fit, its entries are apart and its lines are kept. Assumes nothing.
use Rattle.std.proofs.Common.{ℕ, ◌<◌, ◌≤◌, ◌≡◌, true, List, length, get_or, take, zero, suc, [], ◌∷◌, inl, inr, ap, sym, subst, ◌∙◌, arith}
use mathlib.Core.List.{Memᴰ}
use mathlib.Core.List.Memᴰ
use borrow.Author.Tests.{eqb-true, eq-eqb}
use Rattle.laws.specs.Lists.{has}
use Rattle.rules.specs.Graph.{joined}
use Rattle.rules.specs.Place.{Figure, Patch, Place, entry, kind_fits}
use Rattle.patch.specs.Tables.{run_at}
use Rattle.row_tests.specs.declared.place.Ends.{Ends}
use Rattle.row_tests.specs.Against.{Within, KindsFit, Apart, EndsBelow, LinesKept, pair_of, Against}

module _ {F : Figure} {P : Patch} {t : List ℕ} {size : ℕ} {kinds : List ℕ} {lines : List Ends} {n : ℕ} (A : Against F P t size kinds lines n) where
  -- a line of the list is one of the figure's
  of_figure : {l : Ends} → Memᴰ l lines → Memᴰ (pair_of l) F.graph.lines
  of_figure i = rw A.ends_held.ends (Memᴰ.map pair_of i)

  -- what the leaf tests ask
  size_small : size ≤ 512
  size_small = omega (arith, A.tables.size, A.patch_size)

  pub ends_below : EndsBelow n lines
  ends_below l h = let i = of_figure h in (omega (arith, A.drawn.lower _ i, A.drawn.inside _ i, A.figure_size), omega (arith, A.drawn.inside _ i, A.figure_size))

  module _ (row : List ℕ) (long : n ≡ length row) where
    pub fit_within : KindsFit t size kinds row → Within row
    fit_within K u h = omega (arith, (K u h).0, size_small)

    -- a line of the patch and of the tables
    line_joined : (l : Ends) → Memᴰ l lines → Within row → joined P.graph (entry row l.first) (entry row l.second) ≡ has (entry row l.second) (run_at t (entry row l.first))
    line_joined l i W = ap (has (entry row l.second)) (sym (A.tables.runs (entry row l.first) (W l.first (omega (arith, (ends_below l i).0)))))

    -- a place passes each test
    pub place_fits : Place F P row → KindsFit t size kinds row
    unfolding kind_fits
    place_fits p u h =
        let k : u < F.graph.size = omega (arith, A.figure_size) in
        let b : entry row u < size = omega (arith, p.inside u k, A.patch_size) in
        (b, A.tables.kinds (entry row u) (omega (arith, size_small)) ∙ sym (eqb-true _ _ (p.kinds u k)) ∙ sym (A.kinds_held u (omega arith)))

    pub place_apart : Place F P row → Apart row
    place_apart p u w h k = p.apart u w (omega (arith, A.figure_size)) (omega (arith, A.figure_size))

    pub place_lines : Place F P row → LinesKept t lines row
    place_lines p l i = sym (line_joined l i (fit_within (place_fits p))) ∙ p.lines _ (of_figure i)

    -- and what passes them all is a place
    pub tests_place : KindsFit t size kinds row → Apart row → LinesKept t lines row → Place F P row
    unfolding kind_fits
    tests_place K apart kept = record {
      whole = sym long ∙ sym A.figure_size;
      inside = λ u h. omega (arith, (K u (here u h)).0, A.patch_size);
      kinds = λ u h. eq-eqb _ _ (sym (A.kinds_held u (omega (arith, A.figure_size))) ∙ sym (K u (here u h)).1 ∙ A.tables.kinds (entry row u) (fit_within K u (here u h)));
      apart = λ u w h k. apart u w (here u h) (here w k);
      lines = λ q i. let e = Memᴰ.of_map pair_of lines (rw A.ends_held.ends at i) in subst (λ q. joined P.graph (entry row q.0) (entry row q.1) ≡ true) e.2 (line_joined e.0 e.1 (fit_within K) ∙ kept e.0 e.1);
    }
      where
        here : (u : ℕ) → u < F.graph.size → u < length row
        here u h = omega (arith, A.figure_size)

-- one line more is kept
pub kept_more : (t : List ℕ) (lines : List Ends) (row : List ℕ) (i : ℕ) (d : Ends) → i < length lines → LinesKept t (take i lines) row → has (entry row (get_or lines i d).second) (run_at t (entry row (get_or lines i d).first)) ≡ true → LinesKept t (take (suc i) lines) row
kept_more t [] row i d h K here l m = absurd (omega arith)
kept_more t (x ∷ lines) row zero d h K here l m = elim (Memᴰ.cases_cons m) [ inl e ↦ subst (λ l. has (entry row l.second) (run_at t (entry row l.first)) ≡ true) (sym e) here | inr k ↦ absurd (Memᴰ.not-nil k) ]
kept_more t (x ∷ lines) row (suc i) d h K here l m = elim (Memᴰ.cases_cons m) [ inl e ↦ K l (Memᴰ.head e) | inr k ↦ kept_more t lines row i d (omega arith) (λ l j. K l (Memᴰ.tail j)) here l k ]
