-- What the row check's answers mean, that each is the only one, and that every list of the search is accepted. Assumes nothing.
use Prim.Native.Nat.{ℕ, zero, suc, ◌+◌, ◌*◌, ◌%◌, ◌≤◌, ◌<◌}
use mathlib.Core.Path.{◌≡◌, refl, ap, sym, subst, ◌∙◌}
use mathlib.Core.Logic.{◌≢◌, ◌⊎◌, inl, inr, ◌↔◌}
use mathlib.Core.Bool.{false}
use mathlib.Core.List.Memᴰ
use mathlib.Core.List.{List, [], ◌∷◌, Memᴰ}
use native.Mathlib.Nat.{zero-mul, suc-mul, add_comm, mul-le-mul_right, mul-mod_left, mul-div_cancel}
use native.Mathlib.Decide.{dec_lt}
use native.Mathlib.Omega.{arith}
use borrow.Author.Tests.{ltb-true, eq-eqb}
use lib.Dec.{eqb, ltb}
use lib.ListN.{length, get_or, take, drop}
use lib.Seq.{take-take, drop-drop, length-take-le}
use Rattle.laws.proofs.Lists.{has_out, all_out, get_or_in, ordered_get_or}
use Rattle.rules.specs.Checks.{Verdict, no_line, lineless, verdict, figure_limits, patch_limits, sheet_checks}
use Rattle.rules.specs.Place.{Figure, Patch, Place}
use Rattle.rules.specs.Calls.{figure_of, patch_of, figure_checks, Handed, Searched, Taken, search, LineOfTwo, rows_in, found}
use Rattle.rules.specs.RowCheck.{row_at, Good, Repeats, Reached, RowsTested, all_good, not_a_place, repeated, row_checks, row_count, RowsChecked, refused, tested, row_refusals}
use Rattle.rules.proofs.Verdicts.{Numbered, numbered_cons, numbered_append, numbered_nil, verdict_number}
use Rattle.rules.proofs.Accepted.{sheet_numbered, tens, accepted_iff, pair_passes, figure_iff, handed_checked}
use Rattle.rules.proofs.Offending.{two_none, pair_told}
use Rattle.rules.proofs.Calls as calls
use Rattle.rules.proofs.Demands as demands

-- the numbers of the checks before the rows'
abbrev before_rows : List ℕ
before_rows = 11 ∷ 12 ∷ 13 ∷ 14 ∷ 15 ∷ 16 ∷ 21 ∷ 22 ∷ 23 ∷ 24 ∷ 25 ∷ 42 ∷ []

module _ (F : Figure) (P : Patch) (rows : List ℕ) where
  -- a row is bad
  abbrev Bad : ℕ → Type 0
  Bad i = (Place F P (row_at F.graph.size rows i) → ⊥) ⊎ Repeats F.graph.size rows i

  -- no row among good ones is bad
  good_not_bad : (k i : ℕ) → Good F P rows k → i < k → Bad i → ⊥
  good_not_bad k i G h (inl un) = un (G.places i h)
  good_not_bad k i G h (inr r) = G.different r.0 i r.1 h r.2

  module _ {n : ℕ} where
    -- so there is one first bad row
    first_bad : (i j : ℕ) → Reached F P rows n i → Reached F P rows n j → Bad i → Bad j → i ≡ j
    first_bad i j R S b d = elim (dec_lt i j) [
      | yes h ↦ absurd (good_not_bad j i S.before h b)
      | no h ↦ elim (dec_lt j i) [ yes l ↦ absurd (good_not_bad i j R.before l d) | no l ↦ omega arith ]
    ]

    -- two answers to the same rows are one
    one_test : {k i k' i' : ℕ} → RowsTested F P rows n k i → RowsTested F P rows n k' i' → (k ≡ k') × (i ≡ i')
    one_test (all_good e r G) (all_good e' r' G') = (e ∙ sym e', r ∙ sym r')
    one_test (all_good e r G) (not_a_place e' R un) = absurd (good_not_bad _ _ G R.there (inl un))
    one_test (all_good e r G) (repeated e' R p s) = absurd (good_not_bad _ _ G R.there (inr s))
    one_test (not_a_place e R un) (all_good e' r G) = absurd (good_not_bad _ _ G R.there (inl un))
    one_test (not_a_place e R un) (not_a_place e' R' un') = (e ∙ sym e', first_bad _ _ R R' (inl un) (inl un'))
    one_test (not_a_place e R un) (repeated e' R' p s) = absurd (un (subst (λ j. Place F P (row_at F.graph.size rows j)) (sym (first_bad _ _ R R' (inl un) (inr s))) p))
    one_test (repeated e R p s) (all_good e' r G) = absurd (good_not_bad _ _ G R.there (inr s))
    one_test (repeated e R p s) (not_a_place e' R' un) = absurd (un (subst (λ j. Place F P (row_at F.graph.size rows j)) (first_bad _ _ R R' (inr s) (inl un)) p))
    one_test (repeated e R p s) (repeated e' R' p' s') = (e ∙ sym e', first_bad _ _ R R' (inr s) (inr s'))

module _ (figure patch rows : List ℕ) where
  -- the figure, the patch, the checks before the rows' and the number of rows
  abbrev F : Figure
  F = figure_of figure

  abbrev P : Patch
  P = patch_of patch

  abbrev first : Verdict
  first = verdict (row_checks figure patch rows)

  abbrev count : ℕ
  count = row_count figure rows

  -- two answers to the same figure, patch and rows are one
  pub one_answer : {v v' : Verdict} {i i' : ℕ} → RowsChecked figure patch rows v i → RowsChecked figure patch rows v' i' → (v ≡ v') × (i ≡ i')
  one_answer (refused a b c) (refused a' b' c') = (b ∙ sym b', c ∙ sym c')
  one_answer (refused a b c) (tested p l t) = absurd (a (ap (λ v. v.number) b ∙ p))
  one_answer (tested p l t) (refused a b c) = absurd (a (ap (λ v. v.number) b ∙ p))
  one_answer (tested p l t) (tested p' l' t') = let o = one_test F P rows t t' in (λ i. record { number = o.0 i; line = (l ∙ sym l') i }, o.1)

  -- the checks before the rows' have these numbers, and none has 43 or 44
  checks_numbered : Numbered before_rows (row_checks figure patch rows)
  unfolding row_checks
  checks_numbered =
      numbered_append
      (figure_checks figure)
      (numbered_append (sheet_checks figure_limits figure) (sheet_numbered figure_limits (tens 10 (has_out 11 _ refl) (has_out 12 _ refl) (has_out 13 _ refl) (has_out 14 _ refl) (has_out 15 _ refl)) figure) (numbered_cons (has_out 16 _ refl) numbered_nil))
      (numbered_append (sheet_checks patch_limits patch) (sheet_numbered patch_limits (tens 20 (has_out 21 _ refl) (has_out 22 _ refl) (has_out 23 _ refl) (has_out 24 _ refl) (has_out 25 _ refl)) patch) (numbered_cons (has_out 42 _ refl) numbered_nil))

  checks_below : first.number < 43
  checks_below = elim (verdict_number _ checks_numbered) [ inl e ↦ omega arith | inr m ↦ ltb-true _ 43 (all_out (λ k. ltb k 43) m refl) ]

  -- two answers that are one have the same number
  by_number : {v w : Verdict} {i j : ℕ} → (v ≡ w) × (i ≡ j) → (v.number ≡ w.number) × (i ≡ j)
  by_number h = (ap (λ x. x.number) h.0, h.1)

  module _ {v : Verdict} {i : ℕ} (answer : RowsChecked figure patch rows v i) where
    -- accepted exactly if the checks before the rows' pass, every row is a place and no two rows are equal
    pub rows_accepted_exactly : (v.number ≡ 0) ↔ ((first.number ≡ 0) × Good F P rows count)
    rows_accepted_exactly = (there answer, λ g. ap (λ w. w.number) (one_answer {v' = lineless 0} {i' = 0} answer (tested g.0 refl (all_good refl refl g.1))).0)
      where
        there : RowsChecked figure patch rows v i → v.number ≡ 0 → (first.number ≡ 0) × Good F P rows count
        there (refused a b c) z = absurd (a z)
        there (tested p l (all_good e r G)) z = (p, G)
        there (tested p l (not_a_place e R un)) z = absurd (omega arith)
        there (tested p l (repeated e R q s)) z = absurd (omega arith)

    -- 43 and row j exactly if row j is there, every row before it is good, and it is not a place
    pub not_a_place_exactly : (j : ℕ) → ((v.number ≡ 43) × (i ≡ j)) ↔ ((first.number ≡ 0) × Reached F P rows count j × (Place F P (row_at F.graph.size rows j) → ⊥))
    not_a_place_exactly j = (λ h. there answer h.0 h.1, λ r. by_number (one_answer {v' = lineless 43} {i' = j} answer (tested r.0 refl (not_a_place refl r.1 r.2))))
      where
        there : RowsChecked figure patch rows v i → v.number ≡ 43 → i ≡ j → (first.number ≡ 0) × Reached F P rows count j × (Place F P (row_at F.graph.size rows j) → ⊥)
        there (refused a b c) e s = absurd (omega (arith, checks_below, ap (λ x. x.number) b))
        there (tested p l (all_good z r G)) e s = absurd (omega arith)
        there (tested p l (not_a_place q R un)) e s = subst (λ m. (first.number ≡ 0) × Reached F P rows count m × (Place F P (row_at F.graph.size rows m) → ⊥)) s (p, R, un)
        there (tested p l (repeated q R s' r)) e s = absurd (omega arith)

    -- 44 and row j exactly if row j is there, every row before it is good, and it is a place that equals an earlier row
    pub repeated_exactly : (j : ℕ) → ((v.number ≡ 44) × (i ≡ j)) ↔ ((first.number ≡ 0) × Reached F P rows count j × Place F P (row_at F.graph.size rows j) × Repeats F.graph.size rows j)
    repeated_exactly j = (λ h. there answer h.0 h.1, λ r. by_number (one_answer {v' = lineless 44} {i' = j} answer (tested r.0 refl (repeated refl r.1 r.2 r.3))))
      where
        there : RowsChecked figure patch rows v i → v.number ≡ 44 → i ≡ j → (first.number ≡ 0) × Reached F P rows count j × Place F P (row_at F.graph.size rows j) × Repeats F.graph.size rows j
        there (refused a b c) e s = absurd (omega (arith, checks_below, ap (λ x. x.number) b))
        there (tested p l (all_good z r G)) e s = absurd (omega arith)
        there (tested p l (not_a_place q R un)) e s = absurd (omega arith)
        there (tested p l (repeated q R s' r)) e s = subst (λ m. (first.number ≡ 0) × Reached F P rows count m × Place F P (row_at F.graph.size rows m) × Repeats F.graph.size rows m) s (p, R, s', r)

    -- any other number, and the line beside it, are what the first check to fail before the rows answers
    pub refused_exactly : (w : Verdict) → w.number ≢ 0 → w.number < 43 → (v ≡ w) ↔ (first ≡ w)
    refused_exactly w some small = (λ e. there answer e (ap (λ x. x.number) e), λ e. (one_answer {v' = w} {i' = 0} answer (refused some (sym e) refl)).0)
      where
        there : RowsChecked figure patch rows v i → v ≡ w → v.number ≡ w.number → first ≡ w
        there (refused a b c) e n = sym b ∙ e
        there (tested p l (all_good z r G)) e n = absurd (some (sym n ∙ z))
        there (tested p l (not_a_place q R un)) e n = absurd (omega arith)
        there (tested p l (repeated q R s' r)) e n = absurd (omega arith)

    -- accepted, or refused by one of the numbers
    pub rows_accepted_or_refused : (v.number ≡ 0) ⊎ Memᴰ v.number row_refusals
    rows_accepted_or_refused = go answer
      where
        go : RowsChecked figure patch rows v i → (v.number ≡ 0) ⊎ Memᴰ v.number row_refusals
        go (refused a b c) = let e = ap (λ x. x.number) b in elim (verdict_number _ checks_numbered) [ inl z ↦ inl (e ∙ z) | inr m ↦ inr (Memᴰ.cast e (Memᴰ.append_left (43 ∷ 44 ∷ []) m)) ]
        go (tested p l (all_good z r G)) = inl z
        go (tested p l (not_a_place q R un)) = inr (Memᴰ.cast q (has_out 43 row_refusals refl))
        go (tested p l (repeated q R s' r)) = inr (Memᴰ.cast q (has_out 44 row_refusals refl))

    -- the line beside the number is the figure's offending line with 14 and 15, the patch's with 24 and 25, and 65,535 with any other number
    pub row_line_named : LineOfTwo figure patch v.number v.line
    unfolding row_checks
    row_line_named = go answer
      where
        none : (k : ℕ) → eqb k 14 ≡ false → eqb k 15 ≡ false → eqb k 24 ≡ false → eqb k 25 ≡ false → v.number ≡ k → v.line ≡ no_line → LineOfTwo figure patch v.number v.line
        none k a b c d e l = rw (e, l) (two_none figure patch k a b c d)

        go : RowsChecked figure patch rows v i → LineOfTwo figure patch v.number v.line
        go (refused a b c) = rw b (pair_told figure patch _ (two_none figure patch 42 refl refl refl refl))
        go (tested p l (all_good z r G)) = none 0 refl refl refl refl z l
        go (tested p l (not_a_place q R un)) = none 43 refl refl refl refl q l
        go (tested p l (repeated q R s' r)) = none 44 refl refl refl refl q l

    -- in every answer but 43 and 44 the row is 0
    pub row_zero : v.number ≢ 43 → v.number ≢ 44 → i ≡ 0
    row_zero = go answer
      where
        go : RowsChecked figure patch rows v i → v.number ≢ 43 → v.number ≢ 44 → i ≡ 0
        go (refused a b c) f g = c
        go (tested p l (all_good z r G)) f g = r
        go (tested p l (not_a_place q R un)) f g = absurd (f q)
        go (tested p l (repeated q R s' r)) f g = absurd (g q)

-- a row of a part of the list is a row of the list
within : (n a b : ℕ) (l : List ℕ) → a + n ≤ b → take n (drop a (take b l)) ≡ take n (drop a l)
within n zero b l h = take-take n b l (omega arith)
within n (suc a) zero l h = absurd (omega arith)
within n (suc a) (suc b) [] h = refl
within n (suc a) (suc b) (x ∷ l) h = within n a b l (omega arith)

row_within : (n r i : ℕ) (l : List ℕ) → i < r → row_at n (take (r * n) l) i ≡ row_at n l i
unfolding row_at
row_within n r i l h = within n (i * n) (r * n) l (omega (arith, suc-mul i n, mul-le-mul_right n h))

-- the rows of a list, one by one
rows_at : (n k i : ℕ) (l : List ℕ) → i < k → get_or (rows_in n k l) i [] ≡ row_at n l i
unfolding row_at
rows_at n zero i l h = absurd (omega arith)
rows_at n (suc k) zero l h = rw zero-mul
rows_at n (suc k) (suc i) l h = rows_at n k i (drop n l) (omega arith) ∙ rw (drop-drop, suc-mul, add_comm (i * n) n)

rows_long : (n k : ℕ) (l : List ℕ) → length (rows_in n k l) ≡ k
rows_long n zero l = refl
rows_long n (suc k) l = ap suc (rows_long n k (drop n l))

-- the checks before the rows' pass where a search was handed its sheets and the list is a whole number of rows
passes : (figure patch memory rows : List ℕ) → Handed figure patch memory → length rows % (figure_of figure).graph.size ≡ 0 → (verdict (row_checks figure patch rows)).number ≡ 0
unfolding row_checks verdict
passes figure patch memory rows H whole = (pair_passes figure patch (eqb (length rows % (figure_of figure).graph.size) 0, lineless 42)).1 ((figure_iff figure).1 (H.figure, H.connected), (accepted_iff patch_limits patch).1 H.patch, rw (eq-eqb _ 0 whole))

-- every list that the search returns is accepted: of any search that was taken, the rows' part of the list
pub own_list_accepted : (figure patch memory list : List ℕ) (allowance : ℕ) → let s = search figure patch memory list allowance in Taken s → RowsChecked figure patch (take (s.rows * (figure_of figure).graph.size) s.list) (lineless 0) 0
own_list_accepted figure patch memory list allowance t = tested (passes figure patch memory rows H (rw long (mul-mod_left r n))) refl (all_good refl refl (record { places = places; different = different }))
  where
    s : Searched
    s = search figure patch memory list allowance

    n : ℕ
    n = (figure_of figure).graph.size

    r : ℕ
    r = s.rows

    rows : List ℕ
    rows = take (r * n) s.list

    H : Handed figure patch memory
    H = (demands.taken_exactly figure patch memory list allowance).0 t

    long : length rows ≡ r * n
    long = length-take-le (r * n) s.list (calls.rows_in_list figure patch memory list allowance H)

    count : row_count figure rows ≡ r
    count = rw long (mul-div_cancel r (handed_checked H).vertex)

    row : (i : ℕ) → i < row_count figure rows → row_at n rows i ≡ get_or (found figure s) i []
    row i h = let l : i < r = omega (arith, count) in row_within n r i s.list l ∙ sym (rows_at n r i s.list l)

    listed : (i : ℕ) → i < row_count figure rows → i < length (found figure s)
    listed i h = omega (arith, count, rows_long n r s.list)

    places : (i : ℕ) → i < row_count figure rows → Place (figure_of figure) (patch_of patch) (row_at n rows i)
    places i h = rw (row i h) (demands.sound figure patch memory list allowance _ (get_or_in [] (found figure s) i (listed i h)))

    different : (i j : ℕ) → i < j → j < row_count figure rows → row_at n rows i ≢ row_at n rows j
    different i j h k e = ordered_get_or [] (demands.once figure patch memory list allowance) i j h (listed j k) (sym (row i (omega arith)) ∙ e ∙ row j k)
