-- The rules' search with ample room and allowance: its rows are all places, ascending, and its tries no more than the partial placements.
use Prim.Native.Nat.{ℕ, ◌≤◌}
use mathlib.Core.Path.{◌≡◌, refl, sym}
use mathlib.Core.Logic.{inl, inr}
use mathlib.Core.List.Memᴰ
use mathlib.Core.List.{List, [], ◌∷◌, Memᴰ}
use mathlib.Core.Bool.{true, false, true≢false}
use mathlib.Core.Option.{some}
use native.Mathlib.Nat.{zero-add}
use native.Mathlib.Omega.{arith}
use lib.ListN.{length}
use Rattle.laws.specs.Lists.{any, null, Ordered, nil}
use Rattle.rules.specs.Graph.{Drawn}
use Rattle.rules.specs.Place.{Figure, Patch, Place, Before, Checked}
use Rattle.rules.specs.Candidates.{order_of, sets_of}
use Rattle.rules.specs.Tries.{Try, level, plan_of, tries_of}
use Rattle.rules.specs.Partials.{partials, partials_of}
use Rattle.rules.specs.Answer.{rows_of, all_rows}
use Rattle.rules.proofs.Lawful.{Arranged, start, Lawful, Faithful}
use Rattle.laws.proofs.Lists.{split, any_out, get_or_out, weaken_ordered}
use Rattle.rules.proofs.Order.{earlier_lesser, level_ordered}
use Rattle.rules.proofs.Places.{place_listed, listed_place}
use Rattle.rules.proofs.Breadth.{connected_arranged}
use Rattle.rules.proofs.Static.{plan_of_lawful}
use Rattle.rules.proofs.Sets.{sets_hold, sets_length, sets_good, plan_of_faithful}
use Rattle.rules.proofs.Bound.{level_partials}
use Rattle.rules.proofs.Cut.{rows_in_lem, rows_out, rows_ordered}

-- the search is a level, or no try where a refined set is empty
tries_cases : (F : Figure) (P : Patch) (Q : List Try → Type 0) → (any null (sets_of F P) ≡ true → Q []) → (any null (sets_of F P) ≡ false → Q (level (plan_of F P) F.graph.size []).tries) → Q (tries_of F P)
unfolding tries_of plan_of
tries_cases F P Q empty full = elim (split (any null (sets_of F P))) [ inl e ↦ rw (tries_of, e) (empty e) | inr e ↦ rw (tries_of, e) (full e) ]

-- where a refined set is empty there is no place
no_place : (F : Figure) (P : Patch) → Drawn F.graph → any null (sets_of F P) ≡ true → (row : List ℕ) → Place F P row → ⊥
no_place F P D e row p =
    let x = any_out null (sets_of F P) e in
    let i = get_or_out [] x.1 in
    empty x.0 x.2 (rw (sym i.2) at (sets_hold F P D row p i.0 (rw (sets_length F P) at i.1)))
  where
    empty : {v : ℕ} (s : List ℕ) → null s ≡ true → Memᴰ v s → ⊥
    empty [] e m = Memᴰ.not-nil m
    empty (x ∷ s) e m = true≢false (sym e)

module _ (F : Figure) (P : Patch) (G : Checked F) where
  -- the plan does as the search needs
  arranged : Arranged F.graph.size (order_of F P)
  arranged = connected_arranged F P G.vertex G.drawn G.connected

  lawful : Lawful (plan_of F P)
  lawful = plan_of_lawful F P arranged

  faithful : Faithful (plan_of F P)
  faithful = plan_of_faithful F P G.drawn arranged

  -- every row is a place
  pub row_place : (row : List ℕ) → Memᴰ row (all_rows F P) → Place F P row
  unfolding plan_of
  row_place row m = tries_cases F P (λ ts. Memᴰ (some row) ts → Place F P row) (λ e i. absurd (Memᴰ.not-nil i)) (λ e i. listed_place (plan_of F P) lawful faithful row i) (rows_out (tries_of F P) m)

  -- every place has its row
  pub place_row : (row : List ℕ) → Place F P row → Memᴰ row (all_rows F P)
  unfolding plan_of
  place_row row p = rows_in_lem (tries_of F P) (tries_cases F P (λ ts. Memᴰ (some row) ts) (λ e. absurd (no_place F P G.drawn e row p)) (λ e. place_listed (plan_of F P) lawful faithful row p (sets_hold F P G.drawn row p)))

  -- the rows ascend
  pub rows_ascend : Ordered (Before (order_of F P)) (all_rows F P)
  unfolding plan_of
  rows_ascend = tries_cases F P (λ ts. Ordered (Before (order_of F P)) (rows_of ts)) (λ e. nil) (λ e. rows_ordered (weaken_ordered (level_ordered (plan_of F P) lawful (λ u h. (sets_good F P u h).0) F.graph.size start (zero-add _)) (λ s t i j f a b p q. earlier_lesser (order_of F P) arranged.whole (λ M. refl) (f a b p q))))

  -- the tries are no more than the partial placements
  pub tries_partials : length (tries_of F P) ≤ partials F P
  unfolding plan_of partials_of
  tries_partials = tries_cases F P (λ ts. length ts ≤ partials F P) (λ e. omega arith) (λ e. rw (partials_of, e) (level_partials (plan_of F P) lawful faithful (order_of F P) arranged.whole (λ M. refl) G.vertex))
