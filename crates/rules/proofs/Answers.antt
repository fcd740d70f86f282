-- The demands for `answer F P room allow`, which is `cut room allow (tries_of F P)`: what the whole call's theorems in Demands rest on.
use Prim.Native.Nat.{ℕ, ◌≤◌}
use mathlib.Core.Path.{◌≡◌, refl, ap, sym, ◌∙◌}
use mathlib.Core.Logic.{◌≢◌, ◌↔◌}
use mathlib.Core.List.Memᴰ
use mathlib.Core.List.{List, [], ◌∷◌, ◌++◌, map, Memᴰ}
use mathlib.Core.Bool.{true}
use mathlib.Core.Option.{some, none}
use native.Mathlib.Nat.{le_trans}
use native.Mathlib.Omega.{arith}
use lib.ListN.{length, take, drop, take-append-drop}
use Rattle.laws.specs.Lists.{any, null, Begins, Ordered}
use Rattle.rules.specs.Place.{Figure, Patch, Place, entry, Before, Checked, AllPlaces}
use Rattle.rules.specs.Candidates.{order_of, sets_of}
use Rattle.rules.specs.Tries.{Try, plan_of, tries_of}
use Rattle.rules.specs.Partials.{partials, partials_of}
use Rattle.rules.specs.Answer.{rows_of, cut, Cut, answer, all_rows}
use Rattle.laws.proofs.Lists.{ordered_one, begun_ordered, weaken_ordered}
use Rattle.rules.proofs.Order.{lesser_apart, lesser_both}
use Rattle.rules.proofs.Cut.{cut_is, begins, begins_all, whole_iff, whole_stays, allowance_enough}
use Rattle.rules.proofs.Search.{row_place, place_row, rows_ascend, tries_partials}

rows_append : (ss ts : List Try) → rows_of (ss ++ ts) ≡ rows_of ss ++ rows_of ts
rows_append [] ts = refl
rows_append (none ∷ ss) ts = rows_append ss ts
rows_append (some r ∷ ss) ts = ap (λ rs. r ∷ rs) (rows_append ss ts)

module _ (F : Figure) (P : Patch) (room allow : ℕ) where
  -- the rows begin the list of all rows
  pub begins_all_rows : Begins (answer F P room allow).rows (all_rows F P)
  begins_all_rows = begins_all room allow (tries_of F P)

  -- the number says why the answer ends
  pub true_reason : Cut room allow (tries_of F P) (answer F P room allow)
  true_reason = cut_is room allow (tries_of F P)

  -- the number is 0 exactly where the allowance is enough for all tries and the room for all rows
  pub complete_iff : ((answer F P room allow).number ≡ 0) ↔ ((length (tries_of F P) ≤ allow) × (length (all_rows F P) ≤ room))
  complete_iff = whole_iff room allow (tries_of F P)

  -- where a refined set is empty the answer is complete with no tries, whatever the room and the allowance, and no partial placement is counted
  pub empty_set : any null (sets_of F P) ≡ true → (answer F P room allow ≡ record { number = 0; rows = []; tries = 0 }) × (partials F P ≡ 0)
  unfolding tries_of plan_of cut partials_of
  empty_set e = (rw (tries_of, e), rw (partials_of, e))

  module _ (room' allow' : ℕ) (r : room ≤ room') (a : allow ≤ allow') where
    -- the rows of a call begin those of a call with as much room and allowance, or more
    pub more_begins : Begins (answer F P room allow).rows (answer F P room' allow').rows
    more_begins = begins room room' allow allow' (tries_of F P) r a

    -- and a complete answer stays the same
    pub more_stays : (answer F P room allow).number ≡ 0 → answer F P room allow ≡ answer F P room' allow'
    more_stays = whole_stays room room' allow allow' (tries_of F P) r a

-- the rows of the first tries begin all rows
pub rows_of_first : (k : ℕ) (ts : List Try) → Begins (rows_of (take k ts)) (rows_of ts)
rows_of_first k ts = (rows_of (drop k ts), ap rows_of (sym (take-append-drop k ts)) ∙ rows_append (take k ts) (drop k ts))

-- there is just one list of all places in an order
pub all_places_one : (F : Figure) (P : Patch) (o : List ℕ) {xs ys : List (List ℕ)} → AllPlaces F P o xs → AllPlaces F P o ys → xs ≡ ys
all_places_one F P o A B = ordered_one (λ row l. lesser_apart l refl) (λ a b k l. lesser_both k l) A.ascending B.ascending (λ row m. (B.each row).1 ((A.each row).0 m)) (λ row m. (A.each row).1 ((B.each row).0 m))

-- all rows are all places
pub all_places : (F : Figure) (P : Patch) → Checked F → AllPlaces F P (order_of F P) (all_rows F P)
all_places F P C = record { each = λ row. (row_place F P C row, place_row F P C row); ascending = rows_ascend F P C }

module _ (F : Figure) (P : Patch) (C : Checked F) (room allow : ℕ) where
  -- every row is a place
  pub sound : (row : List ℕ) → Memᴰ row (answer F P room allow).rows → Place F P row
  sound row m = let b = begins_all_rows F P room allow in row_place F P C row (rw b.1 (Memᴰ.append_left b.0 m))

  -- the rows ascend by their entries taken in matching order
  pub ascending : Ordered (Before (order_of F P)) (answer F P room allow).rows
  ascending = let b = begins_all_rows F P room allow in begun_ordered _ b.0 (rw b.1 at (rows_ascend F P C))

  -- so no row stands twice
  pub once : Ordered ◌≢◌ (answer F P room allow).rows
  once = weaken_ordered ascending (λ x y i j l e. lesser_apart l (ap (λ row. map (entry row) (order_of F P)) e))

  -- where the number is 0, the rows are the places
  pub complete : (answer F P room allow).number ≡ 0 → (row : List ℕ) → Memᴰ row (answer F P room allow).rows ↔ Place F P row
  complete e row = (sound row, λ p. rw ((true_reason F P room allow).whole e).0 (place_row F P C row p))

  -- no more tries are spent than there are partial placements
  pub bounded : (answer F P room allow).tries ≤ partials F P
  bounded = omega (arith, (true_reason F P room allow).in_tries, tries_partials F P C)

  -- an allowance of that number, or more, is never used up
  pub never_spent : partials F P ≤ allow → (answer F P room allow).number ≢ 2
  never_spent h = allowance_enough room allow (tries_of F P) (le_trans (tries_partials F P C) h)
