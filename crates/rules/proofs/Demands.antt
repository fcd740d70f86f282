-- The three demands of document 01, for the calls on bytes and for every input, one theorem a sentence. Start here; the other files hold the proofs.
use Prim.Native.Nat.{ℕ, ◌+◌, ◌*◌, ◌/◌, ◌≤◌, ◌<◌}
use mathlib.Core.Path.{◌≡◌, refl, ap, sym, ◌∙◌}
use mathlib.Core.Logic.{◌⊎◌, inl, inr, ◌≢◌, ◌↔◌}
use mathlib.Core.List.Memᴰ
use mathlib.Core.List.{List, [], ◌∷◌, ◌++◌, flatten, Memᴰ}
use mathlib.Core.Bool.{true, false}
use native.Mathlib.Omega.{arith}
use lib.Dec.{leb}
use lib.ListN.{length, take, drop, replicate}
use Rattle.laws.specs.Lists.{any, null, Begins, Ordered, nil}
use Rattle.rules.specs.Sheet.{Line, Bytes, vertex_count, byte_length, held}
use Rattle.rules.specs.Checks.{Verdict, no_line, lineless, FirstToFail, verdict, Offending, LineTold, no_line_case}
use Rattle.rules.specs.Place.{Figure, Patch, Placed, Place, Before, AllPlaces}
use Rattle.rules.specs.Candidates.{order_of, sets_of}
use Rattle.rules.specs.Tries.{tries_of}
use Rattle.rules.specs.Partials.{Partial, partials_of, partials}
use Rattle.rules.specs.Answer.{Cut, answer, all_rows}
use Rattle.rules.specs.Calls.{over, lines_of, unread, reader, reader_checks, reader_refusals, ReaderHanded, unwritten, writer, writer_checks, writer_refusals, WriterHanded, figure_of, patch_of, search_checks, search_refusals, Handed, Searched, Taken, room_of, answered, refused, search, LineOfTwo, of_neither, found}
use Rattle.laws.proofs.Lists.{no_member}
use Rattle.rules.proofs.Verdicts.{first_to_fail, from_11}
use Rattle.rules.proofs.Accepted.{handed_checked}
use Rattle.rules.proofs.Partials.{partials_exactly, partials_once}
use Rattle.rules.proofs.ReadWrite.{reader_taken, reader_either, reader_untouched, reader_writer, writer_taken, writer_either, writer_untouched, writer_reader}
use Rattle.rules.proofs.Offending.{reader_told, writer_told, two_none, pair_told, offending_once}
use Rattle.rules.proofs.Answers as answers
use Rattle.rules.proofs.Calls as calls

module _ (figure patch memory list : List ℕ) (allowance : ℕ) where
  -- the figure, the patch, and what comes back
  abbrev F : Figure
  F = figure_of figure

  abbrev P : Patch
  P = patch_of patch

  abbrev result : Searched
  result = search figure patch memory list allowance

  -- DEMAND 1. Every call answers.

  -- a call is taken exactly if both sheets are as they should be, the figure is connected and the memory is long enough
  pub taken_exactly : Taken result ↔ Handed figure patch memory
  taken_exactly = calls.acceptance figure patch memory list allowance

  -- any other call is refused, by one of the numbers
  pub taken_or_refused : Taken result ⊎ Memᴰ result.number search_refusals
  taken_or_refused = calls.search_cases figure patch memory list allowance (λ s. Taken s ⊎ Memᴰ s.number search_refusals) (λ H. inl (answers.true_reason F P (room_of figure list) allowance).numbers) (λ m. inr m)

  -- a number is given exactly when its check is the first to fail
  pub first_check_to_fail : (k : ℕ) → 10 < k → (result.number ≡ k) ↔ FirstToFail k (search_checks figure patch memory)
  first_check_to_fail k h = calls.search_cases figure patch memory list allowance (λ s. (s.number ≡ k) ↔ FirstToFail k (search_checks figure patch memory)) (λ H. (λ e. absurd (omega (arith, (answers.true_reason F P (room_of figure list) allowance).numbers)), λ f. absurd (omega (arith, calls.passing H, checks.1 f)))) (λ m. checks)
    where
      checks : ((verdict (search_checks figure patch memory)).number ≡ k) ↔ FirstToFail k (search_checks figure patch memory)
      checks = first_to_fail (search_checks figure patch memory) k (omega arith)

  -- a refusal returns 0 rows and 0 tries, and writes nothing
  pub refusal_writes_nothing : Memᴰ result.number search_refusals → result ≡ refused (record { number = result.number; line = result.line }) list memory
  refusal_writes_nothing = calls.search_cases figure patch memory list allowance (λ s. Memᴰ s.number search_refusals → s ≡ refused (record { number = s.number; line = s.line }) list memory) (λ H m. absurd (omega (arith, from_11 {ns = search_refusals} refl m, (answers.true_reason F P (room_of figure list) allowance).numbers))) (λ m _. refl)

  -- the line beside the number is the figure's offending line with 14 and 15, the patch's with 24 and 25, and 65,535 with any other number (document 02, Wish 6)
  pub line_named : LineOfTwo figure patch result.number result.line
  line_named = calls.search_cases figure patch memory list allowance (λ s. LineOfTwo figure patch s.number s.line) (λ H. let n = (answers.true_reason F P (room_of figure list) allowance).numbers in of_neither (λ e. omega (arith, n)) (λ e. omega (arith, n)) (λ e. omega (arith, n)) (λ e. omega (arith, n)) refl) (λ m. pair_told figure patch (leb 22_528 (length memory), lineless 31) (two_none figure patch 31 refl refl refl refl))

  -- a taken call zeroes all the working memory
  pub memory_zeroed : Taken result → result.memory ≡ replicate (length memory) 0
  memory_zeroed t = rw (calls.taken figure patch memory list allowance (taken_exactly.0 t))

  -- the list stays as long as it was, the rows lie from its start, and the rest of it is untouched
  pub list_as_long : length result.list ≡ length list
  list_as_long = elim (calls.either figure patch memory list allowance) [ inl a ↦ calls.list_long figure patch memory list allowance a.0 | inr a ↦ rw a.1 ]

  pub rest_untouched : drop (result.rows * F.graph.size) result.list ≡ drop (result.rows * F.graph.size) list
  rest_untouched = elim (calls.either figure patch memory list allowance) [ inl a ↦ calls.rest_as_it_was figure patch memory list allowance a.0 | inr a ↦ rw a.1 ]

  -- DEMAND 2. The list is right.

  -- every row is a place
  pub sound : (row : List ℕ) → Memᴰ row (found figure result) → Place F P row
  sound row = calls.found_cases figure patch memory list allowance (λ rows. Memᴰ row rows → Place F P row) (λ m. absurd (Memᴰ.not-nil m)) (λ H. answers.sound F P (handed_checked H) (room_of figure list) allowance row)

  -- no row stands twice
  pub once : Ordered ◌≢◌ (found figure result)
  once = calls.found_cases figure patch memory list allowance (Ordered ◌≢◌) nil (λ H. answers.once F P (handed_checked H) (room_of figure list) allowance)

  -- the rows stand in the stated order
  pub in_order : Ordered (Before (order_of F P)) (found figure result)
  in_order = calls.found_cases figure patch memory list allowance (Ordered (Before (order_of F P))) nil (λ H. answers.ascending F P (handed_checked H) (room_of figure list) allowance)

  -- "complete" means every place once, in the stated order
  pub complete : result.number ≡ 0 → AllPlaces F P (order_of F P) (found figure result)
  complete e = record { each = λ row. (sound row, listed row); ascending = in_order }
    where
      H : Handed figure patch memory
      H = taken_exactly.0 (omega arith)

      listed : (row : List ℕ) → Place F P row → Memᴰ row (found figure result)
      listed row p = rw (calls.rows_lie figure patch memory list allowance H) ((answers.complete F P (handed_checked H) (room_of figure list) allowance (rw (calls.taken figure patch memory list allowance H) at e) row).1 p)

  -- complete, and no row: exactly if there is no place
  pub none_exactly : result.number ≡ 0 → (result.rows ≡ 0) ↔ ((row : List ℕ) → Place F P row → ⊥)
  none_exactly e = (λ z row p. Memᴰ.not-nil (rw (calls.none_found figure result z) at (((complete e).each row).1 p)), λ none. calls.found_none figure result (no_member _ (λ row m. none row (sound row m))))

  -- there is just one list of all places in the stated order
  pub one_list : (xs ys : List (List ℕ)) → AllPlaces F P (order_of F P) xs → AllPlaces F P (order_of F P) ys → xs ≡ ys
  one_list xs ys = answers.all_places_one F P (order_of F P)

  -- whatever the number, the rows begin that list
  pub begins : (all : List (List ℕ)) → AllPlaces F P (order_of F P) all → Begins (found figure result) all
  begins all A = calls.found_cases figure patch memory list allowance (λ rows. Begins rows all) (all, refl) (λ H. rw (one_list all (all_rows F P) A (answers.all_places F P (handed_checked H))) (answers.begins_all_rows F P (room_of figure list) allowance))

  -- and there is such a list where the call is taken
  pub there_is_a_list : Taken result → AllPlaces F P (order_of F P) (all_rows F P)
  there_is_a_list t = answers.all_places F P (handed_checked (taken_exactly.0 t))

  -- the number gives the true reason: `Cut` says it for 0, 1 and 2
  pub true_reason : Taken result → Cut (room_of figure list) allowance (tries_of F P) (record { number = result.number; rows = found figure result; tries = result.tries })
  true_reason t = let H = taken_exactly.0 t in rw (calls.rows_lie figure patch memory list allowance H, calls.taken figure patch memory list allowance H) (answers.true_reason F P (room_of figure list) allowance)

  -- 1: the room is used up, and a further place was reached, the next of the list of all places
  pub list_full : result.number ≡ 1 → (result.rows ≡ room_of figure list) × ((row : List ℕ) × Place F P row × Begins (found figure result ++ row ∷ []) (all_rows F P))
  list_full e =
      let t = true_reason (omega arith) in
      let f = t.full e in
      let b = answers.rows_of_first result.tries (tries_of F P) in
      let B : Begins (found figure result ++ f.1.0 ∷ []) (all_rows F P) = (b.0, b.1 ∙ ap (λ rows. rows ++ b.0) f.1.1) in
      (sym (calls.found_long figure result) ∙ f.0, (f.1.0, ((there_is_a_list (omega arith)).each f.1.0).0 (rw B.1 (Memᴰ.append_left B.0 (Memᴰ.append_right (found figure result) (Memᴰ.head refl)))), B))

  -- 2: the allowance is used up, and a further try was due
  pub tries_spent : result.number ≡ 2 → (result.tries ≡ allowance) × (allowance < length (tries_of F P))
  tries_spent e = let s = (true_reason (omega arith)).spent e in (s.0, s.2)

  -- the number is 0 exactly where the allowance is enough for all tries and the room for all places
  pub complete_exactly : Taken result → (result.number ≡ 0) ↔ ((length (tries_of F P) ≤ allowance) × (length (all_rows F P) ≤ room_of figure list))
  complete_exactly t = rw (calls.taken figure patch memory list allowance (taken_exactly.0 t)) (answers.complete_iff F P (room_of figure list) allowance)

  -- where a refined candidate set is empty the answer is complete with no tries, whatever the room and the allowance
  pub empty_set : any null (sets_of F P) ≡ true → Taken result → result ≡ answered (record { number = 0; rows = []; tries = 0 }) list memory
  empty_set e t = calls.taken figure patch memory list allowance (taken_exactly.0 t) ∙ ap (λ a. answered a list memory) (answers.empty_set F P (room_of figure list) allowance e).0

  -- DEMAND 3. More room or allowance only adds.

  -- tries never exceed the partial placements
  pub tries_bounded : result.tries ≤ partials F P
  tries_bounded = calls.search_cases figure patch memory list allowance (λ s. s.tries ≤ partials F P) (λ H. answers.bounded F P (handed_checked H) (room_of figure list) allowance) (λ m. omega arith)

  -- which are counted without the search: the list whose length is their number holds each of them once and nothing else
  pub counted_apart : Taken result → any null (sets_of F P) ≡ false → ((M : Placed) → Memᴰ M (partials_of F P) ↔ Partial F P (sets_of F P) (order_of F P) M) × Ordered ◌≢◌ (partials_of F P)
  counted_apart t e = let K = handed_checked (taken_exactly.0 t) in (partials_exactly F P K e, partials_once F P K)

  -- and that many always suffice
  pub that_many_suffice : partials F P ≤ allowance → result.number ≢ 2
  that_many_suffice h = calls.search_cases figure patch memory list allowance (λ s. s.number ≢ 2) (λ H. answers.never_spent F P (handed_checked H) (room_of figure list) allowance h) (λ m e. omega (arith, from_11 {ns = search_refusals} refl m))

-- two searches come back with the same number, line, counts and list
pub record Alike (r s : Searched) : Type 0 where
  pub number : r.number ≡ s.number
  pub line : r.line ≡ s.line
  pub rows : r.rows ≡ s.rows
  pub tries : r.tries ≡ s.tries
  pub list : r.list ≡ s.list

-- DEMAND 1. The old contents of the working memory change nothing, nor does its length past the least.
pub memory_forgotten : (figure patch memory memory' list : List ℕ) (allowance : ℕ) → (length memory ≡ length memory') ⊎ ((22_528 ≤ length memory) × (22_528 ≤ length memory')) → Alike (search figure patch memory list allowance) (search figure patch memory' list allowance)
memory_forgotten figure patch memory memory' list allowance same = calls.search_cases figure patch memory list allowance (λ s. Alike s (search figure patch memory' list allowance)) (λ H. rw (calls.taken figure patch memory' list allowance (calls.handed_memory {figure = figure} {patch = patch} {memory = memory} {memory' = memory'} H (long same H))) (record { number = refl; line = refl; rows = refl; tries = refl; list = refl })) (λ m. both m same)
  where
    long : (length memory ≡ length memory') ⊎ ((22_528 ≤ length memory) × (22_528 ≤ length memory')) → Handed figure patch memory → 22_528 ≤ length memory'
    long (inl e) H = omega (arith, H.memory)
    long (inr b) H = b.1

    both : Memᴰ (verdict (search_checks figure patch memory)).number search_refusals → (length memory ≡ length memory') ⊎ ((22_528 ≤ length memory) × (22_528 ≤ length memory')) → Alike (refused (verdict (search_checks figure patch memory)) list memory) (search figure patch memory' list allowance)
    both m same = calls.search_cases figure patch memory' list allowance (λ s. Alike (refused (verdict (search_checks figure patch memory)) list memory) s) (λ H. absurd (calls.not_handed {figure = figure} {patch = patch} {memory = memory} m (calls.handed_memory {figure = figure} {patch = patch} {memory = memory'} {memory' = memory} H (back same H)))) (λ m'. record { number = ap (λ v. v.number) (calls.same_verdict figure patch memory memory' same); line = ap (λ v. v.line) (calls.same_verdict figure patch memory memory' same); rows = refl; tries = refl; list = refl })
      where
        back : (length memory ≡ length memory') ⊎ ((22_528 ≤ length memory) × (22_528 ≤ length memory')) → Handed figure patch memory' → 22_528 ≤ length memory
        back (inl e) H = omega (arith, H.memory)
        back (inr b) H = b.0

-- DEMAND 3, of two calls of which the second has as much room and allowance as the first, or more.
module _ (figure patch memory memory' list list' : List ℕ) (allowance allowance' : ℕ) (room : length list ≤ length list') (allowed : allowance ≤ allowance') where
  abbrev less : Searched
  less = search figure patch memory list allowance

  abbrev more : Searched
  more = search figure patch memory' list' allowance'

  -- rows never move: where the second call is taken, the first one's rows begin its rows
  pub rows_never_move : Taken more → Begins (found figure less) (found figure more)
  rows_never_move t = calls.found_cases figure patch memory list allowance (λ rows. Begins rows (found figure more)) (found figure more, refl) (λ H. rw (calls.rows_lie figure patch memory' list' allowance' ((taken_exactly figure patch memory' list' allowance').0 t)) (answers.more_begins _ _ _ allowance _ allowance' (calls.room_more figure list list' (handed_checked H).vertex room) allowed))

  -- a complete answer stays: number, rows, tries and the rows' part of the list
  pub complete_stays : less.number ≡ 0 → Taken more → (more.number ≡ 0) × (less.rows ≡ more.rows) × (less.tries ≡ more.tries) × (take (less.rows * (figure_of figure).graph.size) less.list ≡ take (more.rows * (figure_of figure).graph.size) more.list)
  complete_stays e t = (rw (calls.taken figure patch memory' list' allowance' H') (rw (← same) z), rw (calls.taken figure patch memory list allowance H, calls.taken figure patch memory' list' allowance' H') (ap (λ x. length x.rows) same), rw (calls.taken figure patch memory list allowance H, calls.taken figure patch memory' list' allowance' H') (ap (λ x. x.tries) same), calls.rows_part figure patch memory list allowance H ∙ ap (λ x. flatten x.rows) same ∙ sym (calls.rows_part figure patch memory' list' allowance' H'))
    where
      H : Handed figure patch memory
      H = (taken_exactly figure patch memory list allowance).0 (omega arith)

      H' : Handed figure patch memory'
      H' = (taken_exactly figure patch memory' list' allowance').0 t

      z : (answer (figure_of figure) (patch_of patch) (room_of figure list) allowance).number ≡ 0
      z = rw (calls.taken figure patch memory list allowance H) at e

      same : answer (figure_of figure) (patch_of patch) (room_of figure list) allowance ≡ answer (figure_of figure) (patch_of patch) (room_of figure list') allowance'
      same = answers.more_stays _ _ _ allowance _ allowance' (calls.room_more figure list list' (handed_checked H).vertex room) allowed z

-- DEMANDS 1 AND 2 of the reader.
module _ (bytes kind_list line_list : List ℕ) where
  -- it reads exactly if the sheet is a patch's and the lists are long enough
  pub reads_exactly : ((reader bytes kind_list line_list).number ≡ 0) ↔ ReaderHanded bytes kind_list line_list
  reads_exactly = (λ e. elim (reader_either bytes kind_list line_list) [ inl a ↦ a.0 | inr a ↦ absurd (omega (arith, from_11 {ns = reader_refusals} refl a.0, ap (λ r. r.number) a.1)) ], λ H. rw (reader_taken bytes kind_list line_list H))

  -- else it refuses by the number of the first check to fail, with zero counts, and changes nothing
  pub reader_refuses : ((reader bytes kind_list line_list).number ≡ 0) ⊎ ((v : Verdict) × Memᴰ v.number reader_refusals × FirstToFail v.number (reader_checks bytes kind_list line_list) × (reader bytes kind_list line_list ≡ unread v kind_list line_list))
  reader_refuses = elim (reader_either bytes kind_list line_list) [ inl a ↦ inl (reads_exactly.1 a.0) | inr a ↦ inr (verdict (reader_checks bytes kind_list line_list), a.0, (first_to_fail (reader_checks bytes kind_list line_list) (verdict (reader_checks bytes kind_list line_list)).number (omega (arith, from_11 {ns = reader_refusals} refl a.0))).0 refl, a.1) ]

  -- the line beside the number is the offending one with 24 and 25, and 65,535 with any other number
  pub reader_line_named : let r = reader bytes kind_list line_list in LineTold 20 (vertex_count bytes) (held bytes).lines r.number r.line
  reader_line_named = elim (reader_either bytes kind_list line_list) [ inl a ↦ rw a.1 (no_line_case (λ e. omega arith) (λ e. omega arith) refl) | inr a ↦ rw a.1 (reader_told bytes kind_list line_list) ]

  -- it changes only the first n and 3m numbers
  pub reader_changes_only : let r = reader bytes kind_list line_list in (drop r.vertices r.kind_list ≡ drop r.vertices kind_list) × (drop (3 * r.lines) r.line_list ≡ drop (3 * r.lines) line_list)
  reader_changes_only = elim (reader_either bytes kind_list line_list) [ inl a ↦ reader_untouched bytes kind_list line_list a.0 | inr a ↦ rw a.1 (refl, refl) ]

-- DEMANDS 1 AND 2 of the writer.
module _ (kind_list line_list bytes : List ℕ) where
  -- it writes exactly if the lists are a patch's sheet and there are bytes enough
  pub writes_exactly : ((writer kind_list line_list bytes).number ≡ 0) ↔ WriterHanded kind_list line_list bytes
  writes_exactly = (λ e. elim (writer_either kind_list line_list bytes) [ inl a ↦ a.0 | inr a ↦ absurd (omega (arith, from_11 {ns = writer_refusals} refl a.0, ap (λ w. w.number) a.1)) ], λ H. rw (writer_taken kind_list line_list bytes H))

  -- else it refuses by the number of the first check to fail, with a zero count, and changes nothing
  pub writer_refuses : ((writer kind_list line_list bytes).number ≡ 0) ⊎ ((v : Verdict) × Memᴰ v.number writer_refusals × FirstToFail v.number (writer_checks kind_list line_list bytes) × (writer kind_list line_list bytes ≡ unwritten v bytes))
  writer_refuses = elim (writer_either kind_list line_list bytes) [ inl a ↦ inl (writes_exactly.1 a.0) | inr a ↦ inr (verdict (writer_checks kind_list line_list bytes), a.0, (first_to_fail (writer_checks kind_list line_list bytes) (verdict (writer_checks kind_list line_list bytes)).number (omega (arith, from_11 {ns = writer_refusals} refl a.0))).0 refl, a.1) ]

  -- the line beside the number is the offending one with 24 and 25, and 65,535 with any other number
  pub writer_line_named : let w = writer kind_list line_list bytes in LineTold 20 (length kind_list) (lines_of line_list) w.number w.line
  writer_line_named = elim (writer_either kind_list line_list bytes) [ inl a ↦ rw a.1 (no_line_case (λ e. omega arith) (λ e. omega arith) refl) | inr a ↦ rw a.1 (writer_told kind_list line_list bytes) ]

  -- it changes only the bytes that it counts
  pub writer_changes_only : let w = writer kind_list line_list bytes in drop w.count w.bytes ≡ drop w.count bytes
  writer_changes_only = elim (writer_either kind_list line_list bytes) [ inl a ↦ writer_untouched kind_list line_list bytes a.0 | inr a ↦ rw a.1 ]

-- Lines have one offending line, or none.
pub one_offending_line : (n : ℕ) (lines : List Line) (i j : ℕ) → Offending n lines i → Offending n lines j → i ≡ j
one_offending_line = offending_once

-- DEMAND 2. A sheet that was read, written again, is the same bytes.
pub read_then_written : (bytes kind_list line_list out : List ℕ) → Bytes bytes → length bytes ≤ length out → let r = reader bytes kind_list line_list in r.number ≡ 0 → writer (take r.vertices r.kind_list) (take (3 * r.lines) r.line_list) out ≡ record { number = 0; line = no_line; count = length bytes; bytes = over bytes out }
read_then_written bytes kind_list line_list out small long e = reader_writer bytes kind_list line_list small ((reads_exactly bytes kind_list line_list).0 e) out long

-- Lists that were written, read again, are the same lists.
pub written_then_read : (kind_list line_list out kinds lines : List ℕ) → length kind_list ≤ length kinds → length line_list ≤ length lines → let w = writer kind_list line_list out in w.number ≡ 0 → reader (take w.count w.bytes) kinds lines ≡ record { number = 0; line = no_line; vertices = length kind_list; lines = length line_list / 3; kind_list = over kind_list kinds; line_list = over line_list lines }
written_then_read kind_list line_list out kinds lines h k e = writer_reader kind_list line_list out ((writes_exactly kind_list line_list out).0 e) kinds lines h k

-- The longest sheets are 187 bytes of a figure and 5,507 of a patch.
pub longest_sheets : (byte_length 32 64 ≡ 187) × (byte_length 512 2_048 ≡ 5_507)
longest_sheets = (refl, refl)
