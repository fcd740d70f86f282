-- The three demands about the code: theorems on any result that the contracts of `find`, `read` and `write` allow, one a sentence. The mathematics is in the crate rules; here it is carried over by the contracts alone.
use Prim.Native.Nat.{ℕ, ◌*◌, ◌/◌, ◌≤◌, ◌<◌}
use mathlib.Core.Path.{◌≡◌, ap, sym, subst, ◌∙◌}
use mathlib.Core.Logic.{◌⊎◌, ◌≢◌, ◌↔◌}
use mathlib.Core.List.{List, [], ◌∷◌, ◌++◌, Memᴰ}
use lib.ListN.{length, take, drop, replicate}
use Rattle.laws.specs.Lists.{Begins, Ordered}
use Rattle.rules.specs.Sheet.{Bytes, vertex_count, held}
use Rattle.rules.specs.Checks.{no_line, FirstToFail, LineTold}
use Rattle.rules.specs.Place.{Place, Before, AllPlaces}
use Rattle.rules.specs.Candidates.{order_of}
use Rattle.rules.specs.Tries.{tries_of}
use Rattle.rules.specs.Partials.{partials}
use Rattle.rules.specs.Answer.{all_rows}
use Rattle.rules.specs.Calls.{over, lines_of, reader, ReaderHanded, writer, WriterHanded, search_checks, search_refusals, Handed, Searched, refused, room_of, search, LineOfTwo, found}
use Rattle.rules.proofs.Demands as rules
use Rattle.find.specs.Answers.{as_searched}
use Rattle.demands.specs.Calls.{Asked, Given, Allows, figure_in, patch_in, rows_given, ReadAsked, ReadGiven, read_of, ReadAllows, WriteAsked, WriteGiven, written_of, WriteAllows}

module _ (a : Asked) (g : Given) (allowed : Allows a g) where
  -- what holds of the rules' search holds of what came back
  by_contract : (Q : Searched → Type 0) → Q (search a.figure a.patch a.memory a.list a.allowance) → Q (as_searched g.answer g.list g.memory)
  by_contract Q q = subst Q (sym allowed) q

  -- DEMAND 1. Every call answers and ends.

  -- exactly one result is allowed
  pub one_result : (h : Given) → Allows a h → g ≡ h
  one_result h allowed' =
      let e = allowed ∙ sym allowed' in
      λ i. record { answer = record { number = (e i).number; line = (e i).line; rows = (e i).rows; tries = (e i).tries }; list = (e i).list; memory = (e i).memory }

  -- accepted exactly when every check passes
  pub accepted_exactly : (g.answer.number ≤ 2) ↔ Handed a.figure a.patch a.memory
  accepted_exactly = by_contract (λ s. (s.number ≤ 2) ↔ Handed a.figure a.patch a.memory) (rules.taken_exactly a.figure a.patch a.memory a.list a.allowance)

  -- else refused, by one of the numbers
  pub accepted_or_refused : (g.answer.number ≤ 2) ⊎ Memᴰ g.answer.number search_refusals
  accepted_or_refused = by_contract (λ s. (s.number ≤ 2) ⊎ Memᴰ s.number search_refusals) (rules.taken_or_refused a.figure a.patch a.memory a.list a.allowance)

  -- that of the first check to fail
  pub first_check_to_fail : (k : ℕ) → 10 < k → (g.answer.number ≡ k) ↔ FirstToFail k (search_checks a.figure a.patch a.memory)
  first_check_to_fail k h = by_contract (λ s. (s.number ≡ k) ↔ FirstToFail k (search_checks a.figure a.patch a.memory)) (rules.first_check_to_fail a.figure a.patch a.memory a.list a.allowance k h)

  -- a refusal returns no rows and no tries, and leaves every lent number as it was
  pub refusal_writes_nothing : Memᴰ g.answer.number search_refusals → (g.answer.rows ≡ 0) × (g.answer.tries ≡ 0) × (g.list ≡ a.list) × (g.memory ≡ a.memory)
  refusal_writes_nothing m =
      let e = by_contract (λ s. Memᴰ s.number search_refusals → s ≡ refused (record { number = s.number; line = s.line }) a.list a.memory) (rules.refusal_writes_nothing a.figure a.patch a.memory a.list a.allowance) m in
      (ap (λ s. s.rows) e, ap (λ s. s.tries) e, ap (λ s. s.list) e, ap (λ s. s.memory) e)

  -- the line beside the number: the figure's offending line with 14 and 15, the patch's with 24 and 25, none with any other number
  pub line_named : LineOfTwo a.figure a.patch g.answer.number g.answer.line
  line_named = by_contract (λ s. LineOfTwo a.figure a.patch s.number s.line) (rules.line_named a.figure a.patch a.memory a.list a.allowance)

  -- an accepted call leaves all the working memory zero
  pub memory_zeroed : g.answer.number ≤ 2 → g.memory ≡ replicate (length a.memory) 0
  memory_zeroed = by_contract (λ s. s.number ≤ 2 → s.memory ≡ replicate (length a.memory) 0) (rules.memory_zeroed a.figure a.patch a.memory a.list a.allowance)

  -- the list is as long as it was, and past the rows as it was
  pub list_as_long : length g.list ≡ length a.list
  list_as_long = by_contract (λ s. length s.list ≡ length a.list) (rules.list_as_long a.figure a.patch a.memory a.list a.allowance)

  pub rest_untouched : drop (g.answer.rows * (figure_in a).graph.size) g.list ≡ drop (g.answer.rows * (figure_in a).graph.size) a.list
  rest_untouched = by_contract (λ s. drop (s.rows * (figure_in a).graph.size) s.list ≡ drop (s.rows * (figure_in a).graph.size) a.list) (rules.rest_untouched a.figure a.patch a.memory a.list a.allowance)

  -- DEMAND 2. The list is right.

  -- every row is a place
  pub sound : (row : List ℕ) → Memᴰ row (rows_given a g) → Place (figure_in a) (patch_in a) row
  sound row = by_contract (λ s. Memᴰ row (found a.figure s) → Place (figure_in a) (patch_in a) row) (rules.sound a.figure a.patch a.memory a.list a.allowance row)

  -- no row stands twice
  pub once : Ordered ◌≢◌ (rows_given a g)
  once = by_contract (λ s. Ordered ◌≢◌ (found a.figure s)) (rules.once a.figure a.patch a.memory a.list a.allowance)

  -- the rows stand in the stated order
  pub in_order : Ordered (Before (order_of (figure_in a) (patch_in a))) (rows_given a g)
  in_order = by_contract (λ s. Ordered (Before (order_of (figure_in a) (patch_in a))) (found a.figure s)) (rules.in_order a.figure a.patch a.memory a.list a.allowance)

  -- complete: every place once, in the stated order
  pub complete : g.answer.number ≡ 0 → AllPlaces (figure_in a) (patch_in a) (order_of (figure_in a) (patch_in a)) (rows_given a g)
  complete = by_contract (λ s. s.number ≡ 0 → AllPlaces (figure_in a) (patch_in a) (order_of (figure_in a) (patch_in a)) (found a.figure s)) (rules.complete a.figure a.patch a.memory a.list a.allowance)

  -- complete and none: exactly if no place exists
  pub none_exactly : g.answer.number ≡ 0 → (g.answer.rows ≡ 0) ↔ ((row : List ℕ) → Place (figure_in a) (patch_in a) row → ⊥)
  none_exactly = by_contract (λ s. s.number ≡ 0 → (s.rows ≡ 0) ↔ ((row : List ℕ) → Place (figure_in a) (patch_in a) row → ⊥)) (rules.none_exactly a.figure a.patch a.memory a.list a.allowance)

  -- whatever the number, the rows begin the list of all places
  pub begins : (all : List (List ℕ)) → AllPlaces (figure_in a) (patch_in a) (order_of (figure_in a) (patch_in a)) all → Begins (rows_given a g) all
  begins all A = by_contract (λ s. Begins (found a.figure s) all) (rules.begins a.figure a.patch a.memory a.list a.allowance all A)

  -- of which there is just one where the call is accepted
  pub there_is_a_list : g.answer.number ≤ 2 → AllPlaces (figure_in a) (patch_in a) (order_of (figure_in a) (patch_in a)) (all_rows (figure_in a) (patch_in a))
  there_is_a_list = by_contract (λ s. s.number ≤ 2 → AllPlaces (figure_in a) (patch_in a) (order_of (figure_in a) (patch_in a)) (all_rows (figure_in a) (patch_in a))) (rules.there_is_a_list a.figure a.patch a.memory a.list a.allowance)

  -- the true reason of 1: the room is used up, and a further place was reached, the next of that list
  pub list_full : g.answer.number ≡ 1 → (g.answer.rows ≡ room_of a.figure a.list) × ((row : List ℕ) × Place (figure_in a) (patch_in a) row × Begins (rows_given a g ++ row ∷ []) (all_rows (figure_in a) (patch_in a)))
  list_full = by_contract (λ s. s.number ≡ 1 → (s.rows ≡ room_of a.figure a.list) × ((row : List ℕ) × Place (figure_in a) (patch_in a) row × Begins (found a.figure s ++ row ∷ []) (all_rows (figure_in a) (patch_in a)))) (rules.list_full a.figure a.patch a.memory a.list a.allowance)

  -- the true reason of 2: the allowance is used up, and a further try was due
  pub tries_spent : g.answer.number ≡ 2 → (g.answer.tries ≡ a.allowance) × (a.allowance < length (tries_of (figure_in a) (patch_in a)))
  tries_spent = by_contract (λ s. s.number ≡ 2 → (s.tries ≡ a.allowance) × (a.allowance < length (tries_of (figure_in a) (patch_in a)))) (rules.tries_spent a.figure a.patch a.memory a.list a.allowance)

  -- DEMAND 3. More room or allowance only adds.

  -- tries never exceed the partial placements
  pub tries_bounded : g.answer.tries ≤ partials (figure_in a) (patch_in a)
  tries_bounded = by_contract (λ s. s.tries ≤ partials (figure_in a) (patch_in a)) (rules.tries_bounded a.figure a.patch a.memory a.list a.allowance)

  -- and an allowance of that number, where it fits 32 bits, never ends in 2
  pub that_many_suffice : partials (figure_in a) (patch_in a) ≤ a.allowance → g.answer.number ≢ 2
  that_many_suffice h = by_contract (λ s. s.number ≢ 2) (rules.that_many_suffice a.figure a.patch a.memory a.list a.allowance h)

-- two calls that differ only in the working memory, in contents or in length past the least, agree in number, line, rows, tries and list
pub memory_forgotten : (a b : Asked) (g h : Given) → Allows a g → Allows b h → b.figure ≡ a.figure → b.patch ≡ a.patch → b.list ≡ a.list → b.allowance ≡ a.allowance → (length a.memory ≡ length b.memory) ⊎ ((22_528 ≤ length a.memory) × (22_528 ≤ length b.memory)) → (g.answer ≡ h.answer) × (g.list ≡ h.list)
memory_forgotten a b g h p q f e l n same =
    let other : as_searched h.answer h.list h.memory ≡ search a.figure a.patch b.memory a.list a.allowance = q ∙ (λ i. search (f i) (e i) b.memory (l i) (n i)) in
    let A = rules.memory_forgotten a.figure a.patch a.memory b.memory a.list a.allowance same in
    let number = ap (λ s. s.number) p ∙ A.number ∙ sym (ap (λ s. s.number) other) in
    let line = ap (λ s. s.line) p ∙ A.line ∙ sym (ap (λ s. s.line) other) in
    let rows = ap (λ s. s.rows) p ∙ A.rows ∙ sym (ap (λ s. s.rows) other) in
    let tries = ap (λ s. s.tries) p ∙ A.tries ∙ sym (ap (λ s. s.tries) other) in
    ((λ i. record { number = number i; line = line i; rows = rows i; tries = tries i }), ap (λ s. s.list) p ∙ A.list ∙ sym (ap (λ s. s.list) other))

-- two calls of one figure and one patch, the second with as much room and allowance as the first, or more
module _ (a b : Asked) (g h : Given) (p : Allows a g) (q : Allows b h) (f : b.figure ≡ a.figure) (e : b.patch ≡ a.patch) (room : length a.list ≤ length b.list) (allowed : a.allowance ≤ b.allowance) where
  other : as_searched h.answer h.list h.memory ≡ search a.figure a.patch b.memory b.list b.allowance
  other = q ∙ (λ i. search (f i) (e i) b.memory b.list b.allowance)

  -- rows never move: where the second is accepted, the first one's rows begin its rows
  pub rows_never_move : h.answer.number ≤ 2 → Begins (rows_given a g) (found a.figure (as_searched h.answer h.list h.memory))
  rows_never_move = subst (λ s. s.number ≤ 2 → Begins (rows_given a g) (found a.figure s)) (sym other) (by_contract a g p (λ s. (search a.figure a.patch b.memory b.list b.allowance).number ≤ 2 → Begins (found a.figure s) (found a.figure (search a.figure a.patch b.memory b.list b.allowance))) (rules.rows_never_move a.figure a.patch a.memory b.memory a.list b.list a.allowance b.allowance room allowed))

  -- a complete answer stays: number, rows, tries and the rows' part of the list
  pub complete_stays : g.answer.number ≡ 0 → h.answer.number ≤ 2 → (h.answer.number ≡ 0) × (g.answer.rows ≡ h.answer.rows) × (g.answer.tries ≡ h.answer.tries) × (take (g.answer.rows * (figure_in a).graph.size) g.list ≡ take (h.answer.rows * (figure_in a).graph.size) h.list)
  complete_stays = subst (λ s. g.answer.number ≡ 0 → s.number ≤ 2 → (s.number ≡ 0) × (g.answer.rows ≡ s.rows) × (g.answer.tries ≡ s.tries) × (take (g.answer.rows * (figure_in a).graph.size) g.list ≡ take (s.rows * (figure_in a).graph.size) s.list)) (sym other) (by_contract a g p (λ r. let s = search a.figure a.patch b.memory b.list b.allowance in r.number ≡ 0 → s.number ≤ 2 → (s.number ≡ 0) × (r.rows ≡ s.rows) × (r.tries ≡ s.tries) × (take (r.rows * (figure_in a).graph.size) r.list ≡ take (s.rows * (figure_in a).graph.size) s.list)) (rules.complete_stays a.figure a.patch a.memory b.memory a.list b.list a.allowance b.allowance room allowed))

-- `read`: exactly one result is allowed
pub one_read : (a : ReadAsked) (g h : ReadGiven) → ReadAllows a g → ReadAllows a h → g ≡ h
one_read a g h p q =
    let e = p ∙ sym q in
    λ i. record { answer = record { number = (e i).number; line = (e i).line; vertices = (e i).vertices; lines = (e i).lines }; kinds = (e i).kind_list; lines = (e i).line_list }

-- it reads exactly if the sheet is a patch's and the lists are long enough, and changes only the first n and 3m numbers
module _ (a : ReadAsked) (g : ReadGiven) (p : ReadAllows a g) where
  pub reads_exactly : (g.answer.number ≡ 0) ↔ ReaderHanded a.sheet a.kinds a.lines
  reads_exactly = subst (λ r. (r.number ≡ 0) ↔ ReaderHanded a.sheet a.kinds a.lines) (sym p) (rules.reads_exactly a.sheet a.kinds a.lines)

  -- the line beside the number: the offending one with 24 and 25, none with any other number
  pub read_line_named : LineTold 20 (vertex_count a.sheet) (held a.sheet).lines g.answer.number g.answer.line
  read_line_named = subst (λ r. LineTold 20 (vertex_count a.sheet) (held a.sheet).lines r.number r.line) (sym p) (rules.reader_line_named a.sheet a.kinds a.lines)

  pub read_changes_only : (drop g.answer.vertices g.kinds ≡ drop g.answer.vertices a.kinds) × (drop (3 * g.answer.lines) g.lines ≡ drop (3 * g.answer.lines) a.lines)
  read_changes_only = subst (λ r. (drop r.vertices r.kind_list ≡ drop r.vertices a.kinds) × (drop (3 * r.lines) r.line_list ≡ drop (3 * r.lines) a.lines)) (sym p) (rules.reader_changes_only a.sheet a.kinds a.lines)

-- `write`: exactly one result is allowed
pub one_written : (a : WriteAsked) (g h : WriteGiven) → WriteAllows a g → WriteAllows a h → g ≡ h
one_written a g h p q =
    let e = p ∙ sym q in
    λ i. record { answer = record { number = (e i).number; line = (e i).line; count = (e i).count }; bytes = (e i).bytes }

-- it writes exactly if the lists are a patch's sheet and there are bytes enough, and changes only the bytes that it counts
module _ (a : WriteAsked) (g : WriteGiven) (p : WriteAllows a g) where
  pub writes_exactly : (g.answer.number ≡ 0) ↔ WriterHanded a.kinds a.lines a.bytes
  writes_exactly = subst (λ w. (w.number ≡ 0) ↔ WriterHanded a.kinds a.lines a.bytes) (sym p) (rules.writes_exactly a.kinds a.lines a.bytes)

  -- the line beside the number: the offending one with 24 and 25, none with any other number
  pub write_line_named : LineTold 20 (length a.kinds) (lines_of a.lines) g.answer.number g.answer.line
  write_line_named = subst (λ w. LineTold 20 (length a.kinds) (lines_of a.lines) w.number w.line) (sym p) (rules.writer_line_named a.kinds a.lines a.bytes)

  pub write_changes_only : drop g.answer.count g.bytes ≡ drop g.answer.count a.bytes
  write_changes_only = subst (λ w. drop w.count w.bytes ≡ drop w.count a.bytes) (sym p) (rules.writer_changes_only a.kinds a.lines a.bytes)

-- read, then written: a sheet that was read, written again by `write`, is the same bytes
pub read_then_written : (a : ReadAsked) (g : ReadGiven) → ReadAllows a g → Bytes a.sheet → g.answer.number ≡ 0 → (b : WriteAsked) (h : WriteGiven) → WriteAllows b h → b.kinds ≡ take g.answer.vertices g.kinds → b.lines ≡ take (3 * g.answer.lines) g.lines → length a.sheet ≤ length b.bytes → (h.answer.number ≡ 0) × (h.answer.count ≡ length a.sheet) × (h.bytes ≡ over a.sheet b.bytes)
read_then_written a g p small z b h q kinds lines long =
    let again = subst (λ r. r.number ≡ 0 → writer (take r.vertices r.kind_list) (take (3 * r.lines) r.line_list) b.bytes ≡ record { number = 0; line = no_line; count = length a.sheet; bytes = over a.sheet b.bytes }) (sym p) (rules.read_then_written a.sheet a.kinds a.lines b.bytes small long) z in
    let e : written_of h ≡ record { number = 0; line = no_line; count = length a.sheet; bytes = over a.sheet b.bytes } = q ∙ (λ i. writer (kinds i) (lines i) b.bytes) ∙ again in
    (ap (λ w. w.number) e, ap (λ w. w.count) e, ap (λ w. w.bytes) e)

-- written, then read: lists that were written, read again by `read`, are the same lists
pub written_then_read : (a : WriteAsked) (g : WriteGiven) → WriteAllows a g → g.answer.number ≡ 0 → (b : ReadAsked) (h : ReadGiven) → ReadAllows b h → b.sheet ≡ take g.answer.count g.bytes → length a.kinds ≤ length b.kinds → length a.lines ≤ length b.lines → (h.answer.number ≡ 0) × (h.kinds ≡ over a.kinds b.kinds) × (h.lines ≡ over a.lines b.lines)
written_then_read a g p z b h q sheet k l =
    let again = subst (λ w. w.number ≡ 0 → reader (take w.count w.bytes) b.kinds b.lines ≡ record { number = 0; line = no_line; vertices = length a.kinds; lines = length a.lines / 3; kind_list = over a.kinds b.kinds; line_list = over a.lines b.lines }) (sym p) (rules.written_then_read a.kinds a.lines a.bytes b.kinds b.lines k l) z in
    let e : read_of h ≡ record { number = 0; line = no_line; vertices = length a.kinds; lines = length a.lines / 3; kind_list = over a.kinds b.kinds; line_list = over a.lines b.lines } = q ∙ (λ i. reader (sheet i) b.kinds b.lines) ∙ again in
    (ap (λ r. r.number) e, ap (λ r. r.kind_list) e, ap (λ r. r.line_list) e)
