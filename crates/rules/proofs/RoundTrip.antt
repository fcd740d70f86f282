-- A sheet that is read and written again is the same bytes, and lists that are written and read again are the same lists.
use Prim.Native.Nat.{ℕ, zero, suc, ◌+◌, ◌*◌, ◌-◌, ◌/◌, ◌%◌, ◌≤◌, ◌<◌}
use mathlib.Core.Path.{◌≡◌, refl, ap, ap₂, sym, ◌∙◌}
use mathlib.Core.List.{List, [], ◌∷◌, ◌++◌, map, append_assoc, Memᴰ}
use native.Mathlib.Decide.{dec_lt}
use native.Mathlib.Omega.{arith}
use lib.ListN.{length, get_or, length-append, get_or-eq_default}
use Rattle.laws.specs.Lists.{upto}
use Rattle.rules.specs.Sheet.{Line, Sheet, Bytes, bit_at, word, field, vertex_count, line_count, bit_length, byte_length, kinds_held, line_at, lines_held, held, bits, kind_bits, line_bits, layout, packed, written}
use Rattle.rules.specs.Checks.{Limits, patch_limits, Accepted}
use Rattle.rules.specs.Calls.{Writable}
use Rattle.laws.proofs.Lists.{map_upto, map_upto_append, get_or_in, get_or_map_upto, get_or_first, firsts, length_map_upto}
use Rattle.rules.proofs.Fields.{bit_at_lt, word_same, bits_word, length_bits, word_at, word_bit, byte_word, Two, two_append, two_bits}

module _ (bytes : List ℕ) where
  abbrev f : ℕ → ℕ
  f = bit_at bytes

  -- the bits of what is held are the bits of the bytes
  kinds_run : (n i : ℕ) → kind_bits (map (λ k. field bytes (22 + 6 * k) 6) (upto n i)) ≡ map f (upto (6 * n) (22 + 6 * i))
  unfolding kind_bits
  kinds_run zero i = refl
  kinds_run (suc n) i = rw (bits_word f (bit_at_lt bytes) (22 + 6 * i) 6, kinds_run n (suc i)) (map_upto_append f 6 (6 * n) (22 + 6 * i) (22 + 6 * suc i) (6 * suc n) (omega arith) (omega arith))

  lines_run : (s m j : ℕ) → line_bits (map (λ k. line_at bytes (s + 20 * k)) (upto m j)) ≡ map f (upto (20 * m) (s + 20 * j))
  unfolding line_bits line_at
  lines_run s zero j = refl
  lines_run s (suc m) j = rw (bits_word f (bit_at_lt bytes) (s + 20 * j) 2, bits_word f (bit_at_lt bytes) (s + 20 * j + 2) 9, bits_word f (bit_at_lt bytes) (s + 20 * j + 11) 9, lines_run s m (suc j), map_upto_append f 9 (20 * m) (s + 20 * j + 11) (s + 20 * suc j) (9 + 20 * m) (omega arith) refl, map_upto_append f 9 (9 + 20 * m) (s + 20 * j + 2) (s + 20 * j + 11) (18 + 20 * m) (omega arith) (omega arith)) (map_upto_append f 2 (18 + 20 * m) (s + 20 * j) (s + 20 * j + 2) (20 * suc m) refl (omega arith))

  layout_run : layout (held bytes) ≡ map f (upto (bit_length (vertex_count bytes) (line_count bytes)) 0)
  unfolding layout kinds_held lines_held
  layout_run =
      let n = vertex_count bytes in
      let m = line_count bytes in
      rw (length_map_upto (λ k. field bytes (22 + 6 * k) 6) n 0, length_map_upto (λ k. line_at bytes (22 + 6 * n + 20 * k)) m 0, kinds_run n 0, lines_run (22 + 6 * n) m 0, bits_word f (bit_at_lt bytes) 0 10, bits_word f (bit_at_lt bytes) 10 12, map_upto_append f (6 * n) (20 * m) 22 (22 + 6 * n + 20 * 0) (6 * n + 20 * m) (omega arith) refl, map_upto_append f 12 (6 * n + 20 * m) 10 22 (12 + (6 * n + 20 * m)) (omega arith) refl) (map_upto_append f 10 (12 + (6 * n + 20 * m)) 0 10 (bit_length n m) (omega arith) (omega arith))

-- an accepted sheet read and written again is the same bytes
pub read_written : (L : Limits) (bytes : List ℕ) → Bytes bytes → Accepted L bytes → written (held bytes) ≡ bytes
unfolding packed kinds_held lines_held
read_written L bytes small A = rw (length_map_upto (λ k. field bytes (22 + 6 * k) 6) (vertex_count bytes) 0, length_map_upto (λ k. line_at bytes (22 + 6 * vertex_count bytes + 20 * k)) (line_count bytes) 0, ← A.long, layout_run) (map_upto _ (λ k. get_or bytes k 0) (length bytes) 0 (λ k a h. word_same _ (bit_at bytes) (8 * k) 8 (λ j b c. agree j (omega arith)) ∙ byte_word bytes k (small _ (get_or_in 0 bytes k (omega arith)))) ∙ sym (firsts bytes _ 0 (length bytes) refl (λ k h. refl)))
  where
    B : ℕ
    B = bit_length (vertex_count bytes) (line_count bytes)

    agree : (j : ℕ) → j < 8 * length bytes → get_or (map (bit_at bytes) (upto B 0)) j 0 ≡ bit_at bytes j
    agree j h = elim (dec_lt j B) [
      | yes l ↦ get_or_first (bit_at bytes) 0 B j l
      | no l ↦ get_or-eq_default (map (bit_at bytes) (upto B 0)) 0 {n = j} (rw length_map_upto (omega arith)) ∙ sym (A.filling j (omega arith) h)
    ]

-- the bits of kinds, of lines and of a sheet are bits, and as many as the layout says
two_kinds : (ks : List ℕ) → Two (kind_bits ks)
unfolding kind_bits
two_kinds [] j = omega arith
two_kinds (k ∷ ks) j = two_append (bits 6 k) (kind_bits ks) (two_bits 6 k) (two_kinds ks) j

two_lines : (ls : List Line) → Two (line_bits ls)
unfolding line_bits
two_lines [] j = omega arith
two_lines (l ∷ ls) j = two_append (bits 2 l.type) _ (two_bits 2 l.type) (two_append (bits 9 l.first) _ (two_bits 9 l.first) (two_append (bits 9 l.second) _ (two_bits 9 l.second) (two_lines ls))) j

two_layout : (s : Sheet) → Two (layout s)
unfolding layout
two_layout s = two_append (bits 10 (length s.kinds)) _ (two_bits 10 (length s.kinds)) (two_append (bits 12 (length s.lines)) _ (two_bits 12 (length s.lines)) (two_append (kind_bits s.kinds) _ (two_kinds s.kinds) (two_lines s.lines)))

pub length_kinds : (ks : List ℕ) → length (kind_bits ks) ≡ 6 * length ks
unfolding kind_bits
length_kinds [] = refl
length_kinds (k ∷ ks) = simp (length-append, length_bits, length_kinds ks) (omega arith)

pub length_lines : (ls : List Line) → length (line_bits ls) ≡ 20 * length ls
unfolding line_bits
length_lines [] = refl
length_lines (l ∷ ls) = simp (length-append, length_bits, length_lines ls) (omega arith)

pub length_layout : (s : Sheet) → length (layout s) ≡ bit_length (length s.kinds) (length s.lines)
unfolding layout
length_layout s = simp (length-append, length_bits, length_kinds, length_lines) (omega arith)

-- the bits of a packed list are the list's, with zero bits after them
packed_bit : (count : ℕ) (l : List ℕ) → Two l → (j : ℕ) → j < 8 * count → bit_at (packed count l) j ≡ get_or l j 0
unfolding bit_at packed
packed_bit count l two j h =
    let e : 7 - j % 8 ≡ 8 - suc (j % 8) = omega arith in
    rw (get_or_map_upto (λ i. word (λ k. get_or l k 0) (8 * i) 8) 0 count 0 (j / 8) (omega arith), e) (word_bit (λ k. get_or l k 0) two (8 * (0 + j / 8)) 8 (j % 8) (omega arith) ∙ ap (λ k. get_or l k 0) {x = 8 * (0 + j / 8) + j % 8} {y = j} (omega arith))

-- kinds and lines are read from their bits
module _ (l : List ℕ) where
  kinds_back : (a c ks : List ℕ) (i : ℕ) → l ≡ a ++ (kind_bits ks ++ c) → length a ≡ 22 + 6 * i → ((k : ℕ) → Memᴰ k ks → k ≤ 63) → map (λ k. word (λ j. get_or l j 0) (22 + 6 * k) 6) (upto (length ks) i) ≡ ks
  unfolding kind_bits
  kinds_back a c [] i p e h = refl
  kinds_back a c (k ∷ ks) i p e h = ap₂ ◌∷◌ (word_at l a (kind_bits ks ++ c) (22 + 6 * i) 6 k (p ∙ simp append_assoc) e (omega (arith, h k (Memᴰ.head refl)))) (kinds_back (a ++ bits 6 k) c ks (suc i) (p ∙ simp append_assoc) (simp (length-append, length_bits, e) (omega arith)) (λ x m. h x (Memᴰ.tail m)))

  -- the line at bit i of the list
  abbrev line_in : ℕ → Line
  line_in i = record { type = word (λ j. get_or l j 0) i 2; first = word (λ j. get_or l j 0) (i + 2) 9; second = word (λ j. get_or l j 0) (i + 11) 9 }

  lines_back : (s : ℕ) (a : List ℕ) (ls : List Line) (i : ℕ) → l ≡ a ++ line_bits ls → length a ≡ s + 20 * i → ((k : Line) → Memᴰ k ls → (k.type < 4) × (k.first < 512) × (k.second < 512)) → map (λ k. line_in (s + 20 * k)) (upto (length ls) i) ≡ ls
  unfolding line_bits
  lines_back s a [] i p e h = refl
  lines_back s a (k ∷ ls) i p e h =
      let w = h k (Memᴰ.head refl) in
      let t = word_at l a _ (s + 20 * i) 2 k.type p e w.0 in
      let f = word_at l (a ++ bits 2 k.type) (bits 9 k.second ++ line_bits ls) (s + 20 * i + 2) 9 k.first (p ∙ simp append_assoc) (simp (length-append, length_bits, e)) w.1 in
      let g = word_at l (a ++ (bits 2 k.type ++ bits 9 k.first)) (line_bits ls) (s + 20 * i + 11) 9 k.second (p ∙ simp append_assoc) (simp (length-append, length_bits, e)) w.2 in
      ap₂ ◌∷◌ (λ j. record { type = t j; first = f j; second = g j }) (lines_back s (a ++ (bits 2 k.type ++ (bits 9 k.first ++ bits 9 k.second))) ls (suc i) (p ∙ simp append_assoc) (simp (length-append, length_bits, e) (omega arith)) (λ x m. h x (Memᴰ.tail m)))

module _ (s : Sheet) (W : Writable s) where
  abbrev n : ℕ
  n = length s.kinds

  abbrev m : ℕ
  m = length s.lines

  abbrev g : ℕ → ℕ
  g j = get_or (layout s) j 0

  -- a field of what is written is that of the layout
  field_back : (i w : ℕ) → i + w ≤ bit_length n m → field (written s) i w ≡ word g i w
  field_back i w h = word_same _ g i w (λ j a b. packed_bit (byte_length n m) (layout s) (two_layout s) j (omega arith))

  pub count_back : (vertex_count (written s) ≡ n) × (line_count (written s) ≡ m)
  unfolding layout
  count_back = (field_back 0 10 (omega arith) ∙ word_at (layout s) [] _ 0 10 n refl refl (omega (arith, W.vertices)), field_back 10 12 (omega arith) ∙ word_at (layout s) (bits 10 n) _ 10 12 m refl (length_bits 10 n) (omega (arith, W.lines)))

  -- what is written and read again is the same sheet
  pub written_read : held (written s) ≡ s
  unfolding layout kinds_held lines_held line_at
  written_read = rw (count_back.0, count_back.1) (λ i. record { kinds = kinds_eq i; lines = lines_eq i })
    where
      kinds_eq : map (λ k. field (written s) (22 + 6 * k) 6) (upto n 0) ≡ s.kinds
      kinds_eq = map_upto _ (λ k. word g (22 + 6 * k) 6) n 0 (λ k a h. field_back (22 + 6 * k) 6 (omega arith)) ∙ kinds_back (layout s) (bits 10 n ++ bits 12 m) (line_bits s.lines) s.kinds 0 (simp append_assoc) (simp (length-append, length_bits)) W.kinds

      line_back : (i : ℕ) → i + 20 ≤ bit_length n m → line_at (written s) i ≡ line_in (layout s) i
      line_back i h =
          let t = field_back i 2 (omega arith) in
          let f = field_back (i + 2) 9 (omega arith) in
          let c = field_back (i + 11) 9 (omega arith) in
          λ j. record { type = t j; first = f j; second = c j }

      lines_eq : map (λ k. line_at (written s) (22 + 6 * n + 20 * k)) (upto m 0) ≡ s.lines
      lines_eq = map_upto _ (λ k. line_in (layout s) (22 + 6 * n + 20 * k)) m 0 (λ k a h. line_back (22 + 6 * n + 20 * k) (omega arith)) ∙ lines_back (layout s) (22 + 6 * n) (bits 10 n ++ (bits 12 m ++ kind_bits s.kinds)) s.lines 0 (simp append_assoc) (simp (length-append, length_bits, length_kinds) (omega arith)) (λ l k. omega (arith, W.drawn.fit l k, W.vertices))

  -- as many bytes are written as the counts give
  pub written_long : length (written s) ≡ byte_length n m
  unfolding packed
  written_long = length_map_upto _ (byte_length n m) 0

  -- and they are a patch's sheet
  pub written_accepted : Accepted patch_limits (written s)
  written_accepted = record {
    vertex = rw count_back.0 W.vertex;
    vertices = rw count_back.0 W.vertices;
    lines = rw count_back.1 W.lines;
    long = rw (count_back.0, count_back.1) written_long;
    filling = λ i h k. packed_bit (byte_length n m) (layout s) (two_layout s) i (rw written_long at k) ∙ get_or-eq_default (layout s) 0 {n = i} (rw (length_layout s) (omega (arith, rw (count_back.0, count_back.1) at h)));
    drawn = rw (ap (λ t. t.lines) written_read, count_back.0) W.drawn;
  }
