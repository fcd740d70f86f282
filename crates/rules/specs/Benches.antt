-- Document 01, "Benches": one table of calls on bytes, one theorem. a to i are starred there, j and k are run there too, l to r are our own, p and q for document 02, Wish 2, r for Wish 6.
use Rattle.std.specs.Prelude.{ℕ, ◌≡◌, refl, replicate}
use mathlib.Core.List.{List, [], ◌∷◌, ◌++◌, map, flatten}
use Rattle.laws.specs.Masks.{in_mask}
use Rattle.rules.specs.Sheet.{panel, cable, normalled, written, packed, layout, bits, word, bit_at, kinds_held, line_at, lines_held, kind_bits, line_bits}
use Rattle.rules.specs.Live.{plugged, dead}
use Rattle.rules.specs.Checks.{verdict, checked}
use Rattle.rules.specs.Place.{kind_fits, image, placed}
use Rattle.rules.specs.Candidates.{at_first, first_sets, root, root_from, order, order_from, newcomers, before, parents, union, ancestors, ancestors_from, supported, pass, refined}
use Rattle.rules.specs.Tries.{tries_of, plan_of, level, first_set, attempt, opening, siblings, skips, join_set, last_set, takeable, user, row_of, after}
use Rattle.rules.specs.Partials.{partials, partials_of, partials_up_to, placings, is_partial, line_kept}
use Rattle.rules.specs.Answer.{cut, tried}
use Rattle.rules.specs.Calls.{reader, writer, search, triples, lines_of, figure_of, patch_of, connected}

-- a call of the table; of what is lent it tells the length, and every number in it is 4 before the call
pub data Call : Type 0 where
  write : (kind_list line_list : List ℕ) → Call
  read : (bytes : List ℕ) → Call
  find : (figure patch : List ℕ) (memoryLength listLength allowance : ℕ) → Call

-- what comes back: the number, the counts, then the lent bytes or lists as they are afterwards
unfoldable pub run : Call → List ℕ
run (write ks ls) = let w = writer ks ls (replicate 8 4) in w.number ∷ w.count ∷ w.bytes
run (read b) = let r = reader b (replicate 3 4) (replicate 4 4) in r.number ∷ r.vertices ∷ r.lines ∷ (r.kind_list ++ r.line_list)
run (find f p k n a) = let s = search f p (replicate k 4) (replicate n 4) a in s.number ∷ s.rows ∷ s.tries ∷ s.list

-- the number that comes back, and the line beside it
unfoldable pub number_and_line : Call → ℕ × ℕ
number_and_line (write ks ls) = let w = writer ks ls (replicate 8 4) in (w.number, w.line)
number_and_line (read b) = let r = reader b (replicate 3 4) (replicate 4 4) in (r.number, r.line)
number_and_line (find f p k n a) = let s = search f p (replicate k 4) (replicate n 4) a in (s.number, s.line)

-- the sheet of kinds and of cables between pairs of vertices
abbrev pub S : List ℕ → List (ℕ × ℕ) → List ℕ
S ks ls = written (record { kinds = ks; lines = map (λ l. record { type = cable; first = l.0; second = l.1 }) ls })

-- the sheet of kinds and of lines, each a type and a pair of vertices
abbrev pub T : List ℕ → List (ℕ × (ℕ × ℕ)) → List ℕ
T ks ls = written (record { kinds = ks; lines = map (λ l. record { type = l.0; first = l.1.0; second = l.1.1 }) ls })

-- working memory that is just long enough
abbrev pub W : ℕ
W = 22_528

-- the figure of benches c, d and e, which is bench a's sheet
abbrev pub c_f : List ℕ
c_f = 0x00 ∷ 0x80 ∷ 0x04 ∷ 0x10 ∷ 0x90 ∷ 0x00 ∷ 0x04 ∷ []

-- the patch of benches c, d and e
abbrev pub c_p : List ℕ
c_p = S (1 ∷ 2 ∷ 2 ∷ []) ((0, 1) ∷ (0, 2) ∷ [])

-- figure and patch of bench f
abbrev pub f_s : List ℕ
f_s = S (2 ∷ 2 ∷ []) ((0, 1) ∷ [])

-- the triangle of bench g
abbrev pub g_f : List ℕ
g_f = S (3 ∷ 3 ∷ 3 ∷ []) ((0, 1) ∷ (0, 2) ∷ (1, 2) ∷ [])

-- the four-ring of bench g
abbrev pub g_p : List ℕ
g_p = S (3 ∷ 3 ∷ 3 ∷ 3 ∷ []) ((0, 1) ∷ (0, 3) ∷ (1, 2) ∷ (2, 3) ∷ [])

-- the figure of bench h
abbrev pub h_f : List ℕ
h_f = S (1 ∷ 2 ∷ 3 ∷ 2 ∷ []) ((0, 1) ∷ (0, 2) ∷ (0, 3) ∷ [])

-- the patch of bench h
abbrev pub h_p : List ℕ
h_p = S (1 ∷ 2 ∷ 3 ∷ 3 ∷ 3 ∷ []) ((0, 1) ∷ (0, 2) ∷ (0, 3) ∷ (0, 4) ∷ [])

-- the figure of bench i
abbrev pub i_f : List ℕ
i_f = S (1 ∷ 2 ∷ 2 ∷ 4 ∷ []) ((0, 1) ∷ (0, 2) ∷ (2, 3) ∷ [])

-- the patch of bench i
abbrev pub i_p : List ℕ
i_p = S (1 ∷ 2 ∷ 2 ∷ 4 ∷ []) ((0, 1) ∷ (0, 2) ∷ (1, 3) ∷ [])

-- bench b's sheet
abbrev pub b_s : List ℕ
b_s = 0x00 ∷ 0x40 ∷ 0x00 ∷ 0x50 ∷ []

-- the same with last byte 51
abbrev pub b_t : List ℕ
b_t = 0x00 ∷ 0x40 ∷ 0x00 ∷ 0x51 ∷ []

-- the patch of bench j
abbrev pub j_p : List ℕ
j_p = S (5 ∷ 5 ∷ 5 ∷ []) []

-- the triangle of bench l
abbrev pub l_f : List ℕ
l_f = S (0 ∷ 1 ∷ 2 ∷ []) ((0, 1) ∷ (0, 2) ∷ (1, 2) ∷ [])

-- the patch of bench l, where a set becomes empty only in the third pass
abbrev pub l_p : List ℕ
l_p = S (2 ∷ 2 ∷ 2 ∷ 1 ∷ 0 ∷ 0 ∷ 1 ∷ 1 ∷ 0 ∷ []) ((0, 2) ∷ (0, 3) ∷ (1, 6) ∷ (1, 8) ∷ (2, 4) ∷ (2, 7) ∷ (2, 8) ∷ (3, 7) ∷ (4, 6) ∷ (5, 6) ∷ (5, 7) ∷ [])

-- the patch of bench m, where the passes would change the root
abbrev pub m_p : List ℕ
m_p = S (1 ∷ 0 ∷ 0 ∷ 1 ∷ []) ((0, 1) ∷ (0, 2) ∷ (0, 3) ∷ [])

-- the figure of most of bench p
abbrev pub p_f : List ℕ
p_f = S (16 ∷ 32 ∷ []) ((0, 1) ∷ [])

-- the figure of bench p with two lines at one jack
abbrev pub p_g : List ℕ
p_g = S (32 ∷ 16 ∷ 17 ∷ []) ((0, 1) ∷ (0, 2) ∷ [])

-- the figure of bench r whose line 1 is not after its line 0
abbrev pub r_f : List ℕ
r_f = S (1 ∷ 2 ∷ []) ((0, 1) ∷ (0, 1) ∷ [])

-- bench a: the sheet is written, and read
abbrev pub a : List (Call × List ℕ)
a = (write (1 ∷ 2 ∷ []) (1 ∷ 0 ∷ 1 ∷ []), 0 ∷ 7 ∷ (c_f ++ 4 ∷ [])) ∷ (read c_f, 0 ∷ 2 ∷ 1 ∷ 1 ∷ 2 ∷ 4 ∷ 1 ∷ 0 ∷ 1 ∷ 4 ∷ []) ∷ []

-- bench b: the sheet is written, and read; with last byte 51 it is refused by the reader, as a figure and as a patch
abbrev pub b : List (Call × List ℕ)
b =
    (write (5 ∷ []) [], 0 ∷ 4 ∷ (b_s ++ 4 ∷ 4 ∷ 4 ∷ 4 ∷ []))
    ∷ (read b_s, 0 ∷ 1 ∷ 0 ∷ 5 ∷ 4 ∷ 4 ∷ 4 ∷ 4 ∷ 4 ∷ 4 ∷ [])
    ∷ (read b_t, 23 ∷ 0 ∷ 0 ∷ 4 ∷ 4 ∷ 4 ∷ 4 ∷ 4 ∷ 4 ∷ 4 ∷ [])
    ∷ (find b_t c_p W 2 10, 13 ∷ 0 ∷ 0 ∷ 4 ∷ 4 ∷ [])
    ∷ (find c_f b_t W 2 10, 23 ∷ 0 ∷ 0 ∷ 4 ∷ 4 ∷ [])
    ∷ []

-- bench c: two rows, complete, 3 tries
abbrev pub c : List (Call × List ℕ)
c = (find c_f c_p W 6 10, 0 ∷ 2 ∷ 3 ∷ 0 ∷ 1 ∷ 0 ∷ 2 ∷ 4 ∷ 4 ∷ []) ∷ []

-- bench d: an allowance of 2, and of 3
abbrev pub d : List (Call × List ℕ)
d = (find c_f c_p W 6 2, 2 ∷ 1 ∷ 2 ∷ 0 ∷ 1 ∷ 4 ∷ 4 ∷ 4 ∷ 4 ∷ []) ∷ (find c_f c_p W 6 3, 0 ∷ 2 ∷ 3 ∷ 0 ∷ 1 ∷ 0 ∷ 2 ∷ 4 ∷ 4 ∷ []) ∷ []

-- bench e: room for 1 row, and for 2
abbrev pub e : List (Call × List ℕ)
e = (find c_f c_p W 2 10, 1 ∷ 1 ∷ 3 ∷ 0 ∷ 1 ∷ []) ∷ (find c_f c_p W 4 10, 0 ∷ 2 ∷ 3 ∷ 0 ∷ 1 ∷ 0 ∷ 2 ∷ []) ∷ []

-- bench f: both mirror images
abbrev pub f : List (Call × List ℕ)
f = (find f_s f_s W 5 10, 0 ∷ 2 ∷ 4 ∷ 0 ∷ 1 ∷ 1 ∷ 0 ∷ 4 ∷ []) ∷ []

-- bench g: no triangle in a four-ring, 12 tries
abbrev pub g : List (Call × List ℕ)
g = (find g_f g_p W 3 100, 0 ∷ 0 ∷ 12 ∷ 4 ∷ 4 ∷ 4 ∷ []) ∷ []

-- bench h: none, 4 tries
abbrev pub h : List (Call × List ℕ)
h = (find h_f h_p W 4 100, 0 ∷ 0 ∷ 4 ∷ 4 ∷ 4 ∷ 4 ∷ 4 ∷ []) ∷ []

-- bench i: one row, 6 tries
abbrev pub i : List (Call × List ℕ)
i = (find i_f i_p W 8 100, 0 ∷ 1 ∷ 6 ∷ 0 ∷ 2 ∷ 1 ∷ 3 ∷ 4 ∷ 4 ∷ 4 ∷ 4 ∷ []) ∷ []

-- bench j: a figure of one vertex; of a kind that the patch lacks it gets no try, even with allowance 0
abbrev pub j : List (Call × List ℕ)
j = (find b_s j_p W 4 10, 0 ∷ 3 ∷ 3 ∷ 0 ∷ 1 ∷ 2 ∷ 4 ∷ []) ∷ (find (S (6 ∷ []) []) j_p W 4 0, 0 ∷ 0 ∷ 0 ∷ 4 ∷ 4 ∷ 4 ∷ 4 ∷ []) ∷ []

-- bench k: 33 vertices, two unjoined vertices, short working memory
abbrev pub k : List (Call × List ℕ)
k = (find (S (replicate 33 5) []) j_p W 1 10, 12 ∷ 0 ∷ 0 ∷ 4 ∷ []) ∷ (find (S (5 ∷ 5 ∷ []) []) j_p W 1 10, 16 ∷ 0 ∷ 0 ∷ 4 ∷ []) ∷ (find c_f c_p 22_527 1 10, 31 ∷ 0 ∷ 0 ∷ 4 ∷ []) ∷ []

-- our bench l: the third pass empties a set, so there is no try; two passes would leave 2 tries
abbrev pub l : List (Call × List ℕ)
l = (find l_f l_p W 1 10, 0 ∷ 0 ∷ 0 ∷ 4 ∷ []) ∷ []

-- our bench m: the root is chosen before the passes; after them it would be the other vertex, with 3 tries
abbrev pub m : List (Call × List ℕ)
m = (find (S (0 ∷ 1 ∷ []) ((0, 1) ∷ [])) m_p W 4 10, 0 ∷ 2 ∷ 4 ∷ 1 ∷ 0 ∷ 2 ∷ 0 ∷ []) ∷ []

-- our bench n: a line whose first end is not below its second; a line that stands twice; a line with both faults, where 24 comes before 25
abbrev pub n : List (Call × List ℕ)
n =
    (read (S (1 ∷ 2 ∷ []) ((1, 1) ∷ [])), 24 ∷ 0 ∷ 0 ∷ 4 ∷ 4 ∷ 4 ∷ 4 ∷ 4 ∷ 4 ∷ 4 ∷ [])
    ∷ (read (S (1 ∷ 2 ∷ []) ((0, 1) ∷ (0, 1) ∷ [])), 25 ∷ 0 ∷ 0 ∷ 4 ∷ 4 ∷ 4 ∷ 4 ∷ 4 ∷ 4 ∷ 4 ∷ [])
    ∷ (read (S (1 ∷ 2 ∷ []) ((0, 1) ∷ (0, 0) ∷ [])), 24 ∷ 0 ∷ 0 ∷ 4 ∷ 4 ∷ 4 ∷ 4 ∷ 4 ∷ 4 ∷ 4 ∷ [])
    ∷ []

-- our bench o: a sheet whose bits fill its last byte has no byte more
abbrev pub o : List (Call × List ℕ)
o = (write (5 ∷ 5 ∷ 5 ∷ []) [], 0 ∷ 5 ∷ 0x00 ∷ 0xC0 ∷ 0x00 ∷ 0x51 ∷ 0x45 ∷ 4 ∷ 4 ∷ 4 ∷ []) ∷ []

-- our bench p: a normalled line is live; a cable added at its input jack loses the place, whichever end that is; one at the other end, of kind 31, does not; a panel line is not cut; a panel line is no plug; two normalled lines at one jack, and a cable that cuts both; kind 59 is cut, kind 60 is not
abbrev pub p : List (Call × List ℕ)
p =
    (find p_f (T (16 ∷ 32 ∷ 17 ∷ []) ((normalled, (0, 1)) ∷ [])) W 2 10, 0 ∷ 1 ∷ 2 ∷ 0 ∷ 1 ∷ [])
    ∷ (find p_f (T (16 ∷ 32 ∷ 17 ∷ []) ((normalled, (0, 1)) ∷ (cable, (1, 2)) ∷ [])) W 2 10, 0 ∷ 0 ∷ 0 ∷ 4 ∷ 4 ∷ [])
    ∷ (find (S (32 ∷ 16 ∷ []) ((0, 1) ∷ [])) (T (32 ∷ 16 ∷ 17 ∷ []) ((normalled, (0, 1)) ∷ (cable, (0, 2)) ∷ [])) W 2 10, 0 ∷ 0 ∷ 0 ∷ 4 ∷ 4 ∷ [])
    ∷ (find (S (31 ∷ 32 ∷ []) ((0, 1) ∷ [])) (T (31 ∷ 32 ∷ 33 ∷ []) ((normalled, (0, 1)) ∷ (cable, (0, 2)) ∷ [])) W 2 10, 0 ∷ 1 ∷ 2 ∷ 0 ∷ 1 ∷ [])
    ∷ (find (S (1 ∷ 32 ∷ []) ((0, 1) ∷ [])) (T (1 ∷ 32 ∷ 16 ∷ []) ((panel, (0, 1)) ∷ (cable, (1, 2)) ∷ [])) W 2 10, 0 ∷ 1 ∷ 2 ∷ 0 ∷ 1 ∷ [])
    ∷ (find p_f (T (16 ∷ 32 ∷ 1 ∷ []) ((normalled, (0, 1)) ∷ (panel, (1, 2)) ∷ [])) W 2 10, 0 ∷ 1 ∷ 2 ∷ 0 ∷ 1 ∷ [])
    ∷ (find p_g (T (16 ∷ 32 ∷ 17 ∷ 18 ∷ []) ((normalled, (0, 1)) ∷ (normalled, (1, 2)) ∷ [])) W 3 10, 0 ∷ 1 ∷ 3 ∷ 1 ∷ 0 ∷ 2 ∷ [])
    ∷ (find p_g (T (16 ∷ 32 ∷ 17 ∷ 18 ∷ []) ((normalled, (0, 1)) ∷ (normalled, (1, 2)) ∷ (cable, (1, 3)) ∷ [])) W 3 10, 0 ∷ 0 ∷ 0 ∷ 4 ∷ 4 ∷ 4 ∷ [])
    ∷ (find (S (16 ∷ 59 ∷ []) ((0, 1) ∷ [])) (T (16 ∷ 59 ∷ 17 ∷ []) ((normalled, (0, 1)) ∷ (cable, (1, 2)) ∷ [])) W 2 10, 0 ∷ 0 ∷ 0 ∷ 4 ∷ 4 ∷ [])
    ∷ (find (S (16 ∷ 60 ∷ []) ((0, 1) ∷ [])) (T (16 ∷ 60 ∷ 17 ∷ []) ((normalled, (0, 1)) ∷ (cable, (1, 2)) ∷ [])) W 2 10, 0 ∷ 1 ∷ 2 ∷ 0 ∷ 1 ∷ [])
    ∷ []

-- our bench q: a dead line is not in the degree either, so there is no try; in a figure the line counts, whatever meets its ends
abbrev pub q : List (Call × List ℕ)
q =
    (find (S (16 ∷ 32 ∷ 32 ∷ []) ((0, 1) ∷ (0, 2) ∷ [])) (T (16 ∷ 32 ∷ 32 ∷ 17 ∷ []) ((normalled, (0, 1)) ∷ (normalled, (0, 2)) ∷ (cable, (2, 3)) ∷ [])) W 3 10, 0 ∷ 0 ∷ 0 ∷ 4 ∷ 4 ∷ 4 ∷ [])
    ∷ (find (T (16 ∷ 32 ∷ 17 ∷ []) ((normalled, (0, 1)) ∷ (cable, (1, 2)) ∷ [])) (S (16 ∷ 32 ∷ 17 ∷ []) ((0, 1) ∷ (1, 2) ∷ [])) W 3 10, 0 ∷ 1 ∷ 3 ∷ 0 ∷ 1 ∷ 2 ∷ [])
    ∷ []

-- the table
abbrev pub benches : List (Call × List ℕ)
benches = a ++ (b ++ (c ++ (d ++ (e ++ (f ++ (g ++ (h ++ (i ++ (j ++ (k ++ (l ++ (m ++ (n ++ (o ++ (p ++ q)))))))))))))))

-- our bench r: the line that fails is named, not the first, nor a later one that fails too; with 14 and 15 it is the figure's, with 24 and 25 the patch's, or of what is read or written; with any other number it is 65,535
abbrev pub r : List (Call × (ℕ × ℕ))
r =
    (read (S (1 ∷ 2 ∷ []) ((1, 1) ∷ [])), (24, 0))
    ∷ (read (S (1 ∷ 2 ∷ 2 ∷ []) ((0, 1) ∷ (0, 2) ∷ (0, 2) ∷ (1, 1) ∷ [])), (25, 2))
    ∷ (read (S (1 ∷ 2 ∷ []) ((0, 1) ∷ (0, 0) ∷ [])), (24, 1))
    ∷ (write (1 ∷ 2 ∷ []) (1 ∷ 0 ∷ 1 ∷ 3 ∷ 0 ∷ 1 ∷ []), (24, 1))
    ∷ (write (1 ∷ 2 ∷ []) (1 ∷ 0 ∷ 1 ∷ 1 ∷ 0 ∷ 1 ∷ []), (25, 1))
    ∷ (find (S (1 ∷ 2 ∷ []) ((0, 1) ∷ (0, 2) ∷ [])) c_p W 2 10, (14, 1))
    ∷ (find r_f c_p W 2 10, (15, 1))
    ∷ (find c_f (S (1 ∷ 2 ∷ []) ((1, 0) ∷ (0, 1) ∷ [])) W 2 10, (24, 0))
    ∷ (find c_f (S (1 ∷ 2 ∷ 2 ∷ []) ((0, 2) ∷ (0, 1) ∷ [])) W 2 10, (25, 1))
    ∷ (read c_f, (0, 65_535))
    ∷ (read b_t, (23, 65_535))
    ∷ (write (5 ∷ []) [], (0, 65_535))
    ∷ (write (1 ∷ 2 ∷ []) (1 ∷ 0 ∷ []), (34, 65_535))
    ∷ (find c_f c_p W 6 10, (0, 65_535))
    ∷ (find c_f c_p W 2 10, (1, 65_535))
    ∷ (find c_f c_p W 6 2, (2, 65_535))
    ∷ (find b_t c_p W 2 10, (13, 65_535))
    ∷ (find (S (5 ∷ 5 ∷ []) []) j_p W 1 10, (16, 65_535))
    ∷ (find c_f c_p 22_527 1 10, (31, 65_535))
    ∷ []

-- every bench gives what is said, and bench h has 8 partial placements
pub all_benches : (map (λ b. run b.0) benches ≡ map (λ b. b.1) benches) × (map (λ b. number_and_line b.0) r ≡ map (λ b. b.1) r) × (partials (figure_of h_f) (patch_of h_p) ≡ 8)
unfolding run number_and_line reader writer search triples lines_of figure_of patch_of connected verdict checked flatten packed layout bits word bit_at kinds_held line_at lines_held kind_bits line_bits plugged dead tries_of plan_of cut tried level first_set attempt opening siblings skips join_set last_set takeable image placed user row_of after in_mask kind_fits at_first first_sets root root_from order order_from newcomers before parents union ancestors ancestors_from supported pass refined partials_of partials_up_to placings is_partial line_kept
all_benches = (refl, refl, refl)
