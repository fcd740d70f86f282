-- The ends of a figure's lines, read one after the other. Assumes nothing.
use Rattle.std.proofs.Common.{ℕ, ◌+◌, ◌*◌, ◌≤◌, ◌≡◌, List, [], ◌∷◌, ◌++◌, length, length-append, sym, ◌∙◌, arith}
use mathlib.Core.List.{map, map-map}
use Rattle.std.proofs.lemmas.List.{map_push}
use Rattle.laws.specs.Lists.{upto}
use Rattle.laws.proofs.Lists.{map_next}
use Rattle.rules.specs.Sheet.{vertex_count, line_count, line_at, lines_held}
use Rattle.rules.specs.Calls.{ends_of, figure_of}
use Rattle.row_tests.specs.declared.place.Ends.{Ends}
use Rattle.row_tests.specs.Against.{pair_of, HoldsEnds}

-- the ends of line j of a sheet
abbrev pub line_ends : List ℕ → ℕ → ℕ × ℕ
line_ends bytes j = ends_of (line_at bytes (22 + 6 * vertex_count bytes + 20 * j))

-- a list has the ends of the first j lines of a sheet
pub record EndsRead (bytes : List ℕ) (lines : List Ends) (j : ℕ) : Type 0 where
  pub many : length lines ≡ j
  pub are : map pair_of lines ≡ map (line_ends bytes) (upto j 0)

-- one line more
pub read_more : {bytes : List ℕ} {lines more : List Ends} {j : ℕ} {l : Ends} → EndsRead bytes lines j → more ≡ lines ++ l ∷ [] → pair_of l ≡ line_ends bytes j → EndsRead bytes more (j + 1)
read_more {bytes} {lines} {more} {j} {l} R m e = record {
  many = rw (m, length-append) (omega (arith, R.many));
  are = rw m (map_push pair_of lines l ∙ rw (R.are, e) (sym (map_next (line_ends bytes) j)));
}

-- all lines read are the figure's
pub all_read : {bytes : List ℕ} {lines : List Ends} {j : ℕ} → EndsRead bytes lines j → j ≡ line_count bytes → j ≤ 64 → HoldsEnds (figure_of bytes) lines
unfolding figure_of lines_held
all_read {bytes} {lines} {j} R e few = record {
  few = omega (arith, R.many);
  ends = rw (R.are, e) (map-map ends_of _ (upto (line_count bytes) 0));
}
