-- Document 01, partial placements: what one is, and how many there are, with no word of the search. Assumes nothing: these are definitions.
use Rattle.std.specs.Prelude.{ℕ, zero, suc, ◌<◌, ◌≡◌, ◌≢◌, Bool, true, false, ◌&&◌, ◌||◌, not, length, take, drop}
use mathlib.Core.List.{List, [], ◌∷◌, ◌++◌, map, reverse, Memᴰ}
use Rattle.laws.specs.Lists.{any, all, keep, null, each, distinct, Ordered}
use Rattle.rules.specs.Graph.{joined}
use Rattle.rules.specs.Place.{FigureVertex, PatchVertex, Figure, Patch, Placed, image, placed, images}
use Rattle.rules.specs.Candidates.{Sets, set_of, order_of, sets_of}

-- a partial placement: the first k vertices of an order, k at least 1, on candidates, every figure line among them on a patch line, and all values but the last different
pub record Partial (F : Figure) (P : Patch) (C : Sets) (o : List FigureVertex) (M : Placed) : Type 0 where
  pub one : 0 < length M
  pub vertices : map (λ m. m.0) M ≡ reverse (take (length M) o)
  pub candidates : (u : FigureVertex) (v : PatchVertex) → Memᴰ (u, v) M → Memᴰ v (set_of C u)
  pub lines : (u w : FigureVertex) (v x : PatchVertex) → Memᴰ (u, w) F.graph.lines → Memᴰ (u, v) M → Memᴰ (w, x) M → joined P.graph v x ≡ true
  pub different : Ordered ◌≢◌ (drop 1 (images M))

-- every way to put the vertices us, one after the other, on members of their sets, after M
unfoldable pub placings : Sets → List FigureVertex → Placed → List Placed
placings C [] M = M ∷ []
placings C (u ∷ us) M = each (λ v. placings C us ((u, v) ∷ M)) (set_of C u)

-- a figure line whose ends are both placed lies on a patch line
unfoldable pub line_kept : Patch → Placed → FigureVertex × FigureVertex → Bool
line_kept P M l = not (placed M l.0 && placed M l.1) || joined P.graph (image M l.0) (image M l.1)

-- all images but the last differ, and every figure line among the placed vertices lies on a patch line
unfoldable pub is_partial : Figure → Patch → Placed → Bool
is_partial F P [] = false
is_partial F P (m ∷ M) = distinct (images M) && all (line_kept P (m ∷ M)) F.graph.lines

-- the partial placements of the first k, k - 1, …, 1 vertices of an order
unfoldable pub partials_up_to : Figure → Patch → Sets → List FigureVertex → ℕ → List Placed
partials_up_to F P C o zero = []
partials_up_to F P C o (suc k) = keep (is_partial F P) (placings C (take (suc k) o) []) ++ partials_up_to F P C o k

-- the partial placements of the refined candidates, each once; none where a refined set is empty
unfoldable pub partials_of : Figure → Patch → List Placed
partials_of F P = elim (any null (sets_of F P)) [ true ↦ [] | false ↦ partials_up_to F P (sets_of F P) (order_of F P) F.graph.size ]

-- the number of partial placements
abbrev pub partials : Figure → Patch → ℕ
partials F P = length (partials_of F P)
