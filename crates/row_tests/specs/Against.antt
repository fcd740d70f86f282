-- What a row is tested against: the patch tables, and a figure as its kinds and the ends of its lines. Assumes nothing: these are definitions.
use Rattle.std.specs.Prelude.{ℕ, ◌≤◌, ◌<◌, ◌≡◌, true, length, get_or}
use mathlib.Core.List.{List, Memᴰ, map}
use Rattle.laws.specs.Lists.{has}
use Rattle.rules.specs.Graph.{Drawn}
use Rattle.rules.specs.Place.{Figure, Patch, figure_kind, entry}
use Rattle.patch.specs.Tables.{run_at, kind_at, Holds}
use Rattle.row_tests.specs.declared.place.Ends.{Ends}

-- every entry of a row is a number of the tables
abbrev pub Within : List ℕ → Type 0
Within row = (u : ℕ) → u < length row → entry row u < 512

-- every entry is a patch vertex of its figure vertex's kind
abbrev pub KindsFit : (t : List ℕ) (size : ℕ) (kinds row : List ℕ) → Type 0
KindsFit t size kinds row = (u : ℕ) → u < length row → (entry row u < size) × (kind_at t (entry row u) ≡ get_or kinds u 0)

-- no two entries are the same
abbrev pub Apart : List ℕ → Type 0
Apart row = (u w : ℕ) → u < length row → w < length row → entry row u ≡ entry row w → u ≡ w

-- both ends of every line are entries of a row of n
abbrev pub EndsBelow : ℕ → List Ends → Type 0
EndsBelow n lines = (l : Ends) → Memᴰ l lines → (l.first < n) × (l.second < n)

-- every line, given by its ends, lies on a patch line
abbrev pub LinesKept : (t : List ℕ) (lines : List Ends) (row : List ℕ) → Type 0
LinesKept t lines row = (l : Ends) → Memᴰ l lines → has (entry row l.second) (run_at t (entry row l.first)) ≡ true

-- the two ends that a struct says
abbrev pub pair_of : Ends → ℕ × ℕ
pair_of l = (l.first, l.second)

-- a list has the ends of a figure's lines, in their order
pub record HoldsEnds (F : Figure) (lines : List Ends) : Type 0 where
  pub few : length lines ≤ 64
  pub ends : F.graph.lines ≡ map pair_of lines

-- the tables hold a patch, and the arrays a figure of n vertices
pub record Against (F : Figure) (P : Patch) (t : List ℕ) (size : ℕ) (kinds : List ℕ) (lines : List Ends) (n : ℕ) : Type 0 where
  pub tables : Holds P t
  pub patch_size : P.graph.size ≡ size
  pub figure_size : F.graph.size ≡ n
  pub vertex : 0 < n
  pub few : n ≤ 32
  pub drawn : Drawn F.graph
  pub kinds_held : (u : ℕ) → u < n → get_or kinds u 0 ≡ figure_kind F u
  pub ends_held : HoldsEnds F lines
