-- `read_lines` meets its contract. The invariant: the first j lines are written, three numbers each, and the rest is as it was. Assumes nothing.
use Prim.Native.Nat.{◌+◌, ◌*◌}
use mathlib.Core.List.{map, ◌++◌}
use mathlib.Core.Path.{◌≡◌}
use lib.ListN.{drop}
use Rattle.laws.specs.Lists.{upto}
use Rattle.rules.specs.Calls.{triples}
use Rattle.rules.specs.Sheet.{line_at, vertex_count}
use Rattle.sheet_reader.proofs.read_lines.Given as goal

abbrev pub invariant-loop-j : goal.invariant-loop-j
invariant-loop-j l = l.lines ≡ triples (map (λ k. line_at l.sheet (22 + 6 * vertex_count l.sheet + 20 * k)) (upto l.j 0)) ++ drop (3 * l.j) l.initial.lines
