-- `read_kinds` meets its contract. The invariant: the first v kinds are written, and the rest is as it was. Assumes nothing.
use Prim.Native.Nat.{◌+◌, ◌*◌}
use mathlib.Core.List.{map, ◌++◌}
use mathlib.Core.Path.{◌≡◌}
use lib.ListN.{drop}
use Rattle.laws.specs.Lists.{upto}
use Rattle.rules.specs.Sheet.{field}
use Rattle.sheet_reader.proofs.read_kinds.Given as goal

abbrev pub invariant-loop-v : goal.invariant-loop-v
invariant-loop-v l = l.kind-items ≡ map (λ k. field l.sheet (22 + 6 * k) 6) (upto l.v 0) ++ drop l.v l.initial.kind-items
