-- Draws a kind for each vertex: so far as many as there were turns. Assumes nothing.
use Rattle.std.proofs.Common.{◌≡◌, length}
use Rattle.random_graphs.proofs.draw.draw_kinds.Given as goal

abbrev pub invariant-loop-i : goal.invariant-loop-i
invariant-loop-i l = length l.kinds.items ≡ l.i
