-- Mixes in the numbers of a list: a digest that began below the modulus stays there. Assumes nothing.
use Rattle.std.proofs.Common.{◌<◌}
use Rattle.draws.proofs.digest.Digest.mix_all.Given as goal

abbrev pub invariant-loop-x : goal.invariant-loop-x
invariant-loop-x g l = l.fn.self.0 < 2_147_483_647 → l.self.0 < 2_147_483_647
