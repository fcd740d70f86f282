-- `digest` meets its contract. The invariant: the digest of what is left, gone on from d, is the row's. Assumes nothing.
use Rattle.std.proofs.Common.{◌<◌, ◌≡◌, drop}
use Rattle.row_tests.specs.Marks.{digest_from}
use Rattle.row_tests.proofs.equal.digest.Given as goal

abbrev pub invariant-loop-x : goal.invariant-loop-x
invariant-loop-x l = record {
  small : l.d < 68_719_476_731;
  same : digest_from l.d (drop l.x-index l.row) ≡ digest_from 0 l.row;
}
