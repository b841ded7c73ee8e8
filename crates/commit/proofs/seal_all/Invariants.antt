-- `commit::seal_all` meets its contract. The loop's invariant: what is left of the blocks, sealed, makes of the data base what all of them
-- make of it at entry.
use Rattle.std.proofs.Common.{◌≡◌, length, drop}
use Rattle.commit.specs.Touched.{bare_numbers, seal_each}
use Rattle.commit.proofs.seal_all.Given as goal

abbrev pub invariant-loop-n : goal.invariant-loop-n
invariant-loop-n l = record {
  len : length l.base ≡ length l.initial.base;
  left : seal_each l.kind l.base (bare_numbers (drop l.n-index l.blocks)) ≡ seal_each l.kind l.initial.base (bare_numbers l.blocks);
}
