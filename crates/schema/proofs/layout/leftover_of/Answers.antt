-- `schema::layout::leftover_of` meets its contract: the block is in the data base, and its records end in front of its check.
use Rattle.std.proofs.Common.{◌≡◌, ◌+◌, ◌*◌, ap, ◌∙◌, length, arith}
use Rattle.octets.specs.SpliceLaws.{length_run, run_run}
use Rattle.blocks.specs.Blocks.{block_at}
use Rattle.schema.specs.Place.{records_held, leftover_size}
use Rattle.schema.proofs.PlaceLaws.{held}
use Rattle.schema.proofs.layout.leftover_of.Goals as goal

pub block-block-requires : goal.block-block-requires
block-block-requires c = (held c.args.k c.requires.lies_in c.requires.k_bound).inside

pub slice_bounds-result-end : goal.slice_bounds-result-end
slice_bounds-result-end c =
    let long : length c.block-block.result.now ≡ 512 = ap length c.block-block.ensures ∙ length_run _ _ 512 (held c.args.k c.requires.lies_in c.requires.k_bound).inside in
    omega (arith, long)

pub returns : goal.returns
returns c =
    let a = c.args in
    rw (c.block-block.ensures, c.records_held.ensures)
    (run_run a.base.now (block_at (a.e.first.0 + a.k)) 512 (records_held a.e a.k * a.e.size) (leftover_size a.e a.k) (omega (arith, (held a.k c.requires.lies_in c.requires.k_bound).whole)))
