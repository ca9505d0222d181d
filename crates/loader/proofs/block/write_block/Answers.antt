-- `block::write_block` meets its contract.
use Rattle.std.proofs.Common.{rules, arith, ◌≡◌, ◌/◌, ◌%◌, take, ap, ◌∙◌}
use Rattle.program.specs.Block.{block_sum}
use Rattle.program.proofs.Blocks.{block_put}
use Rattle.loader.proofs.block.write_block.Goals as goal

pub returns : goal.returns
returns c =
    let sum = c.block_sum-sum.result in
    let part : c.unwrap.result.now ≡ take 512 c.put_unsummed.new.out = search rules in
    let high : sum / 256 % 256 ≡ sum / 256 = omega arith in
    rw (c.to_le_bytes.ensures, high)
    (block_put c.args.k c.args.body.now c.args.out.now c.put_unsummed.new.out sum
    (omega arith) c.put_unsummed.ensures (c.block_sum-sum.ensures ∙ ap block_sum part))
