-- `write::write_blocks` meets its contract: each part of the operations is a block, put behind those before it.
use native.Mathlib.Omega.{arith}
use native.Mathlib.Numerals.{add-one}
use mathlib.Core.Path.{◌≡◌, sym}
use Rattle.std.proofs.Common.{ℕ, ◌*◌, ◌-◌, take, drop, length}
use Rattle.program.specs.Block.{block_of}
use Rattle.program.specs.Write.{part_at, blocks_for, file_first, file_of}
use Rattle.program.proofs.Slices.{over_more}
use Rattle.program.proofs.Files.{part_is, file_first_length}
use Rattle.loader.proofs.write.write_blocks.Goals as goal

pub loop-k-preserved : goal.loop-k-preserved
loop-k-preserved c =
    let ops = c.args.operations.now in
    let k : ℕ = c.loop-k.k in
    let part : take (c.min-end.result - 504 * k) (drop (504 * k) ops) ≡ part_at ops k = part_is ops k c.min-end.result (omega arith) c.min-end.ensures in
    let put = rw part at c.write_block.ensures in
    rw add-one
    (over_more (file_first ops k) (block_of k (part_at ops k)) c.args.out.now c.loop-k.out c.write_block.new.out (512 * k) (sym (file_first_length ops k)) c.loop-k.invariant put)

pub returns : goal.returns
unfolding file_of
returns c =
    let done : c.loop-k.k ≡ blocks_for (length c.args.operations.now) = omega arith in
    rw (← done) c.loop-k.invariant
