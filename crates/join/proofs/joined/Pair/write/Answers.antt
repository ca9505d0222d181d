-- `Pair::write` meets its contract: each part of the joined program is a block, put behind those before it.
use Prim.Native.Nat.{ℕ, ◌+◌, ◌-◌, ◌*◌, min}
use mathlib.Core.Path.{◌≡◌, sym, ◌∙◌}
use native.Mathlib.Numerals.{add-one}
use native.Mathlib.Omega.{arith}
use lib.ListN.{length, take, drop}
use Rattle.program.specs.Block.{block_of}
use Rattle.program.specs.File.{operation_count}
use Rattle.program.specs.Write.{part_at, blocks_for, file_first, file_of}
use Rattle.program.proofs.Accepted.{accepted_blocks}
use Rattle.program.proofs.Files.{file_first_length}
use Rattle.program.proofs.Slices.{over_more, front}
use Rattle.join.specs.Join.{joined_bytes, joined_file}
use Rattle.join.proofs.Bytes.{bytes_length, part_length, joined_part}
use Rattle.join.proofs.joined.Pair.write.Goals as goal

pub operation_count-requires : goal.operation_count-requires
operation_count-requires c =
    let pair = c.args.self.now in
    accepted_blocks pair.second.now pair.joinable.second_accepted

pub loop-k-preserved : goal.loop-k-preserved
loop-k-preserved c =
    let pair = c.args.self.now in
    let bytes = joined_bytes pair.first.now pair.second.now in
    let k : ℕ = c.loop-k.k in
    let some : ℕ = c.min-some.result in
    let is : some ≡ min 63 (pair.count + operation_count pair.second.now - 63 * k) = omega arith in
    let size : 8 * some ≡ length (take (8 * some) (drop (8 * (63 * k)) bytes)) =
    part_length bytes (63 * k) some (omega (arith, bytes_length pair.first.now pair.second.now pair.count pair.joinable)) in
    let body : take (8 * some) c.fill.new.part ≡ part_at bytes k =
    front (take (8 * some) (drop (8 * (63 * k)) bytes)) c.loop-k.part c.fill.new.part (8 * some) size c.fill.ensures
    ∙ joined_part pair.first.now pair.second.now pair.count pair.joinable k some is in
    rw add-one
    (over_more (file_first bytes k) (block_of k (part_at bytes k)) c.args.out.now c.loop-k.out c.write_block.new.out (512 * k) (sym (file_first_length bytes k))
    c.loop-k.invariant (rw body at c.write_block.ensures))

pub returns : goal.returns
unfolding joined_file file_of
returns c =
    let pair = c.args.self.now in
    let bytes = joined_bytes pair.first.now pair.second.now in
    let done : c.loop-k.k ≡ blocks_for (length bytes) = omega (arith, bytes_length pair.first.now pair.second.now pair.count pair.joinable) in
    rw (← done) c.loop-k.invariant
