-- `block::block_sum` meets its contract: what stands from byte 6 on is all that is left.
use Rattle.std.proofs.Common.{rules, ◌≡◌, ◌≤◌, length, drop, arith, length-drop}
use lib.Seq.{take_all}
use Rattle.loader.proofs.block.block_sum.Goals as goal

pub returns : goal.returns
returns c =
    let block = c.args.block.now in
    let size : length block ≡ 512 = search rules in
    let rest : length (drop 6 block) ≤ 506 = simp length-drop (omega arith) in
    rw (c.total.ensures.value, c.total-2.ensures.value, take_all 506 (drop 6 block) rest)
