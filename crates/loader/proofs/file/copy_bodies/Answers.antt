-- `file::copy_bodies` meets its contract: std's blocks are the file's, and each body goes behind those before it.
use mathlib.Core.Path.{◌≡◌}
use mathlib.Core.List.{List}
use native.Mathlib.Numerals.{add-one}
use Rattle.std.proofs.Common.{arith, ℕ, ◌<◌, ◌/◌, [], length, get_or, length-append, length-take, length-drop}
use Rattle.program.specs.Block.{body_of}
use Rattle.program.specs.File.{block_at, bodies_first, bodies_of}
use Rattle.program.proofs.Slices.{chunk_at, over_more}
use Rattle.program.proofs.Files.{file_most, bodies_room}
use Rattle.loader.proofs.file.copy_bodies.Goals as goal
use Rattle.loader.proofs.file.copy_bodies.Goals.{In-loop-block}

inside : (c : In-loop-block) → c.loop-block.block-index < length c.args.file.now / 512
inside c = rw (← c.as_chunks.ensures.front_len) c.loop-block-test.true

same : (c : In-loop-block) → get_or c.as_chunks.result.0.now c.loop-block.block-index [] ≡ block_at c.args.file.now c.loop-block.block-index
same c = rw c.as_chunks.ensures.front (chunk_at 512 (length c.args.file.now / 512) c.args.file.now c.loop-block.block-index [] (inside c))

pub copy_body-n-requires : goal.copy_body-n-requires
copy_body-n-requires c =
    let here = (goal.at.copy_body-n-requires c).In-loop-block in
    let file = c.args.file.now in
    let k : ℕ = c.loop-block.block-index in
    let room = bodies_room file k c.loop-block.n (length c.loop-block.to) c.requires.file_value (inside here) c.loop-block.invariant.placed (omega arith) in
    rw (same here) (record { block_bound = file_most file c.requires.file_value k (inside here); block_in_bounds = simp (length-take, length-drop) (omega arith) })

pub loop-block-preserved : goal.loop-block-preserved
loop-block-preserved c =
    let here = (goal.at.loop-block-preserved c).In-loop-block in
    let file = c.args.file.now in
    let k : ℕ = c.loop-block.block-index in
    let before : List ℕ = bodies_first file k in
    let body : List ℕ = body_of (block_at file k) in
    let size = rw (same here) at c.copy_body-n.ensures.value in
    let put = rw (same here) at c.copy_body-n.ensures.to_after in
    rw add-one (record {
      placed = rw (length-append before body, ← c.loop-block.invariant.placed, size);
      copied = over_more before body c.args.to.now c.loop-block.to c.copy_body-n.new.to c.loop-block.n c.loop-block.invariant.placed c.loop-block.invariant.copied put;
    })

pub returns : goal.returns
unfolding bodies_of
returns c =
    let done : c.loop-block.block-index ≡ length c.args.file.now / 512 = omega (arith, c.as_chunks.ensures.front_len) in
    rw (← done) c.loop-block.invariant.copied
