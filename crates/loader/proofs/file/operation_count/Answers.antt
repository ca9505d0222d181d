-- `file::operation_count` meets its contract: byte 2 of the last block stands in the file.
use Prim.Native.Nat.{ℕ, ◌+◌, ◌*◌, ◌-◌, ◌/◌}
use mathlib.Core.Path.{sym, ap, ◌∙◌}
use lib.Dec.{lit<}
use lib.ListN.{length, drop}
use lib.Seq.{get_or-take, get_or-drop}
use Rattle.program.specs.File.{operation_count}
use Rattle.program.proofs.Files.{file_size_lem, size_least}
use native.Mathlib.Omega.{arith}
use Rattle.loader.proofs.file.operation_count.Goals as goal

pub overflow_sub-before : goal.overflow_sub-before
overflow_sub-before c = size_least (length c.args.file.now) (file_size_lem c.args.file.now c.requires)

pub bounds-file-before : goal.bounds-file-before
bounds-file-before c =
    let file = c.args.file.now in
    let some = size_least (length file) (file_size_lem file c.requires) in
    omega arith

pub returns : goal.returns
unfolding operation_count
returns c =
    let file = c.args.file.now in
    let before : ℕ = length file / 512 - 1 in
    ap (λ (n : ℕ). 63 * before + n)
    (c.from.ensures ∙ sym (get_or-take 512 (drop (512 * before) file) 2 0 (lit< tt) ∙ get_or-drop (512 * before) file 2 0))
