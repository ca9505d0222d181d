-- `Status::word` meets its contract: each bit is joined to the bits below it. Assumes nothing.
use Rattle.std.proofs.Common.{◌||◌, arith, lit<}
use Rattle.integers.proofs.Masks.{bit_size, put, join}
use Rattle.accumulator.specs.Status.{status_of}
use Rattle.accumulator.proofs.status.Status.word.Goals as goal

pub returns : goal.returns
unfolding status_of
returns c =
    let s = c.args.self in
    let ob = bit_size s.ob in
    let sa = bit_size s.sa in
    let sb = bit_size s.sb in
    let o = bit_size (s.oa || s.ob) in
    let b = bit_size (s.sa || s.sb) in
    let l = bit_size s.looping in
    let r = bit_size s.repeating in
    join s.oa 15 (lit< tt) (omega arith)
    (join s.ob 14 (lit< tt) (omega arith)
    (join s.sa 13 (lit< tt) (omega arith)
    (join s.sb 12 (lit< tt) (omega arith)
    (join (s.oa || s.ob) 11 (lit< tt) (omega arith)
    (join (s.sa || s.sb) 10 (lit< tt) (omega arith) (join s.looping 9 (lit< tt) (omega arith) (put s.repeating 4 (lit< tt))))))))
