-- The first 112 bytes are those that were read; zeros stand from there on.
use Rattle.std.proofs.Common.{arith, ◌≡◌, ◌∙◌, ap, take, ℕ, length, drop, replicate}
use Rattle.std.proofs.lemmas.List.{take-append-le}
use Rattle.std.proofs.lemmas.Slice.{drop-append-drop}
use Rattle.stream.proofs.reading.read_header.Goals as goal

pub returns-in-112-clause-content : goal.returns-in-112-clause-content
returns-in-112-clause-content g c =
    let read = c.in_ok-read_full.ensures.content in
    let size : length c.read_full.new.bytes ≡ 112 = omega arith in
    let same : take 112 c.new.result.bytes ≡ take c.in_ok-read_full.field-0 c.read_full.new.bytes =
    rw (c.new.ensures, c.in-112.is) (take-append-le 112 c.read_full.new.bytes _ (omega arith)) in
    rw same read

pub returns-in-112-clause-zeros : goal.returns-in-112-clause-zeros
returns-in-112-clause-zeros g c =
    let size : length c.read_full.new.bytes ≡ 112 = omega arith in
    ap (drop 112) c.new.ensures ∙ drop-append-drop {X = ℕ} 112 (replicate 320 0) c.read_full.new.bytes 112 (omega arith) size
