-- `Region::access` meets its contract: without a trap the address is that of a word of the region, and its number is that word's. Assumes nothing.
use Rattle.std.proofs.Common.{sym}
use Rattle.address.specs.Word.{word_of}
use Rattle.address.proofs.Regions.{free_word}
use Rattle.address.proofs.region.Region.access.Goals as goal

pub returns-in-None-clause-word : goal.returns-in-None-clause-word
returns-in-None-clause-word c =
    let a = c.args in
    let free = free_word a.self a.a.0 (sym c.in-None.ensures) in
    let same = c.aligned_word.ensures.by_index (word_of a.a.0) free.0 in
    (same, rw same free.2)
