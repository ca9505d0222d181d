-- `reversal::exchanged` meets its contract: the mask is so short that no bit is shifted out. Assumes nothing.
use Rattle.std.proofs.Common.{◌-◌, lt_of_le_of_lt, arith, shl_exact}
use lib.Bits.{and_le_r}
use Rattle.address.proofs.reversal.exchanged.Goals as goal

pub returns : goal.returns
returns c =
    let a = c.args in
    rw (shl_exact (16 - a.k) a.k 16 (lt_of_le_of_lt (and_le_r a.x a.lower) c.requires.lower_bound) (omega (arith, c.requires.k_bound)))
