-- `role::role_in` meets its contract: the operation stands inside the bytes, and its kind and word tell its role.
use mathlib.Core.Path.{sym}
use Rattle.program.proofs.Roles.{role_nth}
use Rattle.loader.proofs.role.role_in.Goals as goal

pub returns : goal.returns
returns c =
    let args = c.args in
    λ n l. rw (c.role_by_kind.ensures, c.word_at_byte.ensures, c.place-at.ensures) (sym (role_nth args.layout args.s.now n args.i l))
