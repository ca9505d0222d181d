-- The first trap of the X read, the Y read and the write. Assumes nothing.
use Rattle.std.proofs.Common.{◌≡◌}
use Rattle.address.specs.Trap.{trap_number}
use Rattle.address.specs.declared.trap.Trap.{Trap}
use Rattle.address.proofs.Traps.{trap_some}
use Rattle.program.specs.Answer.{◌then◌}
use Rattle.effects.specs.Mac.{mac_trap}
use Rattle.effects.specs.declared.mac.Accesses.{Accesses}
use Rattle.effects.proofs.Traps.{first_some}

module _ (a : Accesses) (t : Trap) where
  pub first_x : trap_number t ≡ a.x.trap → trap_number t ≡ mac_trap a
  first_x e = rw (← e) (first_some (trap_number t) (a.y.trap then a.back.trap) (trap_some t))

  pub first_y : 0 ≡ a.x.trap → trap_number t ≡ a.y.trap → trap_number t ≡ mac_trap a
  first_y x e = rw (← x, ← e) (first_some (trap_number t) a.back.trap (trap_some t))

  pub first_back : 0 ≡ a.x.trap → 0 ≡ a.y.trap → trap_number t ≡ a.back.trap → trap_number t ≡ mac_trap a
  first_back x y e = rw (← x, ← y) e

pub first_none : (a : Accesses) → 0 ≡ a.x.trap → 0 ≡ a.y.trap → 0 ≡ a.back.trap → 0 ≡ mac_trap a
first_none a x y e = rw (← x, ← y) e
