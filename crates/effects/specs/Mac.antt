-- Kinds 1 CLR, 2 MPY, 3 MAC, 4 MSC, 5 ED, 6 EDAC, 7 MOVSAC.
use Rattle.std.specs.Prelude.{ℕ, Bool, true, false, cond, List, ℤ, pos, ◌+ℤ◌, ◌-ℤ◌, length, set}
use Rattle.integers.specs.Bits.{low_bits}
use Rattle.accumulator.specs.Product.{product_of, square_of}
use Rattle.accumulator.specs.declared.mode.Mode.{Mode}
use Rattle.accumulator.specs.declared.mode.Target.{Target}
use Rattle.accumulator.specs.declared.product.Factor.{Factor}
use Rattle.operations.specs.Listed.{reads}
use Rattle.operations.specs.declared.operation.Action.{Action}
use Rattle.operations.specs.declared.operation.Action.TheVariants.{Clr, Mpy, Mac, Msc, Ed, Edac, Movsac}
use Rattle.operations.specs.declared.operation.Prefetch.{Prefetch}
use Rattle.operations.specs.declared.operation.MacClass.{MacClass}
use Rattle.program.specs.Answer.{◌then◌}
use Rattle.state.specs.State.{register, accumulator_of, other_of}
use Rattle.state.specs.declared.settings.Settings.{Settings}
use Rattle.state.specs.declared.state.Core.{Core}
use Rattle.effects.specs.Access.{prefetch_access, back_access, word_at, changed}
use Rattle.effects.specs.Effect.{Work, unless_trap}
use Rattle.effects.specs.declared.access.Space.TheVariants.{X, Y}
use Rattle.effects.specs.declared.access.Access.{Access}
use Rattle.effects.specs.declared.effect.Exact.{Exact}
use Rattle.effects.specs.declared.effect.Exact.TheVariants.{Keep, Replace}
use Rattle.effects.specs.declared.effect.Value.TheVariants.{Scaled}
use Rattle.effects.specs.declared.mac.Accesses.{Accesses}

-- ---- the exact result

-- a factor: both signed or both unsigned by US
abbrev pub factor_of : Mode → List ℕ → ℕ → Factor
factor_of m w r = record { word = register w r; unsigned = m.unsigned }

-- p, from the old registers
abbrev pub mac_product : Mode → MacClass → List ℕ → ℤ
mac_product m k w = product_of m.integer (factor_of m w k.m) (factor_of m w k.n)

-- m²: squares follow US and IF
abbrev pub mac_square : Mode → MacClass → List ℕ → ℤ
mac_square m k w = square_of m.integer (factor_of m w k.m)

-- 1 CLR (0), 2 MPY (p), 3 MAC (+p), 4 MSC (−p), 5 ED (m²), 6 EDAC (+m²), 7 MOVSAC (accumulator untouched); v is the accumulator before
unfoldable pub exact_by : Action → Target → ℤ → ℤ → ℤ → Exact
exact_by Clr t v p square = Replace t (pos 0)
exact_by Mpy t v p square = Replace t p
exact_by Mac t v p square = Replace t (v +ℤ p)
exact_by Msc t v p square = Replace t (v -ℤ p)
exact_by Ed t v p square = Replace t square
exact_by Edac t v p square = Replace t (v +ℤ square)
exact_by Movsac t v p square = Keep

-- of kind, target and factors
unfoldable pub mac_exact : Mode → MacClass → Core → Exact
mac_exact m k c = exact_by k.action k.target (accumulator_of c k.target) (mac_product m k c.w) (mac_square m k c.w)

-- ---- reads and write-back

-- X read, Y read, write
unfoldable pub mac_accesses : Settings → MacClass → List ℕ → ℕ → Accesses
mac_accesses s k w words =
    record { x = prefetch_access s X k.x w words; y = prefetch_access s Y k.y w words; back = back_access s k.back w words }

-- traps, first that applies: X read, Y read, write
abbrev pub mac_trap : Accesses → ℕ
mac_trap a = a.x.trap then a.y.trap then a.back.trap

-- kinds 5 and 6
abbrev pub is_distance : Action → Bool
is_distance Clr = false
is_distance Mpy = false
is_distance Mac = false
is_distance Msc = false
is_distance Ed = true
is_distance Edac = true
is_distance Movsac = false

-- X word minus Y word, the difference reduced to 16 bits
unfoldable pub difference_of : ℕ → ℕ → ℕ
difference_of x y = low_bits 16 (pos x -ℤ pos y)

-- a word to its destination, where there is a read
abbrev pub loaded : Prefetch → ℕ → ℕ → List ℕ → List ℕ
loaded p to x w = cond (reads p) (set w to x) w

-- the words x and y arrive: in kinds 5 and 6 their difference
unfoldable pub arrived : MacClass → ℕ → ℕ → List ℕ → List ℕ
arrived k x y w =
    cond (is_distance k.action)
    (set w k.xto (difference_of x y))
    (loaded k.y k.yto y (loaded k.x k.xto x w))

-- pointers change, then the words read through the old ones arrive
unfoldable pub mac_registers : MacClass → Accesses → List ℕ → List ℕ → List ℕ
mac_registers k a w memory =
    arrived k (word_at a.x.place w memory) (word_at a.y.place w memory) (changed a.back.change (changed a.y.change (changed a.x.change w)))

-- ---- all of kinds 1 to 7

-- the exact result, the reads, and write-back, which is the rounded store of the other accumulator
unfoldable pub mac_work : Settings → Mode → MacClass → Core → List ℕ → Work
mac_work s m k c memory =
    let a = mac_accesses s k c.w (length memory) in
    unless_trap c.w (mac_trap a)
    (record {
      w = mac_registers k a c.w memory;
      effect =
          record {
            trap = 0;
            exact = mac_exact m k c;
            place = a.back.place;
            value = Scaled true (accumulator_of c (other_of k.target));
          };
    })
