-- Accesses: where an operand, a prefetch or a write-back lies, its trap 1 or 2, and what becomes of its pointer. All from the old registers.
use Rattle.std.specs.Prelude.{ℕ, List, pos, length, get_or, set}
use Rattle.address.specs.Word.{word_of}
use Rattle.address.specs.Region.{x_part, y_part, all_words, access_trap}
use Rattle.address.specs.Step.{address_sum}
use Rattle.address.specs.declared.region.Region.{Region}
use Rattle.operations.specs.declared.operation.Operand.{Operand}
use Rattle.operations.specs.declared.operation.Operand.TheVariants.{Register as Direct, Memory as Pointed}
use Rattle.operations.specs.declared.operation.Prefetch.{Prefetch}
use Rattle.operations.specs.declared.operation.Prefetch.TheVariants.{None as NoPrefetch, Pointer, Sum}
use Rattle.operations.specs.declared.operation.WriteBack.{WriteBack}
use Rattle.operations.specs.declared.operation.WriteBack.TheVariants.{None as NoWriteBack, Register as ToRegister, Memory as ToMemory}
use Rattle.state.specs.State.{register}
use Rattle.state.specs.declared.settings.Circular.{Circular}
use Rattle.state.specs.declared.settings.Settings.{Settings}
use Rattle.effects.specs.Pointer.{moved_of, step_of, change_of}
use Rattle.effects.specs.declared.pointer.Purpose.{Purpose}
use Rattle.effects.specs.declared.pointer.Change.{Change}
use Rattle.effects.specs.declared.pointer.Change.TheVariants.{None as NoChange, To}
use Rattle.effects.specs.declared.access.Space.{Space}
use Rattle.effects.specs.declared.access.Space.TheVariants.{X, Y}
use Rattle.effects.specs.declared.access.Place.{Place}
use Rattle.effects.specs.declared.access.Place.TheVariants.{Nowhere, Register, Memory}
use Rattle.effects.specs.declared.access.Access.{Access}

-- ---- accesses

-- no access
abbrev pub no_access : Access
no_access = record { trap = 0; place = Nowhere; change = NoChange }

-- a register
abbrev pub direct : ℕ → Access
direct r = record { trap = 0; place = Register r; change = NoChange }

-- memory at address a, which must lie in a region
abbrev pub access_at : Region → ℕ → Change → Access
access_at region a change = record { trap = access_trap region a; place = Memory (record { 0 = word_of a }); change = change }

-- b3 register, b4 form: a register, or a pointer, anywhere in memory
unfoldable pub operand_access : Settings → Purpose → Operand → List ℕ → ℕ → Access
operand_access s purpose (Direct r) w words = direct r
operand_access s purpose (Pointed p post) w words = access_at (all_words words) (register w p) (change_of s purpose post p (register w p))

-- ---- prefetches

-- X reads must fall in the first part, Y reads in the rest
abbrev pub region_of : Settings → ℕ → Space → Region
region_of s words X = x_part s.xwords
region_of s words Y = y_part s.xwords words

-- X's register is corrected in every step except a Y read's; Y's only in Y reads
abbrev pub circular_for : Settings → Space → Circular
circular_for s X = s.x
circular_for s Y = s.y

-- address W9 + W12 for X, W11 + W13 for Y
abbrev pub sum_address : Space → List ℕ → ℕ
sum_address X w = address_sum (register w 9) (register w 12)
sum_address Y w = address_sum (register w 11) (register w 13)

-- b3 and b4: none, a pointer with step 2(c − 3), or a sum, which is never corrected
unfoldable pub prefetch_access : Settings → Space → Prefetch → List ℕ → ℕ → Access
prefetch_access s space NoPrefetch w words = no_access
prefetch_access s space (Pointer r c) w words =
    access_at (region_of s words space) (register w r) (To r (record { 0 = moved_of (circular_for s space) r (register w r) (step_of c) }))
prefetch_access s space Sum w words = access_at (region_of s words space) (sum_address space w) NoChange

-- ---- write-back

-- b6: 0 none, 1 to W13, 2 to memory at W13, then W13 + 2
unfoldable pub back_access : Settings → WriteBack → List ℕ → ℕ → Access
back_access s NoWriteBack w words = no_access
back_access s ToRegister w words = direct 13
back_access s ToMemory w words = access_at (all_words words) (register w 13) (To 13 (record { 0 = moved_of s.x 13 (register w 13) (pos 2) }))

-- ---- reads and pointer changes

-- the word at a place
unfoldable pub word_at : Place → List ℕ → List ℕ → ℕ
word_at Nowhere w memory = 0
word_at (Register r) w memory = register w r
word_at (Memory i) w memory = get_or memory i.0 0

-- the registers after a pointer's change
unfoldable pub changed : Change → List ℕ → List ℕ
changed NoChange w = w
changed (To r a) w = set w r a.0
