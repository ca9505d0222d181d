-- Words of 16 bits stay words: pointers, what is read, what arrives in registers, what is stored. Assumes nothing.
use Prim.Native.Nat.{ℕ, zero, suc, ◌^◌, ◌<◌}
use mathlib.Core.Bool.{Bool}
use mathlib.Core.Path.{◌≡◌, refl}
use mathlib.Core.List.{List, [], ◌∷◌, ◌++◌}
use lib.Dec.{eqb, lit<}
use lib.IntN.{ℤ, pos, neg_ℤ}
use lib.ListN.{length, get_or, set, take, drop, length-set}
use Rattle.integers.proofs.Whole.{by_test}
use Rattle.integers.proofs.Low.{low_size}
use Rattle.accumulator.specs.Store.{stored_word, store_of}
use Rattle.accumulator.specs.declared.mode.Mode.{Mode}
use Rattle.address.proofs.Steps.{stepped_below, circular_below}
use Rattle.address.proofs.Reversals.{next_below}
use Rattle.operations.specs.Listed.{reads}
use Rattle.operations.specs.declared.operation.Operand.{Operand}
use Rattle.operations.specs.declared.operation.Operand.TheVariants.{Register as Direct, Memory as Pointed}
use Rattle.operations.specs.declared.operation.PostModification.{PostModification}
use Rattle.operations.specs.declared.operation.PostModification.TheVariants.{None as Stays, Increment, Decrement}
use Rattle.operations.specs.declared.operation.Prefetch.{Prefetch}
use Rattle.operations.specs.declared.operation.Prefetch.TheVariants.{None as NoPrefetch, Pointer, Sum}
use Rattle.operations.specs.declared.operation.WriteBack.{WriteBack}
use Rattle.operations.specs.declared.operation.WriteBack.TheVariants.{None as NoWriteBack, Register as ToRegister, Memory as ToMemory}
use Rattle.operations.specs.declared.operation.MacClass.{MacClass}
use Rattle.state.specs.State.{register}
use Rattle.state.specs.declared.settings.Settings.{Settings}
use Rattle.state.specs.declared.settings.Circular.{Circular}
use Rattle.effects.specs.Pointer.{moved_of, raised_of, change_of}
use Rattle.effects.specs.Access.{operand_access, prefetch_access, back_access, word_at, changed}
use Rattle.effects.specs.Mac.{is_distance, difference_of, loaded, arrived}
use Rattle.effects.specs.declared.pointer.Purpose.{Purpose}
use Rattle.effects.specs.declared.pointer.Purpose.TheVariants.{Read, Store as Storing}
use Rattle.effects.specs.declared.pointer.Change.{Change}
use Rattle.effects.specs.declared.pointer.Change.TheVariants.{None as NoChange, To}
use Rattle.effects.specs.declared.access.Space.{Space}
use Rattle.effects.specs.declared.access.Place.{Place}
use Rattle.effects.specs.declared.access.Place.TheVariants.{Nowhere, Register, Memory}
use Rattle.effects.specs.declared.effect.Value.{Value}
use Rattle.effects.specs.declared.effect.Value.TheVariants.{Word, Scaled}
use Rattle.machine.specs.Write.{value_word, put_register, put_memory}
use Rattle.state.specs.Typed.{AreWords}

-- a word has 16 bits
abbrev pub IsWord : ℕ → Type 0
IsWord x = x < 2 ^ 16

-- a number below n, put anywhere into a list, leaves what is below n below it
set_below : (l : List ℕ) (i v j n : ℕ) → v < n → get_or l j 0 < n → get_or (set l i v) j 0 < n
set_below [] i v j n hv h = h
set_below (x ∷ l) zero v zero n hv h = hv
set_below (x ∷ l) zero v (suc j) n hv h = h
set_below (x ∷ l) (suc i) v zero n hv h = h
set_below (x ∷ l) (suc i) v (suc j) n hv h = set_below l i v j n hv h

-- a word put into a list of words
pub set_words : (l : List ℕ) (i v : ℕ) → IsWord v → AreWords l → AreWords (set l i v)
set_words l i v hv h j = set_below l i v j (2 ^ 16) hv (h j)

-- parts of such lists, and two of them together
pub take_words : (n : ℕ) (l : List ℕ) → AreWords l → AreWords (take n l)
take_words zero l h i = lit< tt
take_words (suc n) [] h i = lit< tt
take_words (suc n) (x ∷ l) h zero = h 0
take_words (suc n) (x ∷ l) h (suc i) = take_words n l (λ j. h (suc j)) i

pub drop_words : (n : ℕ) (l : List ℕ) → AreWords l → AreWords (drop n l)
drop_words zero l h = h
drop_words (suc n) [] h = h
drop_words (suc n) (x ∷ l) h = drop_words n l (λ j. h (suc j))

pub append_words : (l m : List ℕ) → AreWords l → AreWords m → AreWords (l ++ m)
append_words [] m h k i = k i
append_words (x ∷ l) m h k zero = h 0
append_words (x ∷ l) m h k (suc i) = append_words l m (λ j. h (suc j)) k i

-- ---- pointers

-- a pointer's change is to a word
abbrev ToWord : Change → Type 0
ToWord NoChange = Unit {0}
ToWord (To r a) = IsWord a.0

pub changed_words : (change : Change) (w : List ℕ) → ToWord change → AreWords w → AreWords (changed change w)
unfolding changed
changed_words NoChange w c h = h
changed_words (To r a) w c h = set_words w r a.0 c h

moved_word : (circle : Circular) (r a : ℕ) (step : ℤ) → IsWord (moved_of circle r a step)
unfolding moved_of
moved_word circle r a step =
    by_test IsWord (eqb r circle.register) (λ e. circular_below circle.buffer a step) (λ e. stepped_below a step)

raised_word : (s : Settings) (purpose : Purpose) (r a : ℕ) → IsWord a → IsWord (raised_of s purpose r a)
unfolding raised_of
raised_word s Read r a h = moved_word s.x r a (pos 2)
raised_word s Storing r a h =
    by_test IsWord (eqb r s.reversed.register) (λ e. next_below s.reversed.words a h) (λ e. moved_word s.x r a (pos 2))

change_word : (s : Settings) (purpose : Purpose) (post : PostModification) (r a : ℕ) → IsWord a → ToWord (change_of s purpose post r a)
unfolding change_of
change_word s purpose Stays r a h = tt
change_word s purpose Increment r a h = raised_word s purpose r a h
change_word s purpose Decrement r a h = moved_word s.x r a (neg_ℤ (pos 2))

pub operand_change : (s : Settings) (purpose : Purpose) (o : Operand) (w : List ℕ) (words : ℕ) → AreWords w → ToWord (operand_access s purpose o w words).change
unfolding operand_access
operand_change s purpose (Direct r) w words h = tt
operand_change s purpose (Pointed p post) w words h = change_word s purpose post p (register w p) (h p)

pub prefetch_change : (s : Settings) (space : Space) (f : Prefetch) (w : List ℕ) (words : ℕ) → ToWord (prefetch_access s space f w words).change
unfolding prefetch_access
prefetch_change s space NoPrefetch w words = tt
prefetch_change s space (Pointer r c) w words = moved_word _ r (register w r) _
prefetch_change s space Sum w words = tt

pub back_change : (s : Settings) (back : WriteBack) (w : List ℕ) (words : ℕ) → ToWord (back_access s back w words).change
unfolding back_access
back_change s NoWriteBack w words = tt
back_change s ToRegister w words = tt
back_change s ToMemory w words = moved_word s.x 13 (register w 13) (pos 2)

-- what is read is a word
pub read_word : (place : Place) (w memory : List ℕ) → AreWords w → AreWords memory → IsWord (word_at place w memory)
unfolding word_at
read_word Nowhere w memory h k = lit< tt
read_word (Register r) w memory h k = h r
read_word (Memory i) w memory h k = k i.0

-- ---- kinds 1 to 7

loaded_words : (f : Prefetch) (to v : ℕ) (l : List ℕ) → IsWord v → AreWords l → AreWords (loaded f to v l)
loaded_words f to v l hv h = by_test AreWords (reads f) (λ e. set_words l to v hv h) (λ e. h)

pub arrived_words : (k : MacClass) (x y : ℕ) (w : List ℕ) → IsWord x → IsWord y → AreWords w → AreWords (arrived k x y w)
unfolding arrived difference_of
arrived_words k x y w hx hy h =
    by_test AreWords (is_distance k.action) (λ e. set_words w k.xto (difference_of x y) (low_size 16 _) h)
    (λ e. loaded_words k.y k.yto y (loaded k.x k.xto x w) hy (loaded_words k.x k.xto x w hx h))

-- ---- what is stored

-- the store's word, by any mode
abbrev pub ValueWord : Value → Type 0
ValueWord v = (m : Mode) → IsWord (value_word m v)

pub scaled_word : (rounded : Bool) (v : ℤ) → ValueWord (Scaled rounded v)
unfolding value_word store_of stored_word
scaled_word rounded v m = low_size 16 _

pub plain_word : (x : ℕ) → IsWord x → ValueWord (Word x)
unfolding value_word
plain_word x h m = h

-- ---- a store

-- as many registers and words of memory as before
pub put_long : (place : Place) (x : ℕ) (w : List ℕ) → length (put_register place x w) ≡ length w
unfolding put_register
put_long Nowhere x w = refl
put_long (Register r) x w = length-set w r x
put_long (Memory i) x w = refl

pub put_memory_long : (place : Place) (x : ℕ) (memory : List ℕ) → length (put_memory place x memory) ≡ length memory
unfolding put_memory
put_memory_long Nowhere x memory = refl
put_memory_long (Register r) x memory = refl
put_memory_long (Memory i) x memory = length-set memory i.0 x

-- all of them words
pub put_register_lem : (place : Place) (x : ℕ) (w : List ℕ) → IsWord x → AreWords w → AreWords (put_register place x w)
unfolding put_register
put_register_lem Nowhere x w hx h = h
put_register_lem (Register r) x w hx h = set_words w r x hx h
put_register_lem (Memory i) x w hx h = h

pub put_memory_lem : (place : Place) (x : ℕ) (memory : List ℕ) → IsWord x → AreWords memory → AreWords (put_memory place x memory)
unfolding put_memory
put_memory_lem Nowhere x memory hx h = h
put_memory_lem (Register r) x memory hx h = h
put_memory_lem (Memory i) x memory hx h = set_words memory i.0 x hx h
