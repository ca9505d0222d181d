-- What the work of every listed operation has in common: a trap of 1 to 4 or none, as many registers as before, with a trap the same ones, a store to a place
-- of the machine, words of 16 bits, a free slot where a DO has no trap. Assumes nothing.
use Prim.Native.Nat.{ℕ, zero, suc, ◌≤◌, ◌<◌}
use mathlib.Core.Bool.{Bool, true, false}
use mathlib.Core.Path.{◌≡◌, refl, ◌∙◌}
use mathlib.Core.List.{List, [], ◌∷◌}
use native.Mathlib.Omega.{arith}
use lib.Dec.{eqb, ltb, lit<, lit≤}
use lib.IntN.{ℤ, pos}
use lib.ListN.{length, length-set}
use borrow.Author.Tests.{ltb-true, eqb-true}
use Rattle.integers.proofs.Whole.{never, both, by_test}
use Rattle.integers.specs.Bits.{signed_of}
use Rattle.accumulator.specs.Shift.{shift_allowed}
use Rattle.accumulator.specs.declared.mode.Mode.{Mode}
use Rattle.accumulator.specs.declared.mode.Target.{Target}
use Rattle.address.specs.Region.{all_words}
use Rattle.address.proofs.Regions.{free_word, access_most}
use Rattle.operations.specs.Listed.{is_register, is_word, reads, is_listed_operand, is_listed}
use Rattle.operations.specs.declared.operation.Operand.{Operand}
use Rattle.operations.specs.declared.operation.Operand.TheVariants.{Register as Direct, Memory as Pointed}
use Rattle.operations.specs.declared.operation.PostModification.{PostModification}
use Rattle.operations.specs.declared.operation.Prefetch.{Prefetch}
use Rattle.operations.specs.declared.operation.Prefetch.TheVariants.{None as NoPrefetch, Pointer, Sum}
use Rattle.operations.specs.declared.operation.WriteBack.{WriteBack}
use Rattle.operations.specs.declared.operation.WriteBack.TheVariants.{None as NoWriteBack, Register as ToRegister, Memory as ToMemory}
use Rattle.operations.specs.declared.operation.MacClass.{MacClass}
use Rattle.operations.specs.declared.operation.Operation.{Operation}
use Rattle.operations.specs.declared.operation.Operation.TheVariants.{MacClass as MacOperation, AddAccumulators, Subtract, Negate, Shift, Lac, Add, Sac}
use Rattle.operations.specs.declared.operation.Operation.TheVariants.{SacR, Literal, Load, Store, Repeat, RepeatRegister, Do, DoRegister, EndEarly, SetMode}
use Rattle.operations.specs.declared.operation.Operation.TheVariants.{ClearSaturation}
use Rattle.program.specs.Answer.{◌then◌}
use Rattle.program.proofs.Answers.{then_second, then_most}
use Rattle.state.specs.State.{register, accumulator_of}
use Rattle.state.specs.Typed.{AreWords}
use Rattle.state.specs.declared.settings.Settings.{Settings}
use Rattle.state.specs.declared.state.Core.{Core}
use Rattle.effects.specs.Access.{operand_access, region_of, sum_address, prefetch_access, back_access, changed}
use Rattle.effects.specs.Effect.{Work, quiet, blocked, results, unless_trap}
use Rattle.effects.specs.Mac.{mac_accesses, mac_trap, is_distance, loaded, arrived, mac_registers, mac_work}
use Rattle.effects.specs.Operations.{shift_work, load_work, store_work, move_work, loop_work, work_of}
use Rattle.effects.specs.declared.pointer.Purpose.{Purpose}
use Rattle.effects.specs.declared.pointer.Purpose.TheVariants.{Read, Store as Storing}
use Rattle.effects.specs.declared.pointer.Change.{Change}
use Rattle.effects.specs.declared.pointer.Change.TheVariants.{None as NoChange, To}
use Rattle.effects.specs.declared.access.Space.{Space}
use Rattle.effects.specs.declared.access.Space.TheVariants.{X, Y}
use Rattle.effects.specs.declared.access.Place.{Place}
use Rattle.effects.specs.declared.access.Place.TheVariants.{Nowhere, Register, Memory}
use Rattle.effects.specs.declared.effect.Value.{Value}
use Rattle.effects.specs.declared.mac.Accesses.{Accesses}
use Rattle.machine.specs.Control.{control_of, begins}
use Rattle.machine.specs.Step.{operation_at}
use Rattle.machine.proofs.Words.{ValueWord, changed_words, operand_change, prefetch_change, back_change, read_word, arrived_words, scaled_word, plain_word}

-- a register, or one of so many words of memory
abbrev pub Fits : ℕ → Place → Type 0
Fits words Nowhere = Unit {0}
Fits words (Register r) = r < 14
Fits words (Memory i) = i.0 < words

-- ---- an access's trap: 1, 2 or none

operand_trap : (s : Settings) (purpose : Purpose) (o : Operand) (w : List ℕ) (words : ℕ) → (operand_access s purpose o w words).trap ≤ 2
unfolding operand_access
operand_trap s purpose (Direct r) w words = lit≤ tt
operand_trap s purpose (Pointed p post) w words = access_most (all_words words) (register w p)

prefetch_trap : (s : Settings) (space : Space) (p : Prefetch) (w : List ℕ) (words : ℕ) → (prefetch_access s space p w words).trap ≤ 2
unfolding prefetch_access
prefetch_trap s space NoPrefetch w words = lit≤ tt
prefetch_trap s space (Pointer r c) w words = access_most (region_of s words space) (register w r)
prefetch_trap s space Sum w words = access_most (region_of s words space) (sum_address space w)

back_trap : (s : Settings) (back : WriteBack) (w : List ℕ) (words : ℕ) → (back_access s back w words).trap ≤ 2
unfolding back_access
back_trap s NoWriteBack w words = lit≤ tt
back_trap s ToRegister w words = lit≤ tt
back_trap s ToMemory w words = access_most (all_words words) (register w 13)

mac_trap_lem : (s : Settings) (q : MacClass) (w : List ℕ) (words : ℕ) → mac_trap (mac_accesses s q w words) ≤ 2
unfolding mac_accesses
mac_trap_lem s q w words =
    let a = mac_accesses s q w words in
    then_most a.x.trap (a.y.trap then a.back.trap) 2 (prefetch_trap s X q.x w words)
    (then_most a.y.trap a.back.trap 2 (prefetch_trap s Y q.y w words) (back_trap s q.back w words))

-- ---- accesses without a trap

changed_long : (change : Change) (w : List ℕ) → length (changed change w) ≡ length w
unfolding changed
changed_long NoChange w = refl
changed_long (To r a) w = length-set w r a.0

operand_fits : (s : Settings) (purpose : Purpose) (b2 : ℕ) (o : Operand) (w : List ℕ) (words : ℕ) → is_listed_operand b2 o ≡ true
    → (operand_access s purpose o w words).trap ≡ 0 → Fits words (operand_access s purpose o w words).place
unfolding operand_access
operand_fits s purpose b2 (Direct r) w words ok free = ltb-true r 14 (both (ltb b2 16) (is_register r) ok).1
operand_fits s purpose b2 (Pointed p post) w words ok free = (free_word (all_words words) (register w p) free).2

back_fits : (s : Settings) (back : WriteBack) (w : List ℕ) (words : ℕ) → (back_access s back w words).trap ≡ 0
    → Fits words (back_access s back w words).place
unfolding back_access
back_fits s NoWriteBack w words free = tt
back_fits s ToRegister w words free = lit< tt
back_fits s ToMemory w words free = (free_word (all_words words) (register w 13) free).2

-- ---- kinds 1 to 7

arrived_long : (k : MacClass) (x y : ℕ) (w : List ℕ) → length (arrived k x y w) ≡ length w
unfolding arrived
arrived_long k x y w =
    by_test (λ (l : List ℕ). length l ≡ length w) (is_distance k.action) (λ e. length-set w k.xto _)
    (λ e. loaded_long k.y k.yto y (loaded k.x k.xto x w) ∙ loaded_long k.x k.xto x w)
  where
    loaded_long : (p : Prefetch) (to v : ℕ) (l : List ℕ) → length (loaded p to v l) ≡ length l
    loaded_long p to v l = by_test (λ (l' : List ℕ). length l' ≡ length l) (reads p) (λ e. length-set l to v) (λ e. refl)

registers_long : (k : MacClass) (a : Accesses) (w memory : List ℕ) → length (mac_registers k a w memory) ≡ length w
unfolding mac_registers
registers_long k a w memory =
    arrived_long k _ _ _ ∙ changed_long a.back.change _ ∙ changed_long a.y.change _ ∙ changed_long a.x.change w

-- ---- every kind

-- the work of a listed operation
module _ (s : Settings) (m : Mode) (c : Core) (memory : List ℕ) where
  -- where registers and memory are words: the registers stay words, and what is stored is one
  abbrev Worded : Work → Type 0
  Worded work = AreWords c.w → AreWords memory → AreWords work.w × ValueWord work.effect.value

  -- a trap of 1 to 4 or none; as many registers as before, with a trap the same ones; a place of the machine; words; where a loop begins without a trap, a
  -- free slot
  pub record Fitted (loops : Bool) (work : Work) : Type 0 where
    pub trap : work.effect.trap ≤ 4
    pub long : length work.w ≡ length c.w
    pub leaves : (work.effect.trap ≡ 0 → ⊥) → work.w ≡ c.w
    pub place : Fits (length memory) work.effect.place
    pub words : Worded work
    pub slot : loops ≡ true → work.effect.trap ≡ 0 → c.loops.depth < 4

  -- registers that stay, and no store
  none_fitted : (loops : Bool) (trap : ℕ) → trap ≤ 4 → (loops ≡ true → trap ≡ 0 → c.loops.depth < 4) → Fitted loops (blocked c.w trap)
  none_fitted loops trap most free =
      record { trap = most; long = refl; leaves = λ z. refl; place = tt; words = λ h k. (h, plain_word 0 (lit< tt)); slot = free }

  -- with an access's trap that is all
  unless_fitted : (trap : ℕ) (work : Work) → trap ≤ 2 → (trap ≡ 0 → Fitted false work) → Fitted false (unless_trap c.w trap work)
  unless_fitted trap work most h =
      by_test (Fitted false) (eqb trap 0) {x = work} {y = blocked c.w trap} (λ e. h (eqb-true trap 0 e))
      (λ e. none_fitted false trap (omega arith) (λ z. never z))

  -- an exact result that leaves the registers
  results_fitted : (t : Target) (r : ℤ) → Fitted false (results c.w t r)
  results_fitted t r =
      record { trap = lit≤ tt; long = refl; leaves = λ z. refl; place = tt; words = λ h k. (h, plain_word 0 (lit< tt)); slot = λ z. never z }

  mac_fitted : (q : MacClass) → Fitted false (mac_work s m q c memory)
  unfolding mac_work mac_accesses mac_registers
  mac_fitted q =
      let a = mac_accesses s q c.w (length memory) in
      unless_fitted (mac_trap a) _ (mac_trap_lem s q c.w (length memory))
      (λ e.
      let free : a.back.trap ≡ 0 = then_second a.y.trap _ (then_second a.x.trap _ e) in
      record {
        trap = lit≤ tt;
        long = registers_long q a c.w memory;
        leaves = λ z. absurd (z refl);
        place = back_fits s q.back c.w (length memory) free;
        words =
            λ h k. (
              arrived_words q _ _ _ (read_word a.x.place c.w memory h k) (read_word a.y.place c.w memory h k)
                  (changed_words a.back.change _ (back_change s q.back c.w (length memory))
                  (changed_words a.y.change _ (prefetch_change s Y q.y c.w (length memory))
                  (changed_words a.x.change c.w (prefetch_change s X q.x c.w (length memory)) h))),
              scaled_word true _,
            );
        slot = λ z. never z;
      })

  shift_fitted : (t : Target) (n : ℤ) → Fitted false (shift_work t n c)
  unfolding shift_work
  shift_fitted t n = by_test (Fitted false) (shift_allowed n) (λ e. results_fitted t _) (λ e. none_fitted false 3 (lit≤ tt) (λ z. never z))

  -- the registers after an operand's access
  operand_words : (purpose : Purpose) (o : Operand) → AreWords c.w → AreWords (changed (operand_access s purpose o c.w (length memory)).change c.w)
  operand_words purpose o h =
      changed_words (operand_access s purpose o c.w (length memory)).change c.w (operand_change s purpose o c.w (length memory) h) h

  load_fitted : (t : Target) (v : ℤ) (b2 : ℕ) (from : Operand) → Fitted false (load_work s t v b2 from c memory)
  unfolding load_work
  load_fitted t v b2 from =
      let a = operand_access s Read from c.w (length memory) in
      unless_fitted a.trap _ (operand_trap s Read from c.w (length memory))
      (λ e.
      record {
        trap = lit≤ tt;
        long = changed_long a.change c.w;
        leaves = λ z. absurd (z refl);
        place = tt;
        words = λ h k. (operand_words Read from h, plain_word 0 (lit< tt));
        slot = λ z. never z;
      })

  store_fitted : (b2 : ℕ) (to : Operand) (v : Value) → is_listed_operand b2 to ≡ true → (AreWords c.w → ValueWord v)
      → Fitted false (store_work s to v c memory)
  unfolding store_work
  store_fitted b2 to v ok hv =
      let a = operand_access s Storing to c.w (length memory) in
      unless_fitted a.trap _ (operand_trap s Storing to c.w (length memory))
      (λ e.
      record {
        trap = lit≤ tt;
        long = changed_long a.change c.w;
        leaves = λ z. absurd (z refl);
        place = operand_fits s Storing b2 to c.w (length memory) ok e;
        words = λ h k. (operand_words Storing to h, hv h);
        slot = λ z. never z;
      })

  move_fitted : (to p : ℕ) (post : PostModification) → is_register to ≡ true → Fitted false (move_work s to p post c memory)
  unfolding move_work
  move_fitted to p post ok =
      let a = operand_access s Read (Pointed p post) c.w (length memory) in
      unless_fitted a.trap _ (operand_trap s Read (Pointed p post) c.w (length memory))
      (λ e.
      record {
        trap = lit≤ tt;
        long = changed_long a.change c.w;
        leaves = λ z. absurd (z refl);
        place = ltb-true to 14 ok;
        words = λ h k. (operand_words Read (Pointed p post) h, plain_word _ (read_word a.place c.w memory h k));
        slot = λ z. never z;
      })

  loop_fitted : Fitted true (loop_work c)
  unfolding loop_work
  loop_fitted =
      by_test (Fitted true) (ltb c.loops.depth 4) (λ e. none_fitted true 0 (lit≤ tt) (λ t z. ltb-true c.loops.depth 4 e))
      (λ e. none_fitted true 4 (lit≤ tt) (λ t z. absurd (omega (arith, z))))

  -- kinds that only go on
  quiet_fitted : Fitted false (quiet c.w)
  quiet_fitted = none_fitted false 0 (lit≤ tt) (λ z. never z)

  pub work_fitted : (o : Operation) → is_listed o ≡ true → Fitted (begins (control_of o)) (work_of s m o c memory)
  unfolding work_of is_listed control_of
  work_fitted (MacOperation q) ok = mac_fitted q
  work_fitted (AddAccumulators t) ok = results_fitted t _
  work_fitted (Subtract t) ok = results_fitted t _
  work_fitted (Negate t) ok = results_fitted t _
  work_fitted (Shift t r) ok = shift_fitted t (signed_of 16 (register c.w r))
  work_fitted (Lac t b2 o) ok = load_fitted t (pos 0) b2 o
  work_fitted (Add t b2 o) ok = load_fitted t (accumulator_of c t) b2 o
  work_fitted (Sac t b2 o) ok = store_fitted b2 o _ ok (λ h. scaled_word _ _)
  work_fitted (SacR t b2 o) ok = store_fitted b2 o _ ok (λ h. scaled_word _ _)
  work_fitted (Literal r v) ok =
      let (register, word) = both (is_register r) (is_word v) ok in
      record {
        trap = lit≤ tt;
        long = refl;
        leaves = λ z. refl;
        place = ltb-true r 14 register;
        words = λ h k. (h, plain_word v (ltb-true v 65536 word));
        slot = λ z. never z;
      }
  work_fitted (Load r p post) ok = move_fitted r p post (both (is_register r) (is_register p) ok).0
  work_fitted (Store r p post) ok = store_fitted 0 (Pointed p post) _ (both (is_register r) (is_register p) ok).1 (λ h. plain_word _ (h r))
  work_fitted (Repeat n) ok = quiet_fitted
  work_fitted (RepeatRegister r) ok = quiet_fitted
  work_fitted (Do n last) ok = loop_fitted
  work_fitted (DoRegister r last) ok = loop_fitted
  work_fitted EndEarly ok = quiet_fitted
  work_fitted (SetMode word) ok = quiet_fitted
  work_fitted ClearSaturation ok = quiet_fitted

-- past a program's end stands end early, which is listed
pub listed_at : (p : List Operation) → ((i : ℕ) → i < length p → is_listed (operation_at p i) ≡ true) → (i : ℕ) → is_listed (operation_at p i) ≡ true
unfolding is_listed
listed_at [] ok i = refl
listed_at (o ∷ p) ok zero = ok 0 (omega arith)
listed_at (o ∷ p) ok (suc i) = listed_at p (λ j l. ok (suc j) (omega arith)) i
