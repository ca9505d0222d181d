-- Services of three bags and bags as lent slices, each value worked out by hand from document 01. Assumes nothing.
use Prim.Native.Nat.{ℕ, zero, suc, ◌*◌, ◌-◌, ◌^◌, ◌<◌}
use mathlib.Core.Path.{◌≡◌, refl, ◌∙◌}
use native.Mathlib.Omega.{arith}
use lib.Dec.{lit<}
use mathlib.Core.Bool.{Bool, true, false}
use mathlib.Core.List.{List, [], ◌∷◌, ◌++◌, map}
use lib.IntN.{ℤ, pos, neg_ℤ}
use lib.ListN.{set, replicate, length-set}
use Rattle.integers.specs.Range.{lowest, highest, outside}
use Rattle.accumulator.specs.Mode.{is_good_mode, mode_of}
use Rattle.accumulator.specs.Limit.{is_accumulator}
use Rattle.accumulator.specs.declared.mode.Target.TheVariants.{A}
use Rattle.operations.specs.Encode.{encode_of}
use Rattle.operations.specs.Listed.{is_listed}
use Rattle.operations.specs.declared.operation.PostModification.TheVariants.{None as Stays, Increment}
use Rattle.operations.specs.declared.operation.Operand.TheVariants.{Register as Direct, Memory as Pointed}
use Rattle.operations.specs.declared.operation.Operation.{Operation}
use Rattle.operations.specs.declared.operation.Operation.TheVariants.{Add, SacR, Literal, Load, Repeat, Do}
use Rattle.program.specs.File.{blocks_refusal, file_refusal}
use Rattle.program.specs.Placement.{is_placed}
use Rattle.program.specs.Write.{file_of}
use Rattle.state.specs.Settings.{plain_settings}
use Rattle.state.specs.State.{no_loops, reset_state, restarted_state}
use Rattle.state.specs.Accept.{are_loops, is_repeat_left, is_state, state_refusal}
use Rattle.state.specs.declared.settings.Settings.{Settings}
use Rattle.state.specs.declared.state.Core.{Core}
use Rattle.state.specs.declared.state.State.{State}
use Rattle.state.proofs.Made.{made, ◌but◌, reg, in_b, at, due, by, flags, one}
use Rattle.effects.specs.declared.access.Place.TheVariants.{Memory}
use Rattle.machine.specs.Control.{control_of}
use Rattle.machine.specs.Step.{operation_at}
use Rattle.machine.proofs.Words.{IsWord, set_words}
use Rattle.machine.specs.Single.{call_refusal}
use Rattle.machine.proofs.CallExamples.{refused}
use Rattle.endings.specs.Ending.{code_of}
use Rattle.runs.specs.Run.{Stop, Result}
use Rattle.runs.specs.Run.Stop.{ended, left}
use Rattle.runs.specs.Engine.{Engine}
use Rattle.runs.specs.Ledger.{Entry, Ledger}
use Rattle.engine.specs.Call.{run_of}
use Rattle.runs.specs.Holds.{holds}
use Rattle.runs.proofs.Opened.{engine, exact as exact_runs}
use Rattle.endings.specs.declared.ending.Ending.TheVariants.{Done, Spent, Trap}
use Rattle.service.specs.Service.{Bag, onward, engine_of, first_before, Served, engine_service, engine_after, call_service, ledger_service}
use Rattle.service.specs.Exact.{Sound, Every, Pairs, AsFar, NoneLeft, ExactService}
use Rattle.service.specs.Bags.{Schedule, schedule_of, filled, first_bags, bags_of}
use Rattle.service.specs.Call.{is_enough, service_refusal, code_in, ServedUpTo}
use Rattle.service.proofs.Fits.{accepted_begins}
use Rattle.service.proofs.Services.{exact_service}
use Rattle.state.proofs.Parts.{zeros}

-- ---- how the examples are written

-- the engine's service, with every definition that it comes to opened
service : List Operation → Settings → Engine → List Bag → List Served
unfolding engine_service restarted_state plain_settings engine
service p settings x bags = engine_service p settings x bags

-- what is seen of the engine after a bag: how its run stopped, its steps, its state and memory
pub record Seen : Type 0 where
  pub stop : Stop
  pub steps : ℕ
  pub state : State
  pub memory : List ℕ

abbrev seen : Served → Seen
seen u =
    let r = u.result in
    record { stop = r.stop; steps = r.steps; state = r.machine.state; memory = r.machine.memory }

abbrev ends : Stop → ℕ → State → List ℕ → Seen
ends e k s memory = record { stop = e; steps = k; state = s; memory = memory }

-- what is seen of the ledger: how its run stopped, its steps, its core, and this bag's stores, latest first
pub record Told : Type 0 where
  pub stop : Stop
  pub steps : ℕ
  pub core : Core
  pub memory : List ℕ
  pub stores : List Entry

abbrev tells : Stop → ℕ → State → List ℕ → List Entry → Told
tells e k s memory l = record { stop = e; steps = k; core = s.core; memory = memory; stores = l }

-- the ledger's service, opened likewise; reset_state, which it does not come to, for must-fail/ledger_from_reset_each_bag
exact : List Operation → Settings → Engine → List Bag → List Told
unfolding ledger_service reset_state restarted_state plain_settings exact_runs
exact p settings x bags =
    map
    (λ v.
    record { stop = v.stop; steps = v.steps; core = v.machine.core; memory = v.machine.memory; stores = v.machine.stores })
    (ledger_service p settings x.state.core x.memory bags)

-- two words of a bag are added to A, which is then stored, rounded, to memory word 3: 1 + 1 + 2 × 2 + 1 steps
abbrev weigh : List Operation
weigh = Literal 8 0x1000 ∷ Do 1 3 ∷ Load 0 8 Increment ∷ Add A 8 (Direct 0) ∷ SacR A 8 (Pointed 9 Stays) ∷ []

-- W9 points to word 3; mode word 0020 hex, SATDW alone: limits of 39 bits, saturation off
abbrev start : ℤ → State
start a = made (set (replicate 14 0) 9 0x1006) a (pos 0) 0 no_loops 0 0x20 false false false false

-- W0 and W8 after the words of a bag
abbrev read : ℕ → ℕ → State → State
read x p s = s but reg 0 x but reg 8 p

abbrev begun : ℤ → Engine
begun a = record { state = start a; memory = 0 ∷ 0 ∷ 0 ∷ 0 ∷ [] }

-- a bag whose two words the controller puts into words 0 and 1, from the program's start
abbrev bag : ℕ → ℕ → ℕ → Bag
bag x y budget = record { fills = λ memory. set (set memory 0 x) 1 y; restarts = true; budget = budget }

-- so many units of A
abbrev units : ℕ → ℤ
units n = pos (n * 65536)

-- a rounded store to word 3
abbrev stored : ℕ → ℤ → ℤ → Bool → Entry
stored k v word limiting =
    record { step = k; place = Memory (record { 0 = 3 }); value = v; word = word; limiting = limiting; rounded = true }

-- ---- three bags with a spent one between

abbrev three : List Bag
three = bag 10 20 100 ∷ bag 1 2 4 ∷ onward 100 ∷ []

-- the second is spent within its loop, one pass left; the third goes on from there; A is never reset
abbrev within : State
within = start (units 31) but read 1 0x1002 but at 2 but one 1 1

spent_between :
    map seen (service weigh (plain_settings 2) (begun (pos 0)) three)
    ≡ ends (ended Done) 7 (start (units 30) but read 20 0x1004 but at 5) (10 ∷ 20 ∷ 0 ∷ 30 ∷ [])
    ∷ ends (ended Spent) 4 within (1 ∷ 2 ∷ 0 ∷ 30 ∷ [])
    ∷ ends (ended Done) 3 (start (units 33) but read 2 0x1004 but at 5) (1 ∷ 2 ∷ 0 ∷ 33 ∷ [])
    ∷ []
unfolding service
spent_between = refl

-- the ledger's bags, with the steps of their stores
spent_between_exact :
    exact weigh (plain_settings 2) (begun (pos 0)) three
    ≡ tells (ended Done) 7 (start (units 30) but read 20 0x1004 but at 5) (10 ∷ 20 ∷ 0 ∷ 30 ∷ []) (stored 7 (units 30) (pos 30) false ∷ [])
    ∷ tells (ended Spent) 4 within (1 ∷ 2 ∷ 0 ∷ 30 ∷ []) []
    ∷ tells (ended Done) 3 (start (units 33) but read 2 0x1004 but at 5) (1 ∷ 2 ∷ 0 ∷ 33 ∷ []) (stored 3 (units 33) (pos 33) false ∷ [])
    ∷ []
unfolding exact
spent_between_exact = refl

-- what the spent run returns is accepted, and so is its restart
spent_accepted : (state_refusal weigh within ≡ 0) × (state_refusal weigh (restarted_state within) ≡ 0)
unfolding state_refusal is_state are_loops is_repeat_left restarted_state is_accumulator is_good_mode outside lowest highest mode_of
spent_accepted = (refl, refl)

-- ---- a bag given up within a loop, and one within a REPEAT

-- mode word 00B0 hex, saturation at 40 bits; B is 5 and OB set
abbrev other : ℤ → State
other a = start a but in_b (pos 5) but by 0xb0 but flags false true false false

-- the second bag starts again: the loop is dropped, what the first bag added stays, and so do B, OB and the mode word
abbrev given_up : List Bag
given_up = bag 1 2 4 ∷ bag 3 4 100 ∷ []

from_a_loop :
    map seen (service weigh (plain_settings 2) (engine_of (other (pos 0)) (0 ∷ 0 ∷ 0 ∷ 0 ∷ [])) given_up)
    ≡ ends (ended Spent) 4 (other (units 1) but read 1 0x1002 but at 2 but one 1 1) (1 ∷ 2 ∷ 0 ∷ 0 ∷ [])
    ∷ ends (ended Done) 7 (other (units 8) but read 4 0x1004 but at 5) (3 ∷ 4 ∷ 0 ∷ 8 ∷ [])
    ∷ []
unfolding service
from_a_loop = refl

from_a_loop_exact :
    exact weigh (plain_settings 2) (engine_of (other (pos 0)) (0 ∷ 0 ∷ 0 ∷ 0 ∷ [])) given_up
    ≡ tells (ended Spent) 4 (other (units 1) but read 1 0x1002 but at 2 but one 1 1) (1 ∷ 2 ∷ 0 ∷ 0 ∷ []) []
    ∷ tells (ended Done) 7 (other (units 8) but read 4 0x1004 but at 5) (3 ∷ 4 ∷ 0 ∷ 8 ∷ []) (stored 7 (units 8) (pos 8) false ∷ [])
    ∷ []
unfolding exact
from_a_loop_exact = refl

-- 1 is added to A five times; cut after two of them three are due, and the next bag starts again
abbrev fivefold : List Operation
fivefold = Literal 0 1 ∷ Repeat 4 ∷ Add A 8 (Direct 0) ∷ []

abbrev again : ℕ → Bag
again budget = record { fills = λ memory. memory; restarts = true; budget = budget }

from_a_repeat :
    map seen (service fivefold (plain_settings 1) (engine_of (start (pos 0)) (7 ∷ 8 ∷ [])) (again 4 ∷ again 100 ∷ []))
    ≡ ends (ended Spent) 4 (start (units 2) but reg 0 1 but at 2 but due 3) (7 ∷ 8 ∷ [])
    ∷ ends (ended Done) 7 (start (units 7) but reg 0 1 but at 3) (7 ∷ 8 ∷ [])
    ∷ []
unfolding service
from_a_repeat = refl

from_a_repeat_exact :
    exact fivefold (plain_settings 1) (engine_of (start (pos 0)) (7 ∷ 8 ∷ [])) (again 4 ∷ again 100 ∷ [])
    ≡ tells (ended Spent) 4 (start (units 2) but reg 0 1 but at 2 but due 3) (7 ∷ 8 ∷ []) []
    ∷ tells (ended Done) 7 (start (units 7) but reg 0 1 but at 3) (7 ∷ 8 ∷ []) []
    ∷ []
unfolding exact
from_a_repeat_exact = refl

-- ---- a bag that leaves the limits

-- A begins 40 units below 2^39: the first bag's 30 fit, the second's 1 + 9 do not; the third adds nothing
abbrev full : List Bag
full = bag 10 20 100 ∷ bag 1 9 100 ∷ bag 0 0 100 ∷ []

abbrev nearly : ℕ → ℤ
nearly n = pos (2 ^ 39 - n * 65536)

-- 2^39 is kept as -2^39 with SA, which stays through the third bag; SATDW limits the stored word
left_once :
    map seen (service weigh (plain_settings 2) (begun (nearly 40)) full)
    ≡ ends (ended Done) 7 (start (nearly 10) but read 20 0x1004 but at 5 but flags true false false false) (10 ∷ 20 ∷ 0 ∷ 0x7fff ∷ [])
    ∷ ends (ended Done) 7 (start (neg_ℤ (pos (2 ^ 39))) but read 9 0x1004 but at 5 but flags true false true false) (1 ∷ 9 ∷ 0 ∷ 0x8000 ∷ [])
    ∷ ends (ended Done) 7 (start (neg_ℤ (pos (2 ^ 39))) but read 0 0x1004 but at 5 but flags true false true false) (0 ∷ 0 ∷ 0 ∷ 0x8000 ∷ [])
    ∷ []
unfolding service
left_once = refl

-- the flags are looked at after the last bag: after the first both are clear
abbrev flags_after : List Bag → Bool × Bool
flags_after bags =
    let s = (engine_after (begun (nearly 40)) (service weigh (plain_settings 2) (begun (nearly 40)) bags)).state in
    (s.sa, s.sb)

after_left :
    (flags_after full ≡ (true, false)) × (flags_after (bag 10 20 100 ∷ []) ≡ (false, false)) × ((engine_after (begun (nearly 40)) []).state.core.a ≡ nearly 40)
unfolding service
after_left = (refl, refl, refl)

-- by the theorem SA after the last bag, which is set, would be clear if no bag had left the limits
left_told : (vs : List (Result Ledger))
    → ExactService weigh (plain_settings 2) (begun (nearly 40)) (service weigh (plain_settings 2) (begun (nearly 40)) full) vs → NoneLeft vs → true ≡ false
unfolding service
left_told vs h none = (h.flags.1 none).sa

-- the ledger's service ends with the second bag, stopped before its sixth step: the first word was added, the second left the limits
left_once_exact :
    exact weigh (plain_settings 2) (begun (nearly 40)) full
    ≡ tells (ended Done) 7 (start (nearly 10) but read 20 0x1004 but at 5 but flags true false false false) (10 ∷ 20 ∷ 0 ∷ 0x7fff ∷ [])
    (stored 7 (nearly 10) (pos 32767) true ∷ [])
    ∷ tells left 5 (start (nearly 9) but read 9 0x1004 but at 3 but one 1 1 but flags true false false false) (1 ∷ 9 ∷ 0 ∷ 0x7fff ∷ []) []
    ∷ []
unfolding exact
left_once_exact = refl

-- ---- as many bags

uneven : (P : ℕ → ℕ → Type 0) → (Pairs P [] (1 ∷ []) → ⊥) × (Pairs P (1 ∷ []) [] → ⊥) × (AsFar P [] (1 ∷ []) → ⊥)
uneven P = (λ h. h, λ h. h, λ h. h)

-- ---- bags as lent slices

-- words at the start, within, at the end of a memory; none of them; all of it
fillings :
    (filled 0 (7 ∷ 8 ∷ []) (1 ∷ 2 ∷ 3 ∷ 4 ∷ []) ≡ 7 ∷ 8 ∷ 3 ∷ 4 ∷ [])
    × (filled 1 (7 ∷ 8 ∷ []) (1 ∷ 2 ∷ 3 ∷ 4 ∷ []) ≡ 1 ∷ 7 ∷ 8 ∷ 4 ∷ [])
    × (filled 2 (7 ∷ 8 ∷ []) (1 ∷ 2 ∷ 3 ∷ 4 ∷ []) ≡ 1 ∷ 2 ∷ 7 ∷ 8 ∷ [])
    × (filled 3 [] (1 ∷ 2 ∷ 3 ∷ 4 ∷ []) ≡ 1 ∷ 2 ∷ 3 ∷ 4 ∷ [])
    × (filled 0 (9 ∷ 9 ∷ 9 ∷ 9 ∷ []) (1 ∷ 2 ∷ 3 ∷ 4 ∷ []) ≡ 9 ∷ 9 ∷ 9 ∷ 9 ∷ [])
fillings = (refl, refl, refl, refl, refl)

-- two bags of two words from word 1 on; of the slices a third restart and a fifth word are not used
abbrev lent : Schedule
lent =
    record {
      window = record { first = record { 0 = 1 }; size = 2 };
      budgets = 100 ∷ 4 ∷ [];
      restarts = true ∷ false ∷ true ∷ [];
      words = 10 ∷ 20 ∷ 30 ∷ 40 ∷ 50 ∷ [];
    }

-- what each makes of a memory, whether it restarts, its budget
lent_bags :
    (map (λ (b : Bag). b.fills (1 ∷ 2 ∷ 3 ∷ 4 ∷ [])) (bags_of lent) ≡ (1 ∷ 10 ∷ 20 ∷ 4 ∷ []) ∷ (1 ∷ 30 ∷ 40 ∷ 4 ∷ []) ∷ [])
    × (map (λ (b : Bag). b.restarts) (bags_of lent) ≡ true ∷ false ∷ [])
    × (map (λ (b : Bag). b.budget) (bags_of lent) ≡ 100 ∷ 4 ∷ [])
unfolding first_bags
lent_bags = (refl, refl, refl)

-- long enough: just so, the memory, the endings, the steps one short
lent_enough :
    (is_enough lent 3 2 2 ≡ true) × (is_enough lent 2 2 2 ≡ false) × (is_enough lent 3 1 2 ≡ false) × (is_enough lent 3 2 1 ≡ false)
unfolding is_enough
lent_enough = (refl, refl, refl, refl)

-- the restarts and the words: just so, and one short
abbrev slices : List Bool → List ℕ → Schedule
slices restarts words = record { window = record { first = record { 0 = 1 }; size = 2 }; budgets = 100 ∷ 4 ∷ []; restarts = restarts; words = words }

slices_enough :
    (is_enough (slices (true ∷ true ∷ []) (1 ∷ 2 ∷ 3 ∷ 4 ∷ [])) 3 2 2 ≡ true)
    × (is_enough (slices (true ∷ []) (1 ∷ 2 ∷ 3 ∷ 4 ∷ [])) 3 2 2 ≡ false)
    × (is_enough (slices (true ∷ true ∷ []) (1 ∷ 2 ∷ 3 ∷ [])) 3 2 2 ≡ false)
unfolding is_enough
slices_enough = (refl, refl, refl)

-- refusal 1 of an empty file comes before 8
refused_in_order : service_refusal [] (plain_settings 2) (begun (pos 0)) lent 0 0 ≡ 1
unfolding service_refusal call_refusal file_refusal blocks_refusal
refused_in_order = refl

-- a state of another program, pc 6 where weigh has five operations, is accepted where the first bag starts again, and not where it goes on or there is none
abbrev moved : Engine
moved = engine_of (start (pos 0) but at 6) (0 ∷ 0 ∷ 0 ∷ 0 ∷ [])

abbrev startings : List ℕ → List Bool → ℕ
startings budgets restarts =
    let d = schedule_of (record { first = record { 0 = 0 }; size = 0 }) budgets restarts [] in
    state_refusal weigh (first_before (bags_of d) moved).state

other_program :
    (startings (9 ∷ 9 ∷ []) (true ∷ false ∷ []) ≡ 0)
    × (startings (9 ∷ 9 ∷ []) (false ∷ true ∷ []) ≡ 7)
    × (startings [] (true ∷ []) ≡ 7)
    × (startings (9 ∷ []) [] ≡ 7)
unfolding first_bags state_refusal is_state are_loops is_repeat_left restarted_state is_accumulator is_good_mode outside lowest highest mode_of
other_program = (refl, refl, refl, refl)

-- done, spent, trap 6, and what no run of the engine has
codes : map code_in (ended Done ∷ ended Spent ∷ ended (Trap 6) ∷ left ∷ []) ≡ 0x00 ∷ 0x10 ∷ 0x26 ∷ 0x40 ∷ []
unfolding code_of
codes = refl

-- ---- what the contract says of endings and steps

-- the file of a program
abbrev encoded : List Operation → List ℕ
encoded [] = []
encoded (o ∷ p) = encode_of o ++ encoded p

-- the service by calls, with every definition that it comes to opened
calls : Engine → List Bag → List Served
unfolding call_service restarted_state plain_settings run_of refused file_of engine
calls x bags = call_service (file_of (encoded weigh)) (plain_settings 2) x bags

-- the three bags of `three` as lent slices; the third has the words of the second once more
abbrev three_lent : Schedule
three_lent =
    schedule_of (record { first = record { 0 = 0 }; size = 2 }) (100 ∷ 4 ∷ 100 ∷ []) (true ∷ true ∷ false ∷ []) (10 ∷ 20 ∷ 1 ∷ 2 ∷ 1 ∷ 2 ∷ [])

-- done, spent, done after 7, 4 and 3 steps; what lies past them in the slices stays
three_told : (x : Engine) (endings steps : List ℕ)
    → ServedUpTo (file_of (encoded weigh)) (plain_settings 2) (begun (pos 0)) three_lent (9 ∷ 9 ∷ 9 ∷ 9 ∷ []) (9 ∷ 9 ∷ 9 ∷ 9 ∷ []) 3 x endings steps
    → (endings ≡ 0x00 ∷ 0x10 ∷ 0x00 ∷ 9 ∷ []) × (steps ≡ 7 ∷ 4 ∷ 3 ∷ 9 ∷ [])
unfolding calls first_bags code_of
three_told x endings steps h = (h.ends, h.counts)

-- ---- the theorem's premises are met

sound : (x y budget : ℕ) → IsWord x → IsWord y → Sound 4 (bag x y budget)
sound x y budget hx hy =
    record {
      long = λ memory e. length-set (set memory 0 x) 1 y ∙ length-set memory 0 x ∙ e;
      words = λ memory e h. set_words (set memory 0 x) 1 y hy (set_words memory 0 x hx h);
    }

three_exact :
    ExactService weigh (plain_settings 2) (begun (pos 0)) (engine_service weigh (plain_settings 2) (begun (pos 0)) three)
    (ledger_service weigh (plain_settings 2) (start (pos 0)).core (0 ∷ 0 ∷ 0 ∷ 0 ∷ []) three)
unfolding is_placed is_listed holds control_of restarted_state state_refusal is_state are_loops is_repeat_left is_accumulator is_good_mode outside lowest highest mode_of
three_exact =
    exact_service weigh refl listed refl (plain_settings 2) (begun (pos 0)) (record { sa = refl; sb = refl }) three sounds
    (accepted_begins weigh three (begun (pos 0))
    (record { registers = refl; words = set_words (replicate 14 0) 9 0x1006 (lit< tt) (zeros 14); starts = refl; passes = refl }) (zeros 4) sounds refl)
  where
    sounds : Every (Sound 4) three
    sounds =
        (sound 10 20 100 (lit< tt) (lit< tt), (sound 1 2 4 (lit< tt) (lit< tt), (record { long = λ memory e. e; words = λ memory e h. h }, tt)))

    listed : (i : ℕ) → i < 5 → is_listed (operation_at weigh i) ≡ true
    listed zero l = refl
    listed (suc zero) l = refl
    listed (suc (suc zero)) l = refl
    listed (suc (suc (suc zero))) l = refl
    listed (suc (suc (suc (suc zero)))) l = refl
    listed (suc (suc (suc (suc (suc i))))) l = absurd (omega arith)
