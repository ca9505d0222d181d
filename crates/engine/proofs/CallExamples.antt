-- What the promise of the call says by itself of a worked run. Assumes nothing.
use Prim.Native.Nat.{ℕ}
use mathlib.Core.Path.{◌≡◌, refl}
use Rattle.state.proofs.Made.{◌but◌, at}
use Rattle.machine.proofs.CallExamples.{file, refused}
use Rattle.endings.specs.declared.ending.Ending.TheVariants.{Spent}
use Rattle.runs.proofs.RunExamples.{plain, memory, start}
use Rattle.engine.specs.Call.{Runs}

-- a spent run of a file of three operations does not return pc 4: the refusal of such a state is 7, and that of what a call returns is 0
again_said : Runs file plain start memory 1 (record { ending = Spent; state = start but at 4; steps = 1 }) memory → ◌≡◌ {A = ℕ} 7 0
unfolding refused
again_said h = h.again refl
