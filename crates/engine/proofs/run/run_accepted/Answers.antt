-- `run::run_accepted` meets its contract: a state taken apart stands, and its run is the state's. Assumes nothing.
use native.Mathlib.Omega.{arith}
use Rattle.program.specs.File.{program_of}
use Rattle.program.proofs.Accepted.{program_length}
use Rattle.state.specs.Typed.{AreWords}
use Rattle.state.proofs.Typing.{typed_state}
use Rattle.machine.proofs.Stands.{accepted_stands}
use Rattle.products.proofs.Ranges.{accumulator_kept}
use Rattle.runs.specs.Engine.{engine_run}
use Rattle.legs.proofs.Legs.{state_stood}
use Rattle.engine.proofs.run.run_accepted.Goals as goal

pub active_loops-loops-requires : goal.active_loops-loops-requires
active_loops-loops-requires c =
    let file = c.args.file.now in
    let s = c.args.state in
    let accepted = c.requires.file_value in
    let stands = accepted_stands (program_of file) s (typed_state s _ c.well_formed.1.1.1.1.0) c.requires.state_value in
    let nested = stands.nested in
    record {
      file_value = accepted;
      few = nested.few;
      begun = λ j l. let k = nested.begun j l in omega (arith, k, stands.at, program_length file accepted);
      unused = λ j k l. (nested.unused j k l).0;
    }

pub run_windows-leg-requires : goal.run_windows-leg-requires
run_windows-leg-requires c =
    let s = c.args.state in
    let typed = typed_state s _ c.well_formed.1.1.1.1.0 in
    let stands = accepted_stands (program_of c.args.file.now) s typed c.requires.state_value in
    let loops = c.active_loops-loops.ensures in
    let ram : AreWords c.args.memory.now = λ i. omega (arith, c.slice_known-2-1.given i) in
    record {
      file_value = c.requires.file_value;
      stood =
          state_stood (program_of c.args.file.now) c.args.settings s _
          (rw (accumulator_kept s.core.a stands.a, accumulator_kept s.core.b stands.b, loops.starts, loops.passes))
          typed c.requires.state_value ram c.requires.xwords_in_bounds loops.lasts;
      covers = c.requires.covers;
      in_bounds = c.requires.in_bounds;
    }

pub returns : goal.returns
unfolding engine_run
returns c =
    let s = c.args.state in
    let stands = accepted_stands (program_of c.args.file.now) s (typed_state s _ c.well_formed.1.1.1.1.0) c.requires.state_value in
    let loops = c.active_loops-loops.ensures in
    let ran = c.run_windows-leg.ensures in
    record {
      memory_after =
          rw (c.ending_of.ensures, c.state.ensures)
          (rw (accumulator_kept s.core.a stands.a, accumulator_kept s.core.b stands.b, loops.starts, loops.passes) at ran.result_after);
      words_unchanged = ran.words_unchanged;
    }
