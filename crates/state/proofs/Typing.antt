-- A state of the code is typed: a proof of a function that takes one hands on what owning it tells (`c.good`). Assumes nothing.
use mathlib.Core.List.{List}
use denote.Shadow.{shadow}
use denote.Struct.Declared.{row}
use mir.Syntax.{w16}
use mir.Val.{Val}
use borrow.Author.Rules.{elem_Fits}
use Rattle.state.specs.Typed.{Typed}
use Rattle.state.specs.declared.state.State.{State}
use Rattle.state.specs.contracts.state.State.{the_type}

pub typed_state : (s : State) (us : List Val) → shadow ((row the_type).own_val s us) → Typed s.core
typed_state s us h =
    let core = s.core in
    let fields = h.1.1.0.1.1 in
    let slots = fields.1.1.1.1.0.1.1 in
    record {
      registers = fields.0.1.0.1;
      words = λ i. (elem_Fits w16 w16 core.w _ i fields.0.1.1 tt).fits;
      starts = slots.0.1.0.1;
      passes = slots.1.0.1.0.1;
    }
