use Rattle.std.proofs.Common.{ℕ, List, Result, Ok, Err, IfOk, inr}
use Rattle.console.specs.declared.calls.Call.{Call}
use Rattle.console.specs.declared.state.State.{State}
use Rattle.console.specs.declared.tally.Outcome.{Outcome}
use Rattle.console.specs.Printed.{Answered, Called}
use Rattle.console.proofs.running.Session.perform_call.Goals as goal

-- a call that was answered was made by the line
called : {E : Type 0} (r : Result Outcome E) (s t : State) (asked : Call) (before : List ℕ) (number : ℕ) (line after : List ℕ)
    → IfOk r (λ o. Answered s asked before line o t after) → IfOk r (λ o. Called s before number line o t after)
called (Ok o) s t asked before number line after h = inr (asked, h)
called (Err e) s t asked before number line after h = h

pub returns-clause-called : goal.returns-clause-called
returns-clause-called c = called _ _ _ _ _ _ _ _ c.answer_call.ensures.answered
