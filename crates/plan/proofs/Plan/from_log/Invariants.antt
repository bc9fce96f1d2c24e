use Rattle.std.proofs.Common.{◌≡◌, ℕ, ◌<◌, take}
use Rattle.plan.specs.History.{additions, accepted, Means, Answered}
use Rattle.plan.proofs.Plan.from_log.Given as goal

abbrev pub invariant-loop-entry : goal.invariant-loop-entry
invariant-loop-entry l =
    (additions l.log ≡ additions l.initial.log)
    × ((n : ℕ) → n < l.entry-index → Answered l.log n)
    × Means (accepted (take l.entry-index l.log)) l.plan
