-- What holds of every judged plan.
use Rattle.plan.specs.Enforcing.{Breachable}
use Rattle.plan.specs.declared.Plan.{Plan}

-- no assignment that satisfies the constraints, to however many users, breaches a policy
abbrev pub Unbreachable : Plan → Type 0
Unbreachable p = Breachable p → ⊥
