use Rattle.std.proofs.Common.{sym, subst}
use Rattle.plan.specs.History.{accepted, Means}
use Rattle.console.proofs.state.State.new.Goals as goal

pub invariant_of-result : goal.invariant_of-result
invariant_of-result c = record { written = subst (λ log. ∥ Means (accepted log) c.new.result ∥₁) (sym c.new-2.ensures.items) ∣ c.new.ensures ∣₁ }
