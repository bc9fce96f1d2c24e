use Rattle.std.proofs.Common.{sym, subst}
use Rattle.plan.specs.History.{accepted, Means}
use Rattle.console.proofs.state.State.begin.Goals as goal

pub invariant_of-self : goal.invariant_of-self
invariant_of-self c = record { written = subst (λ log. ∥ Means (accepted log) c.new-self.result ∥₁) (sym c.clear.ensures.items) ∣ c.new-self.ensures ∣₁ }
