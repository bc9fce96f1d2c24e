use Rattle.std.proofs.Common.{ℕ, ◌<◌, get_or}
use Rattle.terms.specs.Sets.{In}
use Rattle.plan.specs.Authority.{authorised}
use Rattle.holding.specs.Search.{Fits}
use Rattle.holding.proofs.Sought.+holder.Given as goal

abbrev pub decreases-holder : goal.decreases-holder
decreases-holder l = l.self.now.wanted

abbrev pub invariant-loop-r : goal.invariant-loop-r
invariant-loop-r l = (r : ℕ) → r < l.r → In l.k (get_or l.self.survey.now.plan.now.grants r 0) → (w : ℕ) → Fits l.self w → In r (authorised l.self.survey.now.plan.now w) → ⊥
