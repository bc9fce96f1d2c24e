use Rattle.std.proofs.Common.{ℕ, ◌⊎◌}
use Rattle.terms.specs.Sets.{In}
use Rattle.plan.specs.Authority.{Granted}
use Rattle.holding.proofs.surveying.elsewhere.Given as goal

abbrev pub invariant-loop-a : goal.invariant-loop-a
invariant-loop-a l = (a k : ℕ) → Granted l.plan a k → In a l.roles ⊎ In a l.a-iterator.left ⊎ In k l.all
