use Rattle.std.proofs.Common.{ℕ, ◌<◌}
use lib.Bits.{bit_and}
use lib.Count.{ones}
use Rattle.plan.specs.Authority.{constraint_at}
use Rattle.plan.proofs.Plan.broken.Given as goal

abbrev pub invariant-loop-i : goal.invariant-loop-i
invariant-loop-i l = (k : ℕ) → k < l.i → ones (bit_and l.all (constraint_at l.self k).roles) < (constraint_at l.self k).limit
