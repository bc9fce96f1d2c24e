use Rattle.plan.proofs.Holdings.{held_exactly}
use Rattle.plan.proofs.Plan.held.Goals as goal

pub returns-clause-exactly : goal.returns-clause-exactly
returns-clause-exactly c m = rw (c.union_of.ensures, c.authorised.ensures.value) (held_exactly c.args.self.now c.args.assigned m)
