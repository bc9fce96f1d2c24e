use Rattle.plan.proofs.Holdings.{authorised_exactly}
use Rattle.plan.proofs.Plan.authorised.Goals as goal

pub returns-clause-exactly : goal.returns-clause-exactly
returns-clause-exactly c b = rw c.union_of.ensures (authorised_exactly c.args.self.now c.args.assigned b)
