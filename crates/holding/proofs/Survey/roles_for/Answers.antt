use Rattle.holding.specs.Search.{Fits}
use Rattle.holding.proofs.Holders.{answer_from_none}
use Rattle.holding.proofs.Survey.roles_for.Goals as goal

pub returns : goal.returns
returns c = answer_from_none c.args.self.now.plan.now c.args.wanted (Fits c.of.result) c.of.ensures.asks c.holder.result c.holder.ensures
