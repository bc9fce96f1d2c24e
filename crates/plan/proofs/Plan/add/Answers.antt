use Rattle.std.proofs.Common.{rules}
use Rattle.plan.proofs.Histories.{means_made}
use Rattle.plan.proofs.Plan.add.Goals as goal

pub returns-in-Senior-clause-means : goal.returns-in-Senior-clause-means
returns-in-Senior-clause-means c xs m = means_made xs c.args.self.now c.senior.new.self m c.args.addition c.senior.result (search rules) (search rules)

pub returns-in-Grant-clause-means : goal.returns-in-Grant-clause-means
returns-in-Grant-clause-means c xs m = means_made xs c.args.self.now c.grant.new.self m c.args.addition c.grant.result (search rules) (search rules)

pub returns-in-Policy-clause-means : goal.returns-in-Policy-clause-means
returns-in-Policy-clause-means c xs m = means_made xs c.args.self.now c.policy.new.self m c.args.addition c.policy.result (search rules) (search rules)

pub returns-in-Constraint-clause-means : goal.returns-in-Constraint-clause-means
returns-in-Constraint-clause-means c xs m = means_made xs c.args.self.now c.constraint.new.self m c.args.addition c.constraint.result (search rules) (search rules)
