use Rattle.std.proofs.Common.{refl}
use Rattle.judge.proofs.Judgements.{breached}
use Rattle.judge.proofs.judging.judge.Goals as goal

pub returns-in-Some-clause-exactly : goal.returns-in-Some-clause-exactly
returns-in-Some-clause-exactly c = ((λ _. breached c.args.plan.now c.in-Some.found c.in-Some.ensures), (λ _. refl))
