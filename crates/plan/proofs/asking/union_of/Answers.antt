use Rattle.terms.proofs.Unions.{step_next, at_none}
use Rattle.plan.proofs.asking.union_of.Goals as goal

pub loop-number-preserved : goal.loop-number-preserved
loop-number-preserved c =
    let step = c.in-Some.ensures.steps in
    step_next c.args.rows.now _ _ c.in-Some.number c.loop-number.all _ step.0.member step.1 c.loop-number.invariant

pub returns : goal.returns
returns c = at_none c.args.rows.now _ c.loop-number.all _ c.in-None.ensures.steps.0 c.loop-number.invariant
