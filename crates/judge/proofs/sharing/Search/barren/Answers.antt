use Rattle.std.proofs.lemmas.Nat.{one_shl}
use Rattle.judge.proofs.Shares.{barren_none}
use Rattle.judge.proofs.sharing.Search.barren.Goals as goal

pub returns-then-not-holdable-clause-answer : goal.returns-then-not-holdable-clause-answer
returns-then-not-holdable-clause-answer c _ =
    let step = c.in-Some.ensures.steps in
    barren_none c.args.self.now.survey.now.plan.now c.in-Some.k _ (one_shl c.in-Some.k 64 step.0.low) c.args.wanted (c.loop-k.invariant.part c.in-Some.k step.0.member)
    (rw c.loop-k.invariant.same at (c.holdable.ensures.no c.if-not-holdable.true))
