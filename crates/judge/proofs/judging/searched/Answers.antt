use Rattle.std.proofs.Common.{ap, ◌∙◌}
use Rattle.holding.specs.declared.Survey.{Survey}
use Rattle.judge.proofs.Memories.{slots_moved, slots_none}
use Rattle.judge.proofs.Judgements.{answer_of}
use Rattle.judge.proofs.judging.searched.Goals as goal

pub over-requires : goal.over-requires
over-requires c = slots_moved c.of-survey.result.plan.now c.over-memo.ensures.sets c.over-memo.ensures.known (slots_none c.of-survey.result.plan.now 65536)

pub returns : goal.returns
returns c = answer_of c.args.plan.now c.over.result.survey.now.plan.now c.witness.result (ap (λ (s : Survey). s.plan.now) c.over.ensures ∙ c.of-survey.ensures) c.witness.ensures
