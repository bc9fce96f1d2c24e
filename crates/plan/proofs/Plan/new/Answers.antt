use Rattle.plan.proofs.Tables.{zeros}
use Rattle.plan.proofs.Seniority.{alone_low, alone_reflexive, alone_transitive, alone_antisymmetric}
use Rattle.plan.proofs.Histories.{means_none}
use Rattle.plan.proofs.Plan.new.Goals as goal

pub invariant_of-result-clause-reflexive : goal.invariant_of-result-clause-reflexive
invariant_of-result-clause-reflexive c = alone_reflexive _ c.alone.ensures.inside c.alone.ensures.past

pub invariant_of-result-clause-transitive : goal.invariant_of-result-clause-transitive
invariant_of-result-clause-transitive c = alone_transitive _ c.alone.ensures.inside c.alone.ensures.past

pub invariant_of-result-clause-antisymmetric : goal.invariant_of-result-clause-antisymmetric
invariant_of-result-clause-antisymmetric c = alone_antisymmetric _ c.alone.ensures.inside c.alone.ensures.past

pub returns : goal.returns
returns c = means_none _ (alone_low _ c.alone.ensures.inside c.alone.ensures.past) (zeros 64) c.new.ensures c.new-2.ensures
