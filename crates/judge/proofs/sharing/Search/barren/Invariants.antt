use Rattle.std.proofs.Common.{◌≡◌}
use Rattle.terms.specs.Sets.{Within}
use Rattle.judge.proofs.sharing.Search.barren.Given as goal

abbrev pub invariant-loop-k : goal.invariant-loop-k
invariant-loop-k l = record {
  part : Within l.k-iterator.left l.wanted;
  same : l.self.survey.now ≡ l.fn.self.survey.now;
}
