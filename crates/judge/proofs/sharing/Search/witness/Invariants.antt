use Rattle.std.proofs.Common.{◌≡◌, ℕ, ◌<◌}
use Rattle.plan.specs.Enforcing.{Enforces}
use Rattle.judge.proofs.sharing.Search.witness.Given as goal

abbrev pub invariant-loop-i : goal.invariant-loop-i
invariant-loop-i l = record {
  lower : (k : ℕ) → k < l.i → Enforces l.fn.self.survey.now.plan.now k;
  same : l.self.survey.now ≡ l.fn.self.survey.now;
}
