use Rattle.std.proofs.Common.{◌≡◌, ℕ, ◌<◌, List, length}
use Rattle.judge.specs.Search.{Covers}
use Rattle.judge.proofs.sharing.Search.fewest_users.Given as goal

abbrev pub invariant-loop-n : goal.invariant-loop-n
invariant-loop-n l = record {
  more : (ws : List ℕ) → Covers l.fn.self.survey.now.plan.now l.wanted ws → l.n < length ws;
  same : l.self.survey.now ≡ l.fn.self.survey.now;
}
