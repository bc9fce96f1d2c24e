use Rattle.std.proofs.Common.{◌*◌, ◌≤◌}
use Rattle.holding.specs.Search.{NamedRight}
use Rattle.holding.proofs.Sought.together.Given as goal

abbrev pub invariant-loop-times : goal.invariant-loop-times
invariant-loop-times l = (l.named.spare ≤ 4096 * l.times-index) × NamedRight l.self l.named
