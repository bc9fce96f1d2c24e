use Rattle.std.proofs.Common.{◌+◌, ◌*◌, ◌≤◌}
use Rattle.holding.specs.Search.{NamedRight}
use Rattle.holding.proofs.Sought.name_more.Given as goal

abbrev pub invariant-loop-c : goal.invariant-loop-c
invariant-loop-c l = (l.named.spare ≤ l.fn.before.spare + 64 * l.c-index) × NamedRight l.self l.named
