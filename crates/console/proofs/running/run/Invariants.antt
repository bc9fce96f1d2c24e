use Rattle.std.proofs.Common.{◌+◌, ◌≤◌}
use Rattle.std.specs.Iterator.Adapters.{enumerate_count, enumerate_source}
use Rattle.console.specs.Printed.{Ran}
use Rattle.console.proofs.running.run.Given as goal

-- each line is at most one call, takes a byte or more of the script, and what it does follows what the lines before it did
abbrev pub invariant-loop-i : goal.invariant-loop-i
invariant-loop-i l =
    (goal.iterator-loop-i).can_next l.i-iterator
    × (goal.iterator-loop-i).is_finite l.i-iterator
    × (enumerate_count l.i-iterator + (goal.iterator-loop-i).remaining l.i-iterator ≤ 1048576)
    × (l.session.totals.calls ≤ enumerate_count l.i-iterator)
    × Ran l.script l.initial.session (enumerate_source l.i-iterator).rest.now (enumerate_count l.i-iterator) l.session
