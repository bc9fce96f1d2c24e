use Rattle.std.proofs.Common.{◌≤◌, length}
use Rattle.text.specs.Scans.{PlainTo}
use Rattle.text.proofs.reader.Reader.plain_end.Given as goal

abbrev pub invariant-loop-i : goal.invariant-loop-i
invariant-loop-i l = (l.self.at ≤ l.i) × (l.i ≤ length l.text) × PlainTo l.text l.self.at l.i
