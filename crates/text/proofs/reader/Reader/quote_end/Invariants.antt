use Rattle.std.proofs.Common.{◌≤◌, length}
use Rattle.text.proofs.Marks.{EscapedBefore}
use Rattle.text.proofs.reader.Reader.quote_end.Given as goal

abbrev pub invariant-content : goal.invariant-content
invariant-content l = EscapedBefore l.self.text.now l.self.at l.rest

abbrev pub decreases-content : goal.decreases-content
decreases-content l = length l.rest

abbrev pub invariant-run : goal.invariant-run
invariant-run l = EscapedBefore l.self.text.now l.self.at l.rest × (length l.rest ≤ length l.initial.rest)

abbrev pub decreases-run : goal.decreases-run
decreases-run l = length l.rest
