use Rattle.std.proofs.Common.{◌≡◌, ◌-◌, length}
use Rattle.text.proofs.Records.{Before}
use Rattle.text.proofs.reader.Reader.record.Given as goal

abbrev pub invariant-loop-field : goal.invariant-loop-field
invariant-loop-field l = (l.reader.text ≡ l.self.text) × Before l.self.text.now l.self.at l.initial.slots l.slots l.reader.at l.count

abbrev pub decreases-loop-field : goal.decreases-loop-field
decreases-loop-field l = length l.self.text.now - l.reader.at
