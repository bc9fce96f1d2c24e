use Rattle.std.proofs.Common.{◌≡◌, ◌-◌, length}
use Rattle.text.proofs.Walked.{Walked}
use Rattle.text.proofs.walk.count_records.Given as goal

abbrev pub invariant-loop-reader : goal.invariant-loop-reader
invariant-loop-reader l = (l.reader.text.now ≡ l.text) × Walked l.text l.reader.at l.count

abbrev pub decreases-loop-reader : goal.decreases-loop-reader
decreases-loop-reader l = length l.reader.text.now - l.reader.at
