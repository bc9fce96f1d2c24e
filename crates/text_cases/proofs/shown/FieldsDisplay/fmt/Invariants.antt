use Rattle.std.proofs.Common.{◌+◌, ◌-◌, ◌*◌, cond, length}
use Rattle.text_cases.proofs.shown.FieldsDisplay.fmt.Given as goal

-- twice the bytes that are left, and one more within a record
abbrev pub decreases-loop-field : goal.decreases-loop-field
decreases-loop-field g l = 2 * (length l.walk.reader.text.now - l.walk.reader.at) + cond l.walk.inside 1 0
