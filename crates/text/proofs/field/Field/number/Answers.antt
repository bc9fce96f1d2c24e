use Rattle.text.proofs.Digits.{same_number}
use Rattle.text.proofs.field.Field.number.Goals as goal

pub returns-clause-content : goal.returns-clause-content
returns-clause-content c = same_number
