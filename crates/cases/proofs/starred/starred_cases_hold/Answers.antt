use Rattle.cases.proofs.Judged.{starred}
use Rattle.cases.proofs.starred.starred_cases_hold.Goals as goal

pub returns : goal.returns
returns c = starred
