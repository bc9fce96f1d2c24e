use Rattle.terms.proofs.Bits.{cut}
use Rattle.terms.proofs.sets.difference.Goals as goal

pub returns : goal.returns
returns c = cut c.args.members c.args.other
