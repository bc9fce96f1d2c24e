use Rattle.terms.proofs.Bits.{lowest_is}
use Rattle.terms.proofs.sets.lowest.Goals as goal

pub returns : goal.returns
returns c = lowest_is c.args.members c.ranges.members.fits c.if-members-eq0.false
