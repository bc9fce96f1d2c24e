use Rattle.bit_rows.proofs.Counting.{has_role_is}
use Rattle.bit_rows.proofs.counts.has_role.Goals as goal

pub returns : goal.returns
returns c = has_role_is c.args.row c.args.role c.contains.result c.ranges.row.fits c.contains.ensures.yes c.contains.ensures.no
