use Rattle.std.proofs.Common.{refl}
use Rattle.holding.proofs.Bounds.{ones_left}
use Rattle.holding.proofs.Sought.too_few.Goals as goal

pub returns : goal.returns
returns c = rw (c.slack.ensures, ones_left c.args.open c.args.apart c.difference-here.result c.difference-here.ensures) refl
