use Rattle.register.proofs.Exact.{laws}
use Rattle.register.proofs.laws.keeps_laws.Goals as goal

pub returns : goal.returns
returns g c = laws (g.R.Register.model c.args.register.now) (g.R.Register.sound c.args.register.now)
