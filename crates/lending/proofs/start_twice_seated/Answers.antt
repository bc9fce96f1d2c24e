use Rattle.std.proofs.Common.{◌≡◌, rules}
use Rattle.register.specs.Changes.{cleared}
use Rattle.register.specs.Layer.{seated}
use Rattle.lending.proofs.Tables.{cleared_again}
use Rattle.lending.proofs.start_twice_seated.Goals as goal

pub returns : goal.returns
returns g c =
    let m = g.R.Register.model c.args.register.now in
    let again : cleared (seated c.args.inner (cleared m)) ≡ seated c.args.inner (cleared m) = cleared_again c.args.inner m in
    search rules
