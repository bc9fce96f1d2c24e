use Rattle.std.proofs.Common.{ap, ◌∙◌}
use Rattle.register.specs.Layer.{seated}
use Rattle.register.proofs.Layers.{removed_below}
use Rattle.register.proofs.seats.SeatLayerRegister.remove.Goals as goal

pub returns : goal.returns
returns g c =
    let s = c.args.self.now in
    let e = c.remove.ensures in
    record {
      answer = e.answer;
      model = ap (seated s.own) e.model ∙ removed_below s.own (g.R.Register.model s.below) c.args.user c.args.role;
      kept = e.kept;
    }
