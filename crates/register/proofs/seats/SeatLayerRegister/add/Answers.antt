use Rattle.std.proofs.Common.{sym, refl, ap, ◌∙◌}
use Rattle.register.specs.Layer.{seated}
use Rattle.register.proofs.Layers.{turned_away, passed_on}
use Rattle.register.proofs.seats.SeatLayerRegister.add.Goals as goal

pub returns-then-turns_away : goal.returns-then-turns_away
returns-then-turns_away g c =
    let s = c.args.self.now in
    let a = turned_away s.own (g.R.Register.model s.below) c.args.user c.args.role (sym c.turns_away.ensures ∙ c.if-turns_away.true) in
    record { answer = sym a.answer; model = sym a.model; kept = refl }

pub returns : goal.returns
returns g c =
    let s = c.args.self.now in
    let p = passed_on s.own (g.R.Register.model s.below) c.args.user c.args.role (sym c.turns_away.ensures ∙ c.if-turns_away.false) in
    let e = c.add.ensures in
    record { answer = e.answer ∙ p.answer; model = ap (seated s.own) e.model ∙ p.model; kept = e.kept }
