use Rattle.std.proofs.Common.{refl, arith, ltb-true}
use Rattle.plan.specs.Authority.{authorised}
use Rattle.holding.proofs.Bounds.{fresh_none, fresh_bound}
use Rattle.holding.proofs.Sought.together.Goals as goal

pub loop-times-init : goal.loop-times-init
loop-times-init c = (omega arith, λ w h. omega (arith, fresh_none (authorised c.args.self.now.survey.now.plan.now w) (authorised c.args.self.now.survey.now.plan.now c.args.self.now.word)))

pub returns : goal.returns
returns c e w h =
    let u = c.args.self.now in
    let p = u.survey.now.plan.now in
    let named = c.loop-times.named in
    let few = fresh_bound p u.word u.wanted w h named.roles named.spare c.open-open.result c.elsewhere.result c.difference-here.result c.most-each.result
    c.open-open.ensures refl c.difference-here.ensures c.elsewhere.ensures c.most-each.ensures (c.loop-times.invariant.1 w h) in
    omega (arith, few, ltb-true _ _ e)
