use Rattle.std.proofs.Common.{◌≡◌, ◌+◌, ◌-◌, ◌*◌, ◌<◌, ◌≤◌, length, get_or, sym, ap, subst, arith}
use lib.Bits.{bit_and}
use lib.Count.{ones, ones-le}
use Rattle.plan.specs.Authority.{authorised, constraint_count}
use Rattle.plan.specs.Limits.{constraint_in}
use Rattle.plan.specs.declared.Constraint.{Constraint}
use Rattle.holding.specs.Search.{NamedRight}
use Rattle.holding.specs.declared.Named.{Named}
use Rattle.holding.proofs.Bounds.{named_more}
use Rattle.holding.proofs.Sought.name_more.Goals as goal
use Rattle.holding.proofs.Sought.name_more.Goals.{then-fresh-max, else-fresh-max}

pub loop-c-preserved : goal.loop-c-preserved
loop-c-preserved c =
    let u = c.args.self.now in
    let p = u.survey.now.plan.now in
    let i = c.loop-c.c-index in
    let items = c.constraints-c-items.result.now in
    let d : Constraint = get_or items i (record { roles = 0; limit = 0 }) in
    let old = c.loop-c.named in
    let slack = c.slack-slack.result in
    let low : i < constraint_count p = omega (arith, c.loop-c-test.true, ap length c.constraints-c-items.ensures) in
    let e : slack ≡ d.limit - 1 - ones (bit_and (authorised p u.word) d.roles) =
    omega (arith, c.slack-slack.ensures, ap (λ x. ones (bit_and x d.roles)) u.whole) in
    elim c.if-fresh-max.branch [
      | then-fresh-max w ↦ subst (λ (n : Named). (n.spare ≤ c.args.before.spare + 64 * (i + 1)) × NamedRight u n) (sym w.named-is) (
        omega (arith, c.loop-c.invariant.0, w.if-fresh-max.true, ones-le 64 c.difference-fresh.result c.difference-fresh.type_inv),
        named_more p u.word u.wanted i d low (ap (λ xs. constraint_in xs i) c.constraints-c-items.ensures) old.roles old.spare slack e c.loop-c.invariant.1,
      )
      | else-fresh-max w ↦ subst (λ (n : Named). (n.spare ≤ c.args.before.spare + 64 * (i + 1)) × NamedRight u n) (sym w.named-is) (omega (arith, c.loop-c.invariant.0), c.loop-c.invariant.1)
    ]

pub returns : goal.returns
returns c = record {
  right = c.loop-c.invariant.1;
  small = omega (arith, c.loop-c.invariant.0, c.loop-c.auto.c-index-end, ap length c.constraints-c-items.ensures, c.args.self.now.survey.now.plan.now.bounded);
}
