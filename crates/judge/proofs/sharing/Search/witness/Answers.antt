use Rattle.std.proofs.Common.{◌≡◌, ap, ◌∙◌, below_more, length, arith}
use Rattle.holding.specs.declared.Survey.{Survey}
use Rattle.terms.specs.Lists.{listed}
use Rattle.plan.specs.Authority.{policies_of}
use Rattle.plan.specs.Limits.{policy_in}
use Rattle.plan.specs.Enforcing.{Enforces}
use Rattle.judge.proofs.Judgements.{enforces, policy_most, witnessed}
use Rattle.judge.proofs.sharing.Search.witness.Goals as goal

pub returns-in-Some : goal.returns-in-Some
returns-in-Some c =
    let p = c.args.self.now.survey.now.plan.now in
    let i = c.loop-i.i in
    let items = c.policies-policy-items.result.now in
    let same : items ≡ policies_of p = c.policies-policy-items.ensures ∙ ap policies_of (c.plan-plan.ensures ∙ ap (λ (s : Survey). s.plan.now) c.survey.ensures) in
    witnessed p i _ (ap (λ xs. policy_in xs i) same) (listed c.in-Some.found) c.roles_of-roles.result c.len.result c.len.ensures c.roles_of-roles.ensures.users c.roles_of-roles.ensures.rest (omega (arith, c.loop-i-test.true, ap length same)) c.loop-i.invariant.lower (rw c.loop-i.invariant.same at c.in-Some.ensures.answer)

pub loop-i-preserved : goal.loop-i-preserved
loop-i-preserved c =
    let p = c.args.self.now.survey.now.plan.now in
    let i = c.loop-i.i in
    let items = c.policies-policy-items.result.now in
    let same : items ≡ policies_of p = c.policies-policy-items.ensures ∙ ap policies_of (c.plan-plan.ensures ∙ ap (λ (s : Survey). s.plan.now) c.survey.ensures) in
    record {
      lower = below_more (Enforces p) i c.loop-i.invariant.lower
          (enforces p i (policy_most p i _ (ap (λ xs. policy_in xs i) same) (rw c.loop-i.invariant.same at c.in_default.ensures.answer)));
      same = c.fewest_users.ensures.same ∙ c.loop-i.invariant.same;
    }
