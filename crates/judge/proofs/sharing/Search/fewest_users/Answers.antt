use Rattle.std.proofs.Common.{◌∙◌, arith}
use Rattle.std.proofs.lemmas.Nat.{one_shl}
use Rattle.terms.specs.Lists.{listed}
use Rattle.judge.proofs.Shares.{some_user, shared_all, more_users}
use Rattle.judge.proofs.sharing.Search.fewest_users.Goals as goal

pub loop-n-init : goal.loop-n-init
loop-n-init c = record { more = some_user c.args.self.now.survey.now.plan.now c.args.wanted (omega arith); same = c.barren.ensures.same }

pub invariant_of-self : goal.invariant_of-self
invariant_of-self c = record { right = c.look_up_in.ensures _ c.args.self.now.right }

pub returns-in-Some-clause-answer : goal.returns-in-Some-clause-answer
returns-in-Some-clause-answer c =
    let d = rw c.loop-n.invariant.same at c.in-Some.ensures.answer in
    record {
      cover = record {
        satisfy = d.satisfy;
        whole = shared_all _ c.in_ok-low.low _ (one_shl c.in_ok-low.low 64 c.in_ok-low.ensures.low) 0 c.args.wanted _ c.difference-rest.ensures (listed c.in-Some.us) c.loop-n.n d;
      };
      few = omega (arith, d.few);
      least = λ ws k. omega (arith, c.loop-n.invariant.more ws k, d.few);
    }

pub loop-n-preserved : goal.loop-n-preserved
loop-n-preserved c = record {
  more = more_users _ c.in_ok-low.low _ (one_shl c.in_ok-low.low 64 c.in_ok-low.ensures.low) c.loop-n.n c.args.wanted _ c.difference-rest.ensures c.in_ok-low.ensures.member (rw c.loop-n.invariant.same at c.in_default.ensures.answer);
  same = c.share.ensures.same ∙ c.loop-n.invariant.same;
}
