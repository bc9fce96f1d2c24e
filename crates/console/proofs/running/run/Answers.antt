use Rattle.std.proofs.Common.{subst, rules}
use Rattle.std.specs.Iterator.Adapters.{enumerate_count}
use Rattle.console.specs.Printed.{Ran}
use Rattle.console.proofs.Following.{ran_none, ran_more}
use Rattle.console.proofs.running.run.Goals as goal

pub loop-i-init : goal.loop-i-init
loop-i-init c = (search rules, search rules, search rules, search rules, ran_none _ _ _ _ (search rules) (search rules))

pub loop-i-preserved : goal.loop-i-preserved
loop-i-preserved c =
    let s = c.in-Some.ensures.steps in
    (search rules, search rules, search rules, search rules, ran_more _ _ _ _ _ _ _ _ _ _ c.loop-i.invariant.4 s.0.0 s.1 s.2 c.in_ok-perform_line.ensures.line)

pub returns : goal.returns
returns c = record {
  first = c.new-session.result;
  fresh = c.new-session.ensures;
  lines = enumerate_count c.loop-i.i-iterator;
  last = c.loop-i.session;
  ran = subst (λ left. Ran c.args.script.now c.new-session.result left (enumerate_count c.loop-i.i-iterator) c.loop-i.session) c.in-None.ensures.steps.0.0 c.loop-i.invariant.4;
  all = search rules;
}
