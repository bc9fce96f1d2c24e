use Rattle.std.proofs.Common.{vec_items}
use Rattle.console.proofs.Noting.{noted}
use Rattle.console.proofs.state.State.add.Goals as goal

pub invariant_of-self-2 : goal.invariant_of-self-2
invariant_of-self-2 c =
    let before = c.args.self.now in record { written = noted (vec_items before.log) (vec_items c.push.new.self) (record { addition = c.args.addition; answer = c.add-answer.result }) before.plan c.add-answer.new.self c.in_ok-push.ensures.items c.add-answer.ensures.means before.written }
