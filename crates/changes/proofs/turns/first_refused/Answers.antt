use Rattle.std.proofs.Common.{◌≡◌, None, sym, ◌∙◌, below_more}
use Rattle.changes.specs.Turns.{in_turn}
use Rattle.changes.proofs.Taking.{turn_checked}
use Rattle.changes.proofs.turns.first_refused.Goals as goal

pub loop-i-preserved : goal.loop-i-preserved
loop-i-preserved g c =
    let t = (g.R.Register.model c.args.register.now).rows in
    let cs = c.args.changes.now in
    below_more (λ j. in_turn t cs j ≡ None) c.loop-i.i c.loop-i.invariant
    (sym (turn_checked t cs c.loop-i.i _ _ _ _ c.users-users.ensures c.user-user.ensures c.row.ensures c.row_after-roles.ensures.ended) ∙ sym c.in_default.ensures)

pub returns-in-Err : goal.returns-in-Err
returns-in-Err g c =
    let t = (g.R.Register.model c.args.register.now).rows in
    let cs = c.args.changes.now in
    record {
      numbered = c.loop-i-test.true;
      before = c.loop-i.invariant;
      refused = sym (turn_checked t cs c.loop-i.i _ _ _ _ c.users-users.ensures c.user-user.ensures c.row.ensures c.row_after-roles.ensures.ended) ∙ sym c.in-Err.ensures;
    }
