use Rattle.std.proofs.Common.{sym, ◌∙◌, subst}
use Rattle.judge.specs.Memory.{SingleRight}
use Rattle.judge.proofs.Memories.{none_found, single_found, single_never}
use Rattle.judge.proofs.sharing.Search.holdable.Goals as goal
use Rattle.judge.proofs.sharing.Search.holdable.Goals.{then-found, else-found}

pub returns-in-Never-clause-no : goal.returns-in-Never-clause-no
returns-in-Never-clause-no c _ = rw c.slot-slot.ensures at ((c.known-known.ensures _ c.args.self.now.right).0.0 c.in-Never.is)

pub returns-in-Held-clause-yes : goal.returns-in-Held-clause-yes
returns-in-Held-clause-yes c _ = rw c.slot-slot.ensures at ((c.known-known.ensures _ c.args.self.now.right).0.1 c.in-Held.is)

pub invariant_of-self : goal.invariant_of-self
invariant_of-self c =
    let p = c.args.self.now.survey.now.plan.now in
    record {
      right = c.note.ensures p c.args.self.now.right (rw c.slot-slot.ensures (
        elim c.if-found.branch [
          | then-found w ↦ subst (SingleRight p c.args.held) (sym w.single-is) (single_found p c.args.held c.roles_for.result (sym c.is_some-found.ensures ∙ w.if-found.true) c.roles_for.ensures)
          | else-found w ↦ subst (SingleRight p c.args.held) (sym w.single-is) (single_never p c.args.held (none_found p c.args.held c.roles_for.result (sym c.is_some-found.ensures ∙ w.if-found.false) c.roles_for.ensures))
        ],
        rw c.slot-slot.ensures at (c.known-known.ensures p c.args.self.now.right).1,
      ));
    }

pub returns-clause-no : goal.returns-clause-no
returns-clause-no c e = none_found c.args.self.now.survey.now.plan.now c.args.held c.roles_for.result (sym c.is_some-found.ensures ∙ e) c.roles_for.ensures
