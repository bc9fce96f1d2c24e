use Rattle.script.proofs.Shown.{Printed}
use Rattle.script.proofs.sets.MembersDisplay.fmt.Given as goal

abbrev pub invariant-loop-member : goal.invariant-loop-member
invariant-loop-member g l =
    (goal.iterator-loop-member g).can_next l.member-iterator
    × (goal.iterator-loop-member g).is_finite l.member-iterator
    × Printed g.W.Write.write_str_gives l.initial.f l.self.set l.member-iterator.left l.gap l.f
