use Rattle.std.proofs.Common.{refl}
use Rattle.script.proofs.Shown.{more_printed, whole}
use Rattle.script.proofs.sets.MembersDisplay.fmt.Goals as goal

pub loop-member-preserved : goal.loop-member-preserved
loop-member-preserved g c =
    let step = c.in-Some.ensures.steps in
    (tt, tt, more_printed g.W.Write.write_str_gives c.write.new.self c.loop-member.f c.write-in-loop-member.new.self c.args.self.now.set c.loop-member.member-iterator.left c.next.new.self.left c.in-Some.member c.loop-member.gap.now step.0 step.1 (λ p. c.in_ok-write-2.ensures.writes p refl) c.loop-member.invariant.2)

pub returns-clause-writes : goal.returns-clause-writes
returns-clause-writes g c plain ok =
    whole g.W.Write.write_str_gives c.args.f.now c.write.new.self c.loop-member.f c.write-2.new.self c.args.self.now.set c.loop-member.member-iterator.left c.loop-member.gap.now c.in-None.ensures.steps.0 (λ p. c.in_ok-write.ensures.writes p refl) c.loop-member.invariant.2 (λ p. c.write-2.ensures.writes p ok) plain
