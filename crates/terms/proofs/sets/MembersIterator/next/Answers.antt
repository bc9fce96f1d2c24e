use Rattle.std.proofs.Common.{rules}
use Rattle.terms.proofs.Bits.{in_pos, without_lowest}
use Rattle.terms.proofs.Sizes.{ones_rest}
use Rattle.terms.proofs.sets.MembersIterator.next.Goals as goal

pub overflow_sub-self : goal.overflow_sub-self
overflow_sub-self c = in_pos _ _ c.in_ok-member.ensures.member

pub returns-clause-steps : goal.returns-clause-steps
returns-clause-steps c = (c.in_ok-member.ensures, without_lowest _ _ c.in_ok-member.ensures)

pub returns-clause-goes : goal.returns-clause-goes
returns-clause-goes c =
    let low = c.in_ok-member.ensures in
    let fewer = ones_rest _ _ _ low.member (without_lowest _ _ low) in
    search (rules, fewer)
