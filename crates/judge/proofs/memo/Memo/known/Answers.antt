use Rattle.std.proofs.Common.{refl, subst, get_or}
use Rattle.judge.specs.Memory.{KnownRight, nothing}
use Rattle.judge.proofs.Memories.{known_none}
use Rattle.judge.proofs.memo.Memo.known.Goals as goal

pub returns-then-has : goal.returns-then-has
returns-then-has c p m =
    let here = c.if-has.ensures refl in
    subst (λ s. KnownRight p s (get_or c.args.self.now.known.now c.args.slot.at nothing)) here.1 (m c.args.slot.at here.0)

pub returns-else-has : goal.returns-else-has
returns-else-has c p m = known_none p c.args.slot.held
