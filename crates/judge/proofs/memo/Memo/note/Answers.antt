use Rattle.judge.proofs.Memories.{slots_set}
use Rattle.judge.proofs.memo.Memo.note.Goals as goal

pub returns-then-slot-self : goal.returns-then-slot-self
returns-then-slot-self c p m h =
    let memo = c.args.self.now in
    slots_set p memo.sets.now memo.known.now c.args.slot.at c.args.slot.held c.args.known c.if-slot-self.true memo.level m h
