use Rattle.std.proofs.Common.{arith, rules}
use Rattle.text.proofs.Contents.{plain_more}
use Rattle.text.proofs.reader.Reader.plain_end.Goals as goal

pub loop-i-preserved : goal.loop-i-preserved
loop-i-preserved c = let r = c.args.self.now in (omega arith, omega arith, plain_more r.text.now r.at c.loop-i.i (omega arith) c.loop-i.invariant.2 (search rules))
