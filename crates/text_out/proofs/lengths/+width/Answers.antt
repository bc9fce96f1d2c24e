use Rattle.std.proofs.Common.{sym, arith}
use Rattle.text_out.proofs.Stored.{width_one, width_more, width_le}
use Rattle.text_out.proofs.lengths.+width.Goals as goal

pub returns-then-n-lt10 : goal.returns-then-n-lt10
returns-then-n-lt10 t c = let e = width_one c.args.n c.if-n-lt10.true in record { value = sym e; bound = omega arith }

pub returns-else-n-lt10 : goal.returns-else-n-lt10
returns-else-n-lt10 t c =
    let e = width_more c.args.n (omega arith) (omega arith) in
    let w = c.width.ensures.value in
    record { value = omega arith; bound = omega (arith, width_le c.args.n (omega arith)) }
