use Rattle.std.proofs.Common.{arith}
use Rattle.bit_rows.proofs.Words.{rows_are}
use Rattle.bit_rows.proofs.counts.Rows.of.Goals as goal

pub returns : goal.returns
returns c = rows_are c.args.table.now _ (omega (arith, c.min.ensures))
