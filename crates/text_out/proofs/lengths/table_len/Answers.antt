use Rattle.std.proofs.Common.{rules}
use Rattle.text_out.specs.Written.{line, header_line}
use Rattle.text_out.proofs.AddedUp.{lengthened, measured_after}
use Rattle.text_out.proofs.lengths.table_len.Goals as goal

pub returns : goal.returns
returns g c =
    let added = lengthened line c.args.records.now (cc) c.try_fold.ensures.ran (λ a x w q k. search rules) in
    measured_after (header_line c.args.header.now) _ _ _ c.in_ok-header_len.ensures added
