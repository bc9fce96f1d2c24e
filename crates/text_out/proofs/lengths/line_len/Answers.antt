use Rattle.std.proofs.Common.{sym, subst, rules}
use Rattle.text_out.specs.Written.{further, line}
use Rattle.text_out.specs.Stores.{Measured}
use Rattle.text_out.proofs.AddedUp.{lengthened, line_after}
use Rattle.text_out.proofs.lengths.line_len.Goals as goal

pub returns : goal.returns
returns c =
    let added = lengthened further c.in-Some.rest.now (cc) c.try_fold.ensures.ran (λ a x w q k. search rules) in
    subst (λ l. Measured (line l) c.try_fold.result) (sym c.in-Some.ensures.cases.0) (line_after _ _ _ _ c.width.ensures.value added)
