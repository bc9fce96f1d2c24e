use Rattle.std.proofs.Common.{refl}
use Rattle.std.proofs.lemmas.Result.{err_from_is_err_and}
use Rattle.text.proofs.Once.{refused_broken, refused_count, handed_out}
use Rattle.text.proofs.reader.Reader.next_record.Goals as goal

pub returns-in_err-extent-clause-fields : goal.returns-in_err-extent-clause-fields
returns-in_err-extent-clause-fields c =
    let p = err_from_is_err_and c.from_residual.result c.from_residual.ensures.1 in
    rw (p.1, p.2) (refused_broken _ _ _ _ _ c.in_err-extent.ensures, refl)

pub returns-then-extent-slots-clause-fields : goal.returns-then-extent-slots-clause-fields
returns-then-extent-slots-clause-fields c = (refused_count _ _ _ _ _ c.in_ok-extent.ensures c.if-extent-slots.true, refl)

pub returns-clause-fields : goal.returns-clause-fields
returns-clause-fields c = handed_out _ _ _ _ _ c.in_ok-extent.ensures c.if-extent-slots.false
