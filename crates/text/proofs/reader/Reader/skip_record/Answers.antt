use Rattle.std.proofs.Common.{refl}
use Rattle.std.proofs.lemmas.Result.{err_from_is_err_and}
use Rattle.text.proofs.Once.{record_refused, skipped}
use Rattle.text.proofs.reader.Reader.skip_record.Goals as goal

pub returns-in_err-extent-clause-count : goal.returns-in_err-extent-clause-count
returns-in_err-extent-clause-count c =
    let p = err_from_is_err_and c.from_residual.result c.from_residual.ensures.1 in
    rw (p.1, p.2) (record_refused _ _ _ _ _ c.in_err-extent.ensures, refl)

pub returns-clause-count : goal.returns-clause-count
returns-clause-count c = skipped _ _ _ _ _ c.in_ok-extent.ensures
