use Rattle.std.proofs.Common.{rules, refl, inl, inr, ⊎_elim}
use Rattle.std.proofs.lemmas.Result.{err_from_is_err_and}
use Rattle.text.specs.Faults.Wrong.{bare}
use Rattle.text.proofs.Spans.{span_upto, fault_quoted, fault_plain, field_refused}
use Rattle.text.proofs.reader.Reader.next_field.Goals as goal

pub returns-in_err-span-clause-field : goal.returns-in_err-span-clause-field
returns-in_err-span-clause-field c =
    let p = err_from_is_err_and c.from_residual.result c.from_residual.ensures.1 in
    rw (p.1, p.2) (field_refused _ _ _ c.in_err-span.ensures, refl)

pub returns-in-13-clause-field : goal.returns-in-13-clause-field
returns-in-13-clause-field c =
    let n = c.in_default.ensures in
    (field_refused _ _ _ (bare (span_upto _ _ _ _ c.in_ok-span.ensures c.past_quote-after.ensures) (n.0, ⊎_elim inr inl c.in-13.is, n.2)), refl)

pub returns-in_default-text-clause-field : goal.returns-in_default-text-clause-field
returns-in_default-text-clause-field c =
    let n = c.in_default.ensures in
    (field_refused _ _ _ (fault_quoted _ _ _ _ _ (span_upto _ _ _ _ c.in_ok-span.ensures c.past_quote-after.ensures) c.if-quoted.true n.0 n.1 (λ e. search rules) (λ e. search rules)), refl)

pub returns-in_default-2-clause-field : goal.returns-in_default-2-clause-field
returns-in_default-2-clause-field c =
    let n = c.in_default.ensures in
    (field_refused _ _ _ (fault_plain _ _ _ _ _ (span_upto _ _ _ _ c.in_ok-span.ensures c.past_quote-after.ensures) c.if-quoted.false n.0 n.1 (λ e. search rules) (λ e. search rules)), refl)
