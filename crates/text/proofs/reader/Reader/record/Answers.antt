use Rattle.std.proofs.Common.{◌≡◌, ap, subst, ◌∙◌, rules}
use Rattle.std.proofs.lemmas.Result.{err_from_is_err_and}
use Rattle.text.specs.Faults.{FieldRefused}
use Rattle.text.specs.Taken.{Took}
use Rattle.text.specs.Scans.{past}
use Rattle.text.specs.declared.field.Mark.TheVariants.{Comma}
use Rattle.text.proofs.Records.{before_more, before_done, before_broken}
use Rattle.text.proofs.reader.Reader.record.Goals as goal

pub returns-in_err-field : goal.returns-in_err-field
returns-in_err-field c =
    let p = err_from_is_err_and c.from_residual.result c.from_residual.ensures.1 in
    let i = c.loop-field.invariant in
    let h = subst (λ t. FieldRefused t.now c.loop-field.reader.at c.in_err-field.field-0.0) i.0 c.in_err-field.ensures.field.0 in
    rw (p.1, p.2) (before_broken _ _ _ _ _ _ _ i.1 h.cause)

pub returns-then-ne : goal.returns-then-ne
returns-then-ne c =
    let i = c.loop-field.invariant in
    let h = subst (λ t. Took t.now c.loop-field.reader.at c.in_ok-field.field c.next_field.new.self.at) i.0 c.in_ok-field.ensures.field in
    let n : c.in_ok-field.field.mark ≡ Comma → ⊥ = λ e. search rules in
    let s = c.span-span.ensures in
    before_done _ _ _ _ _ _ _ _ _ _ i.1 h n (c.past_quote.ensures ∙ ap (λ q. past q c.span-span.result.end) s.0 ∙ ap (past c.in_ok-field.field.quoted) s.2) c.keep.ensures

pub loop-field-preserved : goal.loop-field-preserved
loop-field-preserved c =
    let i = c.loop-field.invariant in
    let h = subst (λ t. Took t.now c.loop-field.reader.at c.in_ok-field.field c.next_field.new.self.at) i.0 c.in_ok-field.ensures.field in
    let e : c.in_ok-field.field.mark ≡ Comma = search rules in
    (c.in_ok-field.ensures.same ∙ i.0, before_more _ _ _ _ _ _ _ _ _ i.1 h e c.keep.ensures)
