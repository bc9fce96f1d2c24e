use Rattle.std.proofs.Common.{◌<◌, length, sym, ap, ◌∙◌, subst, arith}
use Rattle.text.specs.Taken.{Skipped}
use Rattle.text.specs.Faults.{RecordRefused}
use Rattle.text.proofs.Walked.{Walked, walked_none, walked_more, walked_wrong, skipped_later, bytes_left}
use Rattle.text.proofs.walk.count_records.Goals as goal

pub loop-reader-init : goal.loop-reader-init
loop-reader-init c =
    let e = c.new-reader.ensures in
    (ap (λ r. r.now) e.text, subst (λ i. Walked c.args.text.now i 0) (sym e.at) (walked_none c.args.text.now))

pub returns-in-Err-clause-count : goal.returns-in-Err-clause-count
returns-in-Err-clause-count c =
    let i = c.loop-reader.invariant in
    let l = bytes_left c.loop-reader.reader.text.now c.args.text.now c.loop-reader.reader.at i.0 c.loop-reader-test.ensures i.1.within in
    walked_wrong c.args.text.now c.loop-reader.reader.at c.loop-reader.count c.in-Err.fault l i.1 (subst (λ t. RecordRefused t c.loop-reader.reader.at c.in-Err.fault) i.0 c.in-Err.ensures.count.0)

pub loop-reader-smaller : goal.loop-reader-smaller
loop-reader-smaller c =
    let i = c.loop-reader.invariant in
    let h = c.in_default.ensures in
    let l = bytes_left c.loop-reader.reader.text.now c.args.text.now c.loop-reader.reader.at i.0 c.loop-reader-test.ensures i.1.within in
    let w : c.loop-reader.reader.at < length c.loop-reader.reader.text.now = omega (arith, l, ap length i.0) in
    omega (arith, w, skipped_later c.loop-reader.reader.text.now c.loop-reader.reader.at c.in_default.field-0 c.skip_record.new.self.at w h.count, ap (λ r. length r.now) {x = c.skip_record.new.self.text} {y = c.loop-reader.reader.text} h.same)

pub loop-reader-preserved : goal.loop-reader-preserved
loop-reader-preserved c =
    let i = c.loop-reader.invariant in
    let h = c.in_default.ensures in
    let l = bytes_left c.loop-reader.reader.text.now c.args.text.now c.loop-reader.reader.at i.0 c.loop-reader-test.ensures i.1.within in (
      ap (λ r. r.now) {x = c.skip_record.new.self.text} {y = c.loop-reader.reader.text} h.same ∙ i.0,
      walked_more c.args.text.now c.loop-reader.reader.at c.loop-reader.count c.in_default.field-0 c.skip_record.new.self.at l i.1 (subst (λ t. Skipped t c.loop-reader.reader.at c.in_default.field-0 c.skip_record.new.self.at) i.0 h.count),
    )
