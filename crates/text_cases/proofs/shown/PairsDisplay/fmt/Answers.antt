use Rattle.std.proofs.Common.{length, refl, ap, arith}
use Rattle.text.proofs.Records.{record_later}
use Rattle.text.proofs.Walked.{bytes_left}
use Rattle.text_cases.proofs.shown.PairsDisplay.fmt.Goals as goal

pub loop-reader-smaller : goal.loop-reader-smaller
loop-reader-smaller g c =
    let r = c.loop-reader.reader in
    let h = c.in_default.ensures in
    let l = bytes_left r.text.now r.text.now r.at refl c.loop-reader-test.ensures r.within in
    let later = record_later r.text.now r.at h.fields.end c.next_record.new.self.at _ l h.fields.took in
    omega (arith, l, later, ap (λ t. length t.now) h.same)
