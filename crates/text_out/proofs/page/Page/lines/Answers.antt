use Rattle.text_out.specs.Written.{line}
use Rattle.text_out.proofs.Pages.{room_item, append_item, append_all}
use Rattle.text_out.proofs.page.Page.lines.Goals as goal

pub line-requires : goal.line-requires
line-requires g c = room_item line c.args.records.now c.loop-record.record-index _ c.loop-record-test.true c.record-item.is c.requires c.loop-record.invariant

pub loop-record-preserved : goal.loop-record-preserved
loop-record-preserved g c = append_item line c.args.records.now c.loop-record.record-index _ c.loop-record-test.true c.record-item.is c.loop-record.invariant c.line.ensures

pub returns : goal.returns
returns g c = append_all line c.args.records.now c.loop-record.record-index c.loop-record-test.false c.loop-record.invariant
