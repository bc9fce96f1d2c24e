use Rattle.std.proofs.Common.{sym, refl, ap}
use Rattle.text_out.specs.Written.{further, line}
use Rattle.text_out.proofs.Pages.{room_is, room_first, room_then, room_item, append_is, append_then, append_item, append_all}
use Rattle.text_out.proofs.page.Page.line.Goals as goal

pub further-requires : goal.further-requires
further-requires c =
    let all = room_is (ap line c.in-Some.ensures.cases.0) c.requires in
    room_item further c.in-Some.rest.now c.loop-n.n-index 0 c.loop-n-test.true refl (room_first _ (room_then all c.number.ensures)) c.loop-n.invariant

pub loop-n-preserved : goal.loop-n-preserved
loop-n-preserved c = append_item further c.in-Some.rest.now c.loop-n.n-index 0 c.loop-n-test.true refl c.loop-n.invariant c.further.ensures

pub bytes-requires-2 : goal.bytes-requires-2
bytes-requires-2 c =
    let all = room_is (ap line c.in-Some.ensures.cases.0) c.requires in
    room_then (room_then all c.number.ensures) (append_all further c.in-Some.rest.now c.loop-n.n-index c.loop-n-test.false c.loop-n.invariant)

pub returns : goal.returns
returns c =
    let rest = append_all further c.in-Some.rest.now c.loop-n.n-index c.loop-n-test.false c.loop-n.invariant in
    append_is (ap line (sym c.in-Some.ensures.cases.0)) (append_then c.number.ensures (append_then rest c.bytes-2.ensures))
