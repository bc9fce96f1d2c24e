use Rattle.text_out.proofs.Pages.{room_then, append_then}
use Rattle.text_out.proofs.page.Page.header.Goals as goal

pub bytes-requires-2 : goal.bytes-requires-2
bytes-requires-2 c = room_then c.requires c.bytes.ensures

pub returns : goal.returns
returns c = append_then c.bytes.ensures c.bytes-2.ensures
