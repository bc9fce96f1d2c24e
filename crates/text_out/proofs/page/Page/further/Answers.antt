use Rattle.text_out.proofs.Pages.{room_then, append_then}
use Rattle.text_out.proofs.page.Page.further.Goals as goal

pub number-requires : goal.number-requires
number-requires c = room_then c.requires c.bytes.ensures

pub returns : goal.returns
returns c = append_then c.bytes.ensures c.number.ensures
