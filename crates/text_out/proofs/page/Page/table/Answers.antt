use Rattle.std.proofs.Common.{rules}
use Rattle.text_out.proofs.Pages.{room_then, append_then}
use Rattle.text_out.proofs.page.Page.table.Goals as goal

pub lines-requires : goal.lines-requires
lines-requires g c = (search rules, room_then c.requires c.header.ensures)

pub returns : goal.returns
returns g c = append_then c.header.ensures c.lines.ensures
