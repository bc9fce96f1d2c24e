use Rattle.std.proofs.Common.{take}
use Rattle.std.specs.List.{flat_map}
use Rattle.text_out.specs.Pages.{Appended}
use Rattle.text_out.specs.Written.{line}
use Rattle.text_out.proofs.page.Page.lines.Given as goal

abbrev pub invariant-loop-record : goal.invariant-loop-record
invariant-loop-record g l = Appended l.initial.self (flat_map line (take l.record-index l.records)) l.self
