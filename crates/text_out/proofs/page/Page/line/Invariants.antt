use Rattle.std.proofs.Common.{take}
use Rattle.std.specs.List.{flat_map}
use Rattle.text_out.specs.Pages.{Appended}
use Rattle.text_out.specs.Written.{further}
use Rattle.text_out.proofs.page.Page.line.Given as goal

abbrev pub invariant-loop-n : goal.invariant-loop-n
invariant-loop-n l = Appended l.initial.self (flat_map further (take l.n-index l.rest)) l.self
