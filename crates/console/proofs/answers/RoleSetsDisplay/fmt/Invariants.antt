use Rattle.std.proofs.Common.{take}
use Rattle.std.specs.Fmt.{IsPlainFormatter, HasWritten}
use Rattle.console.specs.Answering.{sets_text}
use Rattle.console.proofs.answers.RoleSetsDisplay.fmt.Given as goal

abbrev pub invariant-loop-roles : goal.invariant-loop-roles
invariant-loop-roles g l = IsPlainFormatter l.initial.f → HasWritten g.W.Write.write_str_gives l.initial.f (sets_text (take l.roles-index l.roles-items)) l.f
