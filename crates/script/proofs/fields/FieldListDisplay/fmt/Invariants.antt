use Rattle.std.proofs.Common.{◌≡◌, true, take}
use Rattle.std.specs.Fmt.{IsPlainFormatter, HasWritten}
use Rattle.script.specs.Entries.{opening, entries}
use Rattle.script.proofs.Entered.{opens}
use Rattle.script.proofs.fields.FieldListDisplay.fmt.Given as goal

abbrev pub invariant-loop-place : goal.invariant-loop-place
invariant-loop-place g l =
    (IsPlainFormatter l.initial.f → HasWritten g.W.Write.write_str_gives l.initial.f (entries true (take l.place-index l.place-items)) l.f)
    × (l.opening ≡ opening (opens true (take l.place-index l.place-items)))
