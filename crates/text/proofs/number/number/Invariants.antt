use Rattle.std.proofs.Common.{◌≡◌, ◌^◌, ◌<◌, ◌≤◌, length, take}
use Rattle.text.specs.Numbers.{AllDigits, value_after}
use Rattle.text.proofs.number.number.Given as goal

abbrev pub invariant-loop-b : goal.invariant-loop-b
invariant-loop-b l = AllDigits (take l.b-index l.bytes) × (l.n ≡ value_after 0 (take l.b-index l.bytes)) × (l.n < 10 ^ l.b-index) × (length l.bytes ≤ 19)
