use Rattle.std.proofs.Common.{◌≡◌}
use lib.Bits.{bit_or}
use Rattle.terms.specs.Sets.{union}
use Rattle.plan.proofs.asking.union_of.Given as goal

abbrev pub invariant-loop-number : goal.invariant-loop-number
invariant-loop-number l = bit_or l.all (union l.rows l.number-iterator.left) ≡ union l.rows l.chosen
