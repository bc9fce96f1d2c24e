use Rattle.std.proofs.Common.{rules}
use Rattle.std.proofs.lemmas.Nat.{one_shl}
use Rattle.plan.proofs.making.alone.Goals as goal

pub returns-clause-inside : goal.returns-clause-inside
returns-clause-inside c a l = let at = c.from_fn.ensures.items.at a 0 l in search (rules, one_shl a 64 l, at)
