use Rattle.std.proofs.Common.{◌≡◌, ◌^◌, ◌<◌, rules}
use Rattle.std.proofs.lemmas.Nat.{one_shl}
use Rattle.plan.specs.Authority.{held}
use Rattle.terms.proofs.Made.{made_at}
use Rattle.holding.proofs.surveying.gains.Goals as goal

pub returns : goal.returns
returns c r l = made_at c.from_fn.ensures.items (λ i y. i < 64 → y ≡ held c.args.plan.now (2 ^ i)) (λ i y q k. (λ b. rw (← (one_shl i 64 b)) (search rules), search rules)) r 0 l l
