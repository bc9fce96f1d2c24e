use Rattle.std.proofs.Common.{◌≡◌, ℕ, ◌<◌, length, get_or, ◌∙◌, inl, inr, rules, arith, length-take}
use Rattle.std.proofs.lemmas.Bool.{cases_lt}
use Rattle.std.proofs.lemmas.Grind.{same_number_lists}
use Rattle.std.proofs.lemmas.List.{get_or-take, get_or_past}
use Rattle.terms.specs.Lists.{listed}
use Rattle.terms.proofs.Lists.{listed_within}
use Rattle.terms.proofs.Made.{made_at}
use Rattle.judge.proofs.judging.roles_of.Goals as goal

each : (c : goal.After-from_fn) (k : ℕ) → k < 7 → get_or c.from_fn.result k 0 ≡ get_or (listed c.args.users.now) k 0
each c k l = made_at c.from_fn.ensures.items (λ i y. y ≡ get_or (listed c.args.users.now) i 0) (λ i y q k. (search rules, search rules)) k 0 l

pub returns-clause-users : goal.returns-clause-users
returns-clause-users c =
    let us = listed c.args.users.now in
    let all = c.from_fn.result in
    let few = listed_within c.args.users.now in
    same_number_lists _ us (omega (arith, length-take (length us) all, c.from_fn.ensures.items.long, few))
    (λ k l. let low : k < length us = omega (arith, l, length-take (length us) all) in get_or-take (length us) all k 0 low ∙ each c k (omega (arith, low, few)))

pub returns-clause-rest : goal.returns-clause-rest
returns-clause-rest c k m = elim (cases_lt k 7) [
  | inl l ↦ each c k l ∙ get_or_past (listed c.args.users.now) k 0 m
  | inr g ↦ get_or_past c.from_fn.result k 0 (omega (arith, g, c.from_fn.ensures.items.long))
]
