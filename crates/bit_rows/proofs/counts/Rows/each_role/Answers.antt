use Rattle.std.proofs.Common.{◌≡◌, rules}
use Rattle.register.specs.Pairs.{members}
use Rattle.terms.proofs.Made.{made_at}
use Rattle.bit_rows.proofs.counts.Rows.each_role.Goals as goal

pub returns : goal.returns
returns c k l = made_at c.from_fn.ensures.items (λ i y. y ≡ members c.args.self.now.words.now i) (λ i y q h. (search rules, search rules)) k 0 l
