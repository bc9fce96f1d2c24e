use Rattle.std.proofs.Common.{◌≡◌, rules, ◌∙◌, count_by, nat_lt, ◌&&◌, ◌==◌}
use Rattle.terms.specs.Sets.{bit}
use Rattle.bit_rows.proofs.Counting.{counted_members}
use Rattle.bit_rows.proofs.counts.Rows.members.Goals as goal

pub returns : goal.returns
returns c =
    let e : c.sum.result ≡ count_by (λ w. nat_lt c.args.role 64 && (bit w c.args.role == 1)) c.args.self.now.words.now = search rules in
    e ∙ counted_members c.args.self.now.words.now c.args.role
