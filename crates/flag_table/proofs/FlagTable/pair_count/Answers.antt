use Rattle.std.proofs.Common.{◌≡◌, count_by, rules, ◌∙◌}
use Rattle.flag_table.specs.Flags.{users_in, in_use}
use Rattle.flag_table.proofs.Marks.{flag_pairs}
use Rattle.flag_table.proofs.FlagTable.pair_count.Goals as goal

pub returns : goal.returns
returns c =
    let fs = c.args.self.now.flags.now in
    let e : c.sum.result ≡ count_by (λ b. b) (in_use fs) = search rules in
    e ∙ flag_pairs (users_in fs) fs
