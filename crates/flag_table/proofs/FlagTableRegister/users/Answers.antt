use Rattle.std.proofs.Common.{sym, ◌∙◌}
use Rattle.flag_table.specs.Flags.{users_in}
use Rattle.flag_table.specs.Sound.{length_from}
use Rattle.flag_table.proofs.FlagTableRegister.users.Goals as goal

pub returns : goal.returns
returns c = let fs = c.args.self.now.flags.now in c.user_count.ensures ∙ sym (length_from (users_in fs) fs)
