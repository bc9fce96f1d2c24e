use Rattle.std.proofs.Common.{ap, ◌∙◌}
use Rattle.flag_table.specs.Flags.{word}
use Rattle.flag_table.proofs.Words.{user_row}
use Rattle.flag_table.proofs.FlagTableRegister.row.Goals as goal

pub returns : goal.returns
returns c = c.word_of.ensures ∙ ap word c.flags_of.ensures.flags ∙ user_row c.args.self.now.flags.now c.args.user
