use Rattle.std.proofs.Common.{rules}
use Rattle.text_out.proofs.Back.{round_trip, back_put}
use Rattle.text_out.proofs.write_table.Goals as goal

pub returns-in_err-check_room-clause-trip : goal.returns-in_err-check_room-clause-trip
returns-in_err-check_room-clause-trip g c = round_trip

pub returns-clause-back : goal.returns-clause-back
returns-clause-back g c = back_put c.args.header.now c.args.buffer.now _ c.args.records.now c.table.new.self.at (search rules)

pub returns-clause-trip : goal.returns-clause-trip
returns-clause-trip g c = round_trip
