use Rattle.std.proofs.Common.{[], ◌∷◌, get_or, refl, rules, tests}
use Rattle.text.specs.declared.field.Field.{Field}
use Rattle.text.specs.Taken.{Handed}
use Rattle.tables.proofs.Taking.{handed_two, takes_pair, not_numbers}
use Rattle.tables.proofs.reading.PairReader.next_pair.Goals as goal
use Rattle.tables.proofs.reading.PairReader.next_pair.Goals.{In_ok-next_record}

-- the two fields that were handed out
handed : (c : In_ok-next_record) (d : Field) → Handed c.args.self.now.reader.text.now c.args.self.now.reader.at (get_or c.next_record.new.slots 0 d ∷ get_or c.next_record.new.slots 1 d ∷ []) c.next_record.new.self.at
handed c d = handed_two _ _ _ c.next_record.new.slots d c.next_record.auto.slots c.in_ok-next_record.ensures.fields

pub returns-in_default-clause-pair : goal.returns-in_default-clause-pair
returns-in_default-clause-pair c = record {
  left = search (rules, tests);
  wrong = not_numbers _ _ _ _ _ (handed (goal.at.returns-in_default-clause-pair c).In_ok-next_record _) c.in_default.ensures;
  stays = refl;
}

pub returns-clause-pair : goal.returns-clause-pair
returns-clause-pair c =
    let n = c.in-Some.ensures in
    takes_pair _ _ _ _ _ (handed (goal.at.returns-clause-pair c).In_ok-next_record _) _ _ (search (rules, tests)) n.0 n.1
