use Rattle.std.proofs.Common.{[], ◌∷◌, length, ap}
use Rattle.std.proofs.lemmas.List.{length-replicate}
use Rattle.bit_rows.specs.Table.{rows_of}
use Rattle.bit_rows.proofs.Keeping.{counts_none}
use Rattle.bit_rows.proofs.Words.{model_with, emptied_rows, emptied_spare}
use Rattle.bit_rows.proofs.BitRowsRegister.clear.Goals as goal

pub invariant_of-self : goal.invariant_of-self
invariant_of-self c =
    let ws = c.args.self.now.words.now in
    let k = counts_none (length (rows_of ws)) _ (emptied_rows ws c.fill.new.self c.min-users.result c.min-users.ensures (c.fill.ensures.after (λ y e. e))) in
    record { counted = k.counted; each = k.each; wide = k.wide }

pub returns : goal.returns
returns c =
    let s = c.args.self.now in
    let ws = s.words.now in
    let zeros = c.fill.ensures.after (λ y e. e) in
    let n = c.min-users.result in
    record {
      model = model_with ws _ _ (emptied_rows ws c.fill.new.self n c.min-users.ensures zeros) (length-replicate (length (rows_of ws)) 0);
      kept = ap (λ t. record { spare = t; lenders = s.words.ghost_name ∷ [] }) (emptied_spare ws c.fill.new.self n c.min-users.ensures zeros);
    }
