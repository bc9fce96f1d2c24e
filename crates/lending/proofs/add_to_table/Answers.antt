use Rattle.std.proofs.Common.{drop, ap, ◌∙◌, rules}
use Rattle.register.specs.Changes.{add_rows, added}
use Rattle.register.specs.Model.{Model, Kept}
use Rattle.bit_rows.specs.Table.{model_of}
use Rattle.lending.proofs.Tables.{table_is}
use Rattle.lending.proofs.add_to_table.Goals as goal

pub returns : goal.returns
returns c =
    let e = c.add.ensures in
    let same = c.new.ensures.words in
    let name = ap (λ (k : Kept). k.lenders) e.kept in
    record {
      answer = e.answer ∙ ap (λ t. add_rows (model_of t) c.args.user c.args.role) same;
      table = table_is c.args.table.now c.add.new.self.words.now _ (added (model_of c.args.table.now) c.args.user c.args.role) (search rules)
          (ap (λ (m : Model). m.rows) (e.model ∙ ap (λ t. added (model_of t) c.args.user c.args.role) same))
          (ap (λ (k : Kept). k.spare) e.kept ∙ ap (drop 4096) same);
    }
