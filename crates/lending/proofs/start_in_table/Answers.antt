use Rattle.std.proofs.Common.{drop, ap, ◌∙◌, rules}
use Rattle.register.specs.Changes.{add_rows, added}
use Rattle.register.specs.Model.{Kept}
use Rattle.bit_rows.specs.Table.{model_of}
use Rattle.lending.specs.Whole.{twice_seated}
use Rattle.lending.proofs.Tables.{table_is}
use Rattle.lending.proofs.start_in_table.Goals as goal

pub returns : goal.returns
returns c =
    let e = c.start_twice_seated.ensures in
    let same = c.new.ensures.words in
    let names = ap (λ (k : Kept). k.lenders) e.kept in
    record {
      answer = e.answer ∙ ap (λ t. add_rows (twice_seated c.args.inner c.args.outer (model_of t)) c.args.user c.args.role) same;
      table = table_is c.args.table.now c.start_twice_seated.new.register.words.now _
          (added (twice_seated c.args.inner c.args.outer (model_of c.args.table.now)) c.args.user c.args.role) (search rules)
          (e.rows ∙ ap (λ t. (added (twice_seated c.args.inner c.args.outer (model_of t)) c.args.user c.args.role).rows) same)
          (ap (λ (k : Kept). k.spare) e.kept ∙ ap (drop 4096) same);
    }
