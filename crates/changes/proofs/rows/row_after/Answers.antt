use Rattle.std.proofs.Common.{◌≡◌, fold, sym, ap, ◌∙◌, subst, ◌↔◌, ◌⊎◌, rules}
use Rattle.terms.specs.Sets.{In}
use Rattle.changes.specs.Ends.{changed_row, row_after}
use Rattle.changes.specs.Latest.{Stands, Unwithdrawn}
use Rattle.changes.proofs.After.{folded, after_in, after_out, row_ended}
use Rattle.changes.proofs.rows.row_after.Goals as goal

pub returns : goal.returns
returns c =
    let cs = c.args.changes.now in
    let u = c.args.user in
    let w = c.args.roles in
    let f : c.fold.result ≡ fold (λ after x. changed_row u x after) w cs = search rules in
    let e : c.fold.result ≡ row_after u cs w = f ∙ folded u cs w in
    record {
      value = e;
      exactly = λ k l. subst (λ x. In k x ↔ (Stands u k cs ⊎ (In k w × Unwithdrawn u k cs))) (sym e) (after_in u k l cs w, after_out u k l cs w);
      ended = λ t l q. row_ended cs u t l ∙ ap (row_after u cs) q ∙ sym e;
    }
