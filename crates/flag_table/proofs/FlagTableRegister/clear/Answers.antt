use Rattle.std.proofs.Common.{[], ◌∷◌, ◌++◌, ◌*◌, false, replicate, drop, ap, ◌∙◌}
use Rattle.flag_table.specs.Flags.{model_of, spare_of}
use Rattle.flag_table.proofs.Marks.{model_unset, spare_unset}
use Rattle.flag_table.proofs.FlagTableRegister.clear.Goals as goal

pub returns : goal.returns
returns c =
    let s = c.args.self.now in
    let fs = s.flags.now in
    let e = c.unset.ensures ∙ ap (λ n. replicate (64 * n) false ++ drop (64 * n) fs) c.user_count.ensures in
    record {
      model = ap (λ t. model_of t s.seats) e ∙ model_unset fs s.seats;
      kept = ap (λ t. record { spare = spare_of t; lenders = s.flags.ghost_name ∷ [] }) e ∙ ap (λ t. record { spare = t; lenders = s.flags.ghost_name ∷ [] }) (spare_unset fs s.seats);
    }
