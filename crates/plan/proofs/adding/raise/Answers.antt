use Rattle.std.proofs.Common.{◌≡◌, get_or, sym, ap, ◌∙◌, inl, inr, arith}
use Rattle.std.proofs.lemmas.Bool.{cases_lt}
use Rattle.std.proofs.lemmas.List.{get_or_past}
use Rattle.plan.specs.Order.{raised}
use Rattle.plan.proofs.Seniority.{raised_zero}
use Rattle.plan.proofs.adding.raise.Goals as goal

pub returns : goal.returns
returns c a =
    elim (cases_lt a 64) [
      | inl h ↦ c.loop-row.invariant.0 a (omega arith)
      | inr h ↦
          let past : get_or c.args.rows.now a 0 ≡ 0 = get_or_past c.args.rows.now a 0 (omega arith) in
          c.loop-row.invariant.1 a (omega arith) ∙ past ∙ sym (raised_zero c.args.senior c.args.gained) ∙ ap (raised c.args.senior c.args.gained) (sym past)
    ]
