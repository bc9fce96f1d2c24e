use Rattle.std.proofs.Common.{inl, inr, rules, arith}
use Rattle.terms.proofs.Made.{made_at}
use Rattle.holding.specs.Tables.{Apart}
use Rattle.holding.proofs.surveying.outside.Goals as goal

pub returns : goal.returns
returns c t (low, g, other) =
    let p = c.args.plan.now in
    let made = made_at c.from_fn.ensures.items (λ i y. Apart p i y) (λ i y q k. (search rules, search rules)) t.0 0 (omega (arith, low, p.bounded)) in
    elim (made.covers low t.1 t.2 g) [ inl x ↦ absurd (other x) | inr x ↦ x ]
