use Rattle.std.proofs.Common.{◌<◌, get_or, sym, refl, subst, arith, below_more}
use Rattle.std.proofs.lemmas.Bool.{both_ways, false≢true}
use Rattle.std.proofs.lemmas.Nat.{one_shl}
use Rattle.terms.specs.Sets.{In}
use Rattle.holding.proofs.Holders.{holder_kept, holder_done, holder_take, holder_drop, holder_none, own_grant}
use Rattle.holding.proofs.Sought.+holder.Goals as goal
use Rattle.holding.proofs.Sought.+holder.Goals.{then-beyond-via-then-beyond, then-beyond-via-else-beyond+then-together, then-contains+in_default-holder, else-contains}

pub returns-then-not-satisfies : goal.returns-then-not-satisfies
returns-then-not-satisfies t c w h = false≢true (c.if-not-satisfies.ensures.1 (holder_kept _ _ _ w h))

pub returns-in_default : goal.returns-in_default
returns-in_default t c = holder_done _ _ _ (c.urgent.ensures.some c.in_default.ensures) (c.if-not-satisfies.ensures.0 refl)

pub returns-then-beyond : goal.returns-then-beyond
returns-then-beyond t c = elim c.then-beyond.branch [
  | then-beyond-via-then-beyond v ↦ c.beyond.ensures v.if-beyond.true
  | then-beyond-via-else-beyond+then-together v ↦ v.together.ensures v.if-together.true
]

pub holder-requires : goal.holder-requires
holder-requires t c =
    let s = c.args.self.now.survey.now in
    let r = c.loop-r.r in
    let low : r < 64 = omega arith in
    let own : In c.in-Some.k (get_or s.gains r 0) =
    subst (In c.in-Some.k) (sym (s.gained r low)) (own_grant s.plan.now r c.in-Some.k low (subst (In c.in-Some.k) c.granted.ensures.value (c.contains.ensures.yes c.if-contains.true))) in
    (omega (arith, c.decreases, c.of-next.ensures.wanted, c.difference-rest.ensures.less c.in-Some.k (c.urgent.ensures.part c.in-Some.k c.in-Some.ensures.member) own), tt)

pub returns-in-Some-holder : goal.returns-in-Some-holder
returns-in-Some-holder t c =
    let w = c.in-Some-holder.w in
    let low : c.loop-r.r < 64 = omega arith in
    holder_take _ _ _ c.loop-r.r _ _ w (c.args.self.now.survey.now.gained c.loop-r.r low) c.difference-rest.ensures
    (rw (one_shl c.loop-r.r 64 low) at ((c.of-next.ensures.asks w).0 c.in-Some-holder.ensures))

pub loop-r-preserved : goal.loop-r-preserved
loop-r-preserved t c = below_more _ _ c.loop-r.invariant (elim c.if-contains.branch [
  | then-contains+in_default-holder v ↦ λ g w h i. v.in_default-holder.ensures w ((v.of-next.ensures.asks w).1 (rw (one_shl c.loop-r.r 64 (omega arith)) (holder_drop _ _ _ c.loop-r.r _ _ w v.difference-rest.ensures i h)))
  | else-contains v ↦ λ g w h i. both_ways _ v.if-contains.false (c.contains.ensures.no (subst (In c.in-Some.k) (sym c.granted.ensures.value) g))
])

pub returns : goal.returns
returns t c = holder_none _ _ _ c.in-Some.k c.args.self.now.survey.now.plan.now.whole (c.urgent.ensures.part c.in-Some.k c.in-Some.ensures.member) (λ a l. c.loop-r.invariant a (omega arith))
