use Rattle.std.proofs.Common.{◌≡◌, length, get_or, sym, subst, ap, ◌∙◌, inl, inr, arith}
use Rattle.std.proofs.lemmas.Bool.{cases_lt, cases_eq}
use Rattle.std.proofs.lemmas.List.{get_or_past}
use Rattle.terms.specs.Sets.{bit, In}
use Rattle.terms.specs.declared.sets.Members.{Members}
use Rattle.terms.proofs.Bits.{in_or_l, in_or_r, in_one_only, none_in}
use Rattle.holding.proofs.Bounds.{in_others}
use Rattle.holding.proofs.surveying.elsewhere.Goals as goal

pub loop-a-init : goal.loop-a-init
loop-a-init c a k g =
    let grants = c.args.plan.now.grants in
    let len : length grants ≡ 64 = c.args.plan.now.whole in
    let left = ap (λ (s : Members). s.left) c.into_iter-a-iterator.ensures.into_iter_gives ∙ c.of-a-items.ensures in
    elim (cases_eq (bit c.args.roles a) 1) [
      | inl x ↦ inl x
      | inr n ↦ elim (cases_lt a 64) [
        | inl l ↦ inr (inl (subst (In a) (sym left) (in_others c.args.roles a c.ranges.roles.fits l n)))
        | inr m ↦ none_in k (subst (In k) (get_or_past grants a 0 (omega arith)) g)
      ]
    ]

pub loop-a-preserved : goal.loop-a-preserved
loop-a-preserved c a k g =
    let step = c.in-Some.ensures.steps in
    elim (c.loop-a.invariant a k g) [
      | inl x ↦ inl x
      | inr y ↦ elim y [
        | inl x ↦ elim (step.1.other a x) [
          | inl z ↦ inr (inr (in_or_r c.loop-a.all c.granted-all.result k (subst (In k) (sym c.granted-all.ensures.value) (subst (λ b. In k (get_or c.args.plan.now.grants b 0)) (in_one_only c.in-Some.a a z) g))))
          | inr z ↦ inr (inl z)
        ]
        | inr x ↦ inr (inr (in_or_l c.loop-a.all c.granted-all.result k x))
      ]
    ]

pub returns : goal.returns
returns c a k g = elim (c.loop-a.invariant a k g) [
  | inl x ↦ inl x
  | inr y ↦ elim y [ inl x ↦ none_in a (subst (In a) c.in-None.ensures.steps.0 x) | inr x ↦ inr x ]
]
