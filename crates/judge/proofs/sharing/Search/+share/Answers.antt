use Rattle.std.proofs.Common.{◌≡◌, ◌+◌, ◌-◌, ◌*◌, ◌^◌, ◌<◌, ap, ◌∙◌, le_refl, arith}
use Rattle.std.proofs.lemmas.Nat.{one_shl}
use Rattle.terms.specs.Lists.{listed}
use Rattle.terms.proofs.Bits.{in_pos}
use Rattle.judge.specs.declared.sharing.Search.{Search}
use Rattle.judge.proofs.Shares.{share_holder, share_coverable, joined_alone, joined_with, one_in, cover_share, shared_all, shared_keep, share_last, share_alone}
use Rattle.judge.proofs.sharing.Search.+share.Goals as goal
use Rattle.judge.proofs.sharing.Search.+share.Goals.{then-holdable+in_default-share-2, else-holdable}

pub returns-then-not-holdable-clause-answer : goal.returns-then-not-holdable-clause-answer
returns-then-not-holdable-clause-answer t c d = c.holdable.ensures.no c.if-not-holdable.true d.user (share_holder _ _ _ _ _ d)

pub returns-in_default-lowest-clause-answer : goal.returns-in_default-lowest-clause-answer
returns-in_default-lowest-clause-answer t c =
    joined_alone c.args.self.now.survey.now.plan.now c.args.n c.args.open c.args.mine c.args.left (listed c.new.result) c.joined.result c.in_default.ensures c.in_default-lowest.ensures c.new.ensures (rw c.holdable.ensures.same at c.joined.ensures)

pub returns-then-n-known-clause-answer : goal.returns-then-n-known-clause-answer
returns-then-n-known-clause-answer t c d =
    (rw c.slot-slot.ensures at (c.known.ensures c.args.self.now.survey.now.plan.now (rw c.holdable.ensures.same at c.holdable.new.self.right)).1) (in_pos c.args.left c.in-Some-lowest.low c.in-Some-lowest.ensures.member)
    (share_coverable c.args.self.now.survey.now.plan.now c.args.n c.args.open c.args.mine c.args.left c.known.result.short c.if-n-known.true d)

pub invariant_of-self : goal.invariant_of-self
invariant_of-self t c = record {
  right = c.note.ensures _ c.share.new.self.right (
    (c.known-known.ensures _ c.share.new.self.right).0,
    rw (c.slot-slot.ensures, c.share.ensures.same) (λ _ v. c.in_default-share.ensures.answer
        (cover_share c.holdable.new.self.survey.now.plan.now c.in-Some-lowest.low _ (one_shl c.in-Some-lowest.low 64 c.in-Some-lowest.ensures.low) c.args.n c.args.left c.difference.result c.difference.ensures c.in-Some-lowest.ensures.member v)),
  );
}

pub returns-in_default-share-clause-answer : goal.returns-in_default-share-clause-answer
returns-in_default-share-clause-answer t c d =
    let none = rw c.holdable.ensures.same at c.in_default-share.ensures.answer in
    none (cover_share c.args.self.now.survey.now.plan.now c.in-Some-lowest.low _ (one_shl c.in-Some-lowest.low 64 c.in-Some-lowest.ensures.low) c.args.n c.args.left c.difference.result c.difference.ensures c.in-Some-lowest.ensures.member
    (share_coverable c.args.self.now.survey.now.plan.now c.args.n c.args.open c.args.mine c.args.left c.args.n (le_refl c.args.n) d))

pub returns-in_default-clause-answer : goal.returns-in_default-clause-answer
returns-in_default-clause-answer t c =
    let d = rw c.holdable.ensures.same at c.in-Some-share.ensures.answer in
    joined_with c.args.self.now.survey.now.plan.now c.args.n c.args.open c.args.mine c.args.left (listed c.in-Some-share.others) c.joined-in_default.result c.in_default.ensures d.satisfy
    (shared_all c.args.self.now.survey.now.plan.now c.in-Some-lowest.low _ (one_shl c.in-Some-lowest.low 64 c.in-Some-lowest.ensures.low) c.args.n c.args.left c.difference.result c.difference.ensures (listed c.in-Some-share.others) (c.args.n - 1) d)
    (omega (arith, d.few, c.if-n-known.false))
    (rw (c.share.ensures.same, c.holdable.ensures.same) at c.joined-in_default.ensures)

pub share-requires-then-holdable : goal.share-requires-then-holdable
share-requires-then-holdable t c =
    let less = c.difference-rest.ensures.less c.in-Some.k c.in-Some.ensures.member (one_in c.args.self.now.survey.now.plan.now c.in-Some.k _ (one_shl c.in-Some.k 64 c.in-Some.ensures.low)) in
    let down : c.args.n * 2 ^ 64 + c.difference-rest.result < t = omega (arith, c.decreases, less) in
    (down, c.requires.few)

pub returns-in-Some-share-2-clause-answer : goal.returns-in-Some-share-2-clause-answer
returns-in-Some-share-2-clause-answer t c =
    shared_keep c.args.self.now.survey.now.plan.now c.in-Some.k _ (one_shl c.in-Some.k 64 c.in-Some.ensures.low) c.args.n c.args.open c.difference-rest.result c.difference-rest.ensures c.args.mine c.args.left (listed c.in-Some-share-2.us) (rw c.holdable-2.ensures.same at c.in-Some-share-2.ensures.answer)

pub returns-then-n-eq0-clause-answer : goal.returns-then-n-eq0-clause-answer
returns-then-n-eq0-clause-answer t c =
    share_alone c.args.self.now.survey.now.plan.now c.in-Some.k _ (one_shl c.in-Some.k 64 c.in-Some.ensures.low) c.args.n c.args.open c.difference-rest.result c.difference-rest.ensures c.args.mine c.args.left c.if-n-eq0.true c.in-Some.ensures.member
    (elim c.if-holdable.branch [
      | then-holdable+in_default-share-2 w ↦ rw c.holdable-2.ensures.same at w.in_default-share-2.ensures.answer
      | else-holdable w ↦ λ d. c.holdable-2.ensures.no w.if-holdable.false d.user (share_holder _ _ _ _ _ d)
    ])

pub share-requires-2 : goal.share-requires-2
share-requires-2 t c =
    let less = c.difference-rest.ensures.less c.in-Some.k c.in-Some.ensures.member (one_in c.args.self.now.survey.now.plan.now c.in-Some.k _ (one_shl c.in-Some.k 64 c.in-Some.ensures.low)) in
    let down : c.args.n * 2 ^ 64 + c.difference-rest.result < t = omega (arith, c.decreases, less) in
    (down, c.requires.few)

pub returns-clause-answer : goal.returns-clause-answer
returns-clause-answer t c =
    let same : c.if-holdable.self.survey.now ≡ c.args.self.now.survey.now = elim c.if-holdable.branch [
      | then-holdable+in_default-share-2 w ↦ ap (λ (s : Search). s.survey.now) w.self-is ∙ w.share-then-holdable.ensures.same ∙ c.holdable-2.ensures.same
      | else-holdable w ↦ ap (λ (s : Search). s.survey.now) w.self-is ∙ c.holdable-2.ensures.same
    ] in
    share_last c.args.self.now.survey.now.plan.now c.in-Some.k _ (one_shl c.in-Some.k 64 c.in-Some.ensures.low) c.args.n c.args.open c.difference-rest.result c.difference-rest.ensures c.args.mine c.args.left c.share-2.result c.in-Some.ensures.member
    (elim c.if-holdable.branch [
      | then-holdable+in_default-share-2 w ↦ rw c.holdable-2.ensures.same at w.in_default-share-2.ensures.answer
      | else-holdable w ↦ λ d. c.holdable-2.ensures.no w.if-holdable.false d.user (share_holder _ _ _ _ _ d)
    ])
    (rw same at c.share-2.ensures.answer)
