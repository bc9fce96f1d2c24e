use Rattle.std.proofs.Common.{◌≡◌, ℕ, ◌+◌, ◌^◌, cond, ◌⊎◌, ◌↔◌, drop, sym, ap, ◌∙◌, subst, inl, inr, arith}
use lib.Bits.{bit_or}
use Rattle.std.proofs.lemmas.Bool.{lt-ltb}
use Rattle.terms.specs.Sets.{In}
use Rattle.terms.proofs.Bits.{none_in}
use Rattle.script.specs.Words.{Names}
use Rattle.script.proofs.Numbers.{one_number}
use Rattle.script.proofs.Naming.{member_at, turn}
use Rattle.script.proofs.words.members.Goals as goal

pub loop-word-init : goal.loop-word-init
loop-word-init c k = ((λ h. elim h [ inl a ↦ none_in k a | inr b ↦ b ]), λ h. inr h)

pub returns-in_err-member : goal.returns-in_err-member
returns-in_err-member c =
    let ws = c.args.words.now in
    rw c.from_residual.ensures (λ all. let m = member_at ws c.loop-word.word-index _ (omega arith) all in c.in_err-member.ensures m.0 m.2)

pub returns-then-member-gt63 : goal.returns-then-member-gt63
returns-then-member-gt63 c all =
    let m = member_at c.args.words.now c.loop-word.word-index _ (omega arith) all in
    let same = one_number _ m.0 c.in_ok-member.member m.2 c.in_ok-member.ensures in
    let low = m.1 in
    omega arith

pub loop-word-preserved : goal.loop-word-preserved
loop-word-preserved c =
    let ws = c.args.words.now in
    let i = c.loop-word.word-index in
    let m = c.in_ok-member.member in
    let more : c.with_member-set.result ≡ bit_or c.loop-word.set (2 ^ m) = c.with_member-set.ensures ∙ ap (λ t. cond t (bit_or c.loop-word.set (2 ^ m)) c.loop-word.set) (lt-ltb m 64 (omega arith)) in
    let next = turn ws i _ c.loop-word.set m (omega arith) c.in_ok-member.ensures c.loop-word.invariant in
    subst (λ set. (k : ℕ) → (In k set ⊎ Names (drop (i + 1) ws) k) ↔ Names ws k) (sym more) next
