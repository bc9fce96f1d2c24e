use Rattle.std.proofs.Common.{[], ◌++◌, vec_items, sym, subst, append-nil, arith}
use Rattle.script.specs.Literals.{Spells}
use Rattle.script.specs.Literals.Spells.{none}
use Rattle.script.proofs.Spelling.{spells_after, spells_not, spells_more}
use Rattle.script.proofs.literals.spelled.Goals as goal

pub loop-rest-preserved : goal.loop-rest-preserved
loop-rest-preserved c =
    let ts = c.args.typed.now in
    let rest = c.loop-rest.rest.now in
    let after = c.in-Some.after.now in
    let b = c.in-Some.byte in
    let first = c.in-Some.ensures in (
      λ bytes s. subst (λ l. Spells ts 0 (l ++ bytes)) (sym c.in_ok-push.ensures.items) (spells_more ts (vec_items c.loop-rest.bytes) rest after b first c.loop-rest.invariant.0 bytes s),
      λ bytes s. let left = c.loop-rest.invariant.1 bytes s in spells_after rest after b left.0 (grind arith) first left.1,
    )

pub returns-in_default : goal.returns-in_default
returns-in_default c bytes s =
    let left = c.loop-rest.invariant.1 bytes s in
    spells_not c.loop-rest.rest.now left.0 (grind arith) c.in_default.ensures left.1

pub returns : goal.returns
returns c =
    let ts = c.args.typed.now in
    subst (λ l. Spells ts 0 l) (append-nil (vec_items c.loop-rest.bytes)) (c.loop-rest.invariant.0 [] (none (grind arith)))
