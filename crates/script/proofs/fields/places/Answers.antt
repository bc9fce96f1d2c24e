use Rattle.std.proofs.Common.{◌≡◌, true, [], ◌∷◌, ◌++◌, Ok, Some, vec_items, sym, ap, ◌∙◌, subst, append-nil, rules}
use Rattle.text.specs.declared.field.Field.{Field}
use Rattle.text.specs.Steps.{Step}
use Rattle.script.specs.Listing.{place, Listed}
use Rattle.script.proofs.Listing.{none_handed, fault_handed, listed_more, listed_stop}
use Rattle.script.proofs.fields.places.Goals as goal
use Rattle.script.proofs.fields.places.Goals.{in_default, in_default-2}

pub loop-field-preserved : goal.loop-field-preserved
loop-field-preserved c =
    let text = c.args.text.now in
    let walk = c.loop-field.walk in
    let after = c.next_field.new.self in
    let f = c.in-Ok-Some.field in
    let before = vec_items c.loop-field.places in
    let step : Step text walk.reader.at walk.inside (Ok (Some f)) after.reader.at after.inside = rw c.loop-field.invariant.0 at (rw c.in-Ok-Some.field-0-is at c.in-Ok-Some.ensures.step) in
    let pushed : vec_items c.push.new.self ≡ before ++ (place f ∷ []) = c.in_ok-push.ensures.items ∙ ap (λ p. before ++ (p ∷ [])) c.from.ensures in (
      ap (λ t. t.now) c.in-Ok-Some.ensures.same ∙ c.loop-field.invariant.0,
      λ ps l. subst (λ qs. Listed text true 0 (qs ++ ps)) (sym pushed) (listed_more text before walk.inside after.inside walk.reader.at after.reader.at f step c.loop-field.invariant.1 ps l),
    )

pub returns : goal.returns
returns c =
    let text = c.args.text.now in
    let walk = c.loop-field.walk in
    let after = c.next_field.new.self in
    let stops : (f : Field) → c.next_field.result ≡ Ok (Some f) → ⊥ = elim c.match-next_field.branch [ in_default w ↦ none_handed c.next_field.result w.in_default.field-0 w.in_default.is (search rules) | in_default-2 w ↦ fault_handed c.next_field.result w.in_default.field-0 w.in_default.is ] in
    let step = rw c.loop-field.invariant.0 at c.next_field.ensures.step in
    let whole = c.loop-field.invariant.1 [] (listed_stop text walk.inside after.inside walk.reader.at after.reader.at c.next_field.result stops step) in
    subst (λ qs. Listed text true 0 qs) (append-nil (vec_items c.loop-field.places)) whole
