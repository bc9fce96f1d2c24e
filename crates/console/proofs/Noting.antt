-- What is accepted of a log with one entry more, and of a log whose answers were written anew. Assumes nothing.
use Rattle.std.proofs.Common.{◌≡◌, List, [], ◌∷◌, ◌++◌, length, Vec, sym, ap, ◌∙◌, subst, append_assoc, append-nil}
use mathlib.Core.Logic.{∥∥₁_map}
use Rattle.std.specs.Vec.{with_items}
use Rattle.std.proofs.lemmas.List.{with_items_is}
use Rattle.plan.specs.History.{made, additions, accepted, Means}
use Rattle.plan.specs.declared.Addition.{Addition}
use Rattle.plan.specs.declared.Entry.{Entry}
use Rattle.plan.specs.declared.Plan.{Plan}

accepted_more : (log : List Entry) (e : Entry) → accepted (log ++ (e ∷ [])) ≡ accepted log ++ made e.addition e.answer
accepted_more [] e = append-nil (made e.addition e.answer)
accepted_more (x ∷ log) e = ap (λ l. made x.addition x.answer ++ l) (accepted_more log e) ∙ sym (append_assoc (made x.addition x.answer) (accepted log) (made e.addition e.answer))

-- the plan with one addition more is what was accepted of the log with one entry more
pub noted : (log more : List Entry) (e : Entry) (p q : Plan) → more ≡ log ++ (e ∷ []) → ((xs : List Addition) → Means xs p → Means (xs ++ made e.addition e.answer) q) → ∥ Means (accepted log) p ∥₁ → ∥ Means (accepted more) q ∥₁
noted log more e p q is step before =
    ∥∥₁_map before (λ m. subst (λ xs. Means xs q) (sym (ap accepted is ∙ accepted_more log e)) (step (accepted log) m))

-- a log whose entries were written anew
module _ {Z : Type 0} (v : Vec Entry Z) (log : List Entry) (long : length log ≡ v.len) where
  pub same_additions : (before : List Entry) → additions log ≡ additions before → before ≡ v.items → additions (with_items v log).items ≡ additions v.items
  same_additions before kept was = ap additions (with_items_is v log long) ∙ kept ∙ ap additions was

  pub means_anew : (p : Plan) → Means (accepted log) p → ∥ Means (accepted (with_items v log).items) p ∥₁
  means_anew p m = ∣ subst (λ es. Means (accepted es) p) (sym (with_items_is v log long)) m ∣₁
